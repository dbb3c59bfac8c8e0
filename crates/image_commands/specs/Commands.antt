-- What a command over an image prints, of what is done and of what is refused.
use Rattle.std.specs.Prelude.{◌≡◌, ℕ, List, Option}
use Rattle.image_files.specs.Out.{OutFiles}
use Rattle.image_files.specs.declared.names.NameForm.{NameForm}
use Rattle.image_files.specs.Writing.{IsImagePut, IsUnwritable}
use Rattle.image_layout.specs.Image.{ImageValue}
use Rattle.command_requests.specs.declared.requests.DeparturesRequest.{DeparturesRequest}
use Rattle.command_requests.specs.declared.requests.ProfileRequest.{ProfileRequest}
use Rattle.image_commands.specs.Answering.{IsAnswered, IsNoRequest, LacksPicture}
use Rattle.image_commands.specs.Counting.{counts_line}
use Rattle.image_commands.specs.Departing.{AreAllShown, IsNoneAsked, LacksList}
use Rattle.command_endings.specs.Ending.{Prints, PrintsOnly}
use Rattle.image_commands.specs.Informing.{IsInfo}
use Rattle.image_commands.specs.Judging.{IsAccepted, IsFaulty}
use Rattle.image_commands.specs.StopLines.{AreStopsAsked}
use Rattle.command_requests.specs.declared.requests.ImageRequest.{ImageRequest}
use Rattle.command_requests.specs.declared.requests.ImageRequest.TheVariants.{Verify, Info, Journey, Profile, Departures, Stops, Upgrade}

-- the image was put at the path in the current layout, and the line has its counts
abbrev pub IsUpgraded : OutFiles → ImageValue → List ℕ → List ℕ → Type 0
IsUpgraded disk image out line = IsImagePut disk out image.timetable image.names × (line ≡ counts_line image)

-- a file that the command needs besides the image may not be read or written: the list of a question, the picture of an answer, or the image that it writes
abbrev pub IsUnusable : (List ℕ → Type 0) → (List ℕ → Option (List ℕ) → Type 0) → OutFiles → ImageValue → ImageRequest → Type 0
IsUnusable may_fail may_hold disk image (Verify path) = ⊥
IsUnusable may_fail may_hold disk image (Info request) = ⊥
IsUnusable may_fail may_hold disk image (Journey request) = ⊥
IsUnusable may_fail may_hold disk image (Profile request) = LacksPicture disk image request
IsUnusable may_fail may_hold disk image (Departures request) = LacksList may_fail may_hold image request
IsUnusable may_fail may_hold disk image (Stops request) = ⊥
IsUnusable may_fail may_hold disk image (Upgrade request) = IsUnwritable disk request.out.now

-- what a question's answer is, with names in this form in lines, or why it can't be asked
abbrev pub PrintsProfile : OutFiles → NameForm → ImageValue → ProfileRequest → ℕ → List ℕ → Type 0
PrintsProfile disk names image request = Prints (IsAnswered disk names image request) (IsNoRequest image request)

-- the same of the queries from every stop; `may_hold` says what a file at a path may hold
abbrev pub PrintsDepartures : (List ℕ → Option (List ℕ) → Type 0) → NameForm → ImageValue → DeparturesRequest → ℕ → List ℕ → Type 0
PrintsDepartures may_hold names image request = Prints (AreAllShown may_hold names image request) (IsNoneAsked may_hold image request)

module _ (may_hold : List ℕ → Option (List ℕ) → Type 0) (disk : OutFiles) (names : NameForm) where
  -- what the command may print of the image, with names in this form in lines, and with which status. A journey or a question is refused for its first
  -- fault; a list of stops is refused for a line that is no stop_id, and then nothing is printed; nothing else is refused
  abbrev pub PrintsAsked : ImageValue → ImageRequest → ℕ → List ℕ → Type 0
  PrintsAsked image (Verify path) = PrintsOnly (λ text. text ≡ counts_line image)
  PrintsAsked image (Info request) = PrintsOnly (IsInfo request.json image)
  PrintsAsked image (Journey request) = Prints (IsAccepted image request.question request.text.now) (IsFaulty image request.question request.text.now)
  PrintsAsked image (Profile request) = PrintsProfile disk names image request
  PrintsAsked image (Departures request) = PrintsDepartures may_hold names image request
  PrintsAsked image (Stops request) = PrintsOnly (AreStopsAsked names image request)
  PrintsAsked image (Upgrade request) = PrintsOnly (IsUpgraded disk image request.out.now)
