-- What `csa` prints and writes, and with which status it ends.
use Rattle.std.specs.Prelude.{◌≡◌, ◌≢◌, ◌⊎◌, ◌<◌, ℕ, ℤ, List, Option, Result, Ok, Err, codes, string_bytes}
use Rattle.std.specs.Io.KnownBytes.{Appends}
use Rattle.std.specs.declared.io.ErrorKind.{ErrorKind}
use Rattle.feed_files.specs.Files.{Gives}
use Rattle.image_files.specs.Held.{HoldsOfBytes, IsUnreadable}
use Rattle.image_files.specs.Watching.{HasFault, IsBegun}
use Rattle.image_files.specs.Out.{OutFiles}
use Rattle.image_files.specs.declared.names.NameForm.{NameForm}
use Rattle.image_layout.specs.Image.{ImageValue}
use Rattle.command_line.specs.declared.reading.NoCommand.{NoCommand}
use Rattle.command_line.specs.declared.reading.NoCommand.TheVariants.{Help, Mistake, OutOfMemory}
use Rattle.command_requests.specs.declared.requests.CommandRequest.{CommandRequest}
use Rattle.command_requests.specs.declared.requests.CommandRequest.TheVariants as requests
use Rattle.command_requests.specs.declared.requests.MatrixRequest.{MatrixRequest}
use Rattle.command_requests.specs.declared.requests.ServeRequest.{ServeRequest}
use Rattle.command_requests.specs.declared.statuses.TheConstants.{ACCEPTED, COMMAND_LINE, INPUT_OUTPUT, OUT_OF_MEMORY, REFUSED}
use Rattle.feed_commands.specs.Building.{IsReport, IsUnusable as BuildIsUnusable}
use Rattle.command_requests.specs.Paths.{path_of}
use Rattle.command_requests.specs.declared.requests.ImageRequest.{ImageRequest}
use Rattle.image_commands.specs.Commands.{IsUnusable, PrintsAsked}
use Rattle.command_endings.specs.Ending.{IsOutcome, PrintsRefusal}
use Rattle.feed_commands.specs.Folders.{AreDaysOf, IsBuildRefusal, IsTablesRefusalOf}
use Rattle.image_commands.specs.Matrices.{EndsTable, IsTableCutShort, IsTablePrinted, IsTableRefused, IsTableSpent, IsTableUnlisted}
use Rattle.image_commands.specs.Opening.{IsRefusedImage, PrintsOver, SpellsImage}
use Rattle.feed_commands.specs.Refusing.{IsFeedRefusal, PrintsOfFeed}
use Rattle.feed_loader.specs.declared.plan.Plan.{Plan}
use Rattle.feed_plans.specs.Planning.{IsPlanBy}
use Rattle.feed_plans.specs.Zoning.{AreZoneBytes, IsNoZoneOf, IsZoneUnreadable}
use Rattle.feed_commands.specs.Stations.{IsStopsRefusal, IsTextOf}
use Rattle.feed_commands.specs.Tabling.{IsCounts}
use Rattle.csa_program.specs.Serving.{IsEndAt, MayHost}

-- a text was printed; or the output has a fault, and a first part of it was
abbrev pub IsTextEnd : List ℕ → Option ErrorKind → ℕ → Option (List ℕ) → Option (List ℕ) → Type 0
IsTextEnd text fault status before after =
    ((status ≡ ACCEPTED) × Appends before after text) ⊎ ((status ≡ INPUT_OUTPUT) × HasFault fault × IsBegun before after text)

-- `may_hold` says what a file at a path may hold, `may_fail` that it may not be read, and the path `-` is the input, of which it is said whether a read failed;
-- `names` says how names are written to the output
module _ (may_hold : List ℕ → Option (List ℕ) → Type 0) (may_fail : List ℕ → Type 0) (disk : OutFiles) (names : NameForm) (input : Option (List ℕ))
    (input_failed : Type 0) (request : MatrixRequest) (fault : Option ErrorKind) where
  -- what was printed of a table if it ends with 3: the image can't be read, or the output has a fault, or a file of the table can't be read or written
  abbrev pub IsTableCut : Option (List ℕ) → Option (List ℕ) → Type 0
  IsTableCut before after =
      (IsUnreadable may_fail request.image.now input_failed × (after ≡ before))
      ⊎ (HasFault fault × (line : List ℕ) × IsRefusedImage may_hold request.image.now input line × IsBegun before after line)
      ⊎ ((image : ImageValue) × HoldsOfBytes may_hold request.image.now input (SpellsImage image)
      × IsTableCutShort may_hold may_fail disk names image request fault before after)

  -- a table over the image at its path ended so
  pub record IsTableEnd (status : ℕ) (before after : Option (List ℕ)) : Type 0 where
    pub ends : EndsTable status
    pub printed : status ≡ ACCEPTED → (image : ImageValue) × HoldsOfBytes may_hold request.image.now input (SpellsImage image)
        × IsTablePrinted may_hold disk names image request before after
    pub refused : status ≡ REFUSED
        → ((line : List ℕ) × IsRefusedImage may_hold request.image.now input line × Appends before after line)
        ⊎ ((image : ImageValue) × HoldsOfBytes may_hold request.image.now input (SpellsImage image)
        × IsTableRefused may_hold image request before after)
    pub unlisted : status ≡ COMMAND_LINE → (image : ImageValue) × HoldsOfBytes may_hold request.image.now input (SpellsImage image)
        × IsTableUnlisted may_hold image request before after
    pub cut : status ≡ INPUT_OUTPUT → IsTableCut before after
    -- memory ran out
    pub spent : status ≡ OUT_OF_MEMORY
        → (after ≡ before)
        ⊎ ((image : ImageValue) × HoldsOfBytes may_hold request.image.now input (SpellsImage image)
        × IsTableSpent may_hold names image request before after)

-- the image at a path may not be read; or there is one, and what is needed besides isn't to be had
abbrev pub IsUnusableOver : (List ℕ → Option (List ℕ) → Type 0) → (List ℕ → Type 0) → Option (List ℕ) → Type 0 → List ℕ → (ImageValue → Type 0) → Type 0
IsUnusableOver may_hold may_fail input input_failed path Lacks =
    IsUnreadable may_fail path input_failed ⊎ ((image : ImageValue) × HoldsOfBytes may_hold path input (SpellsImage image) × Lacks image)

-- `may_hold` says what a file at a path may hold, and `may_fail` that it may not be read; the path `-` is the input, of which it is said whether a read
-- failed; `may_show` says what the clock may show
module _ (may_hold : List ℕ → Option (List ℕ) → Type 0) (may_fail : List ℕ → Type 0) (may_show : Option ℤ → Type 0)
    (input : Option (List ℕ)) (input_failed : Type 0) (request : ServeRequest) where
  -- the bytes are those of the zone's file, and a plan was made of them as it is asked for
  abbrev pub IsPlanned : List ℕ → Type 0
  IsPlanned zone_bytes = AreZoneBytes may_hold request.plan.zone zone_bytes × ((plan : Plan) × IsPlanBy may_show request.plan zone_bytes plan)

  -- what is refused before a server listens: its zone, or, once a plan was made, its image
  abbrev pub IsServeRefusal : ℕ → List ℕ → Type 0
  IsServeRefusal status line = IsFeedRefusal (IsNoZoneOf may_hold request.plan) status line
      ⊎ ((zone_bytes : List ℕ) × IsPlanned zone_bytes × PrintsRefusal (IsRefusedImage may_hold request.image.now input) status line)

  -- a server ended so, at the port that is asked for, if one is; at its path was this image, and its plan was made of these bytes of its zone's file.
  -- `may_host` says how the sessions of a server that is asked for may end
  pub record IsEndOfRun (may_host : MayHost) (fault : Option ErrorKind) (status : ℕ) (before after : Option (List ℕ)) : Type 0 where
    pub image : ImageValue
    pub zone_bytes : List ℕ
    pub port : ℕ
    pub planned : IsPlanned zone_bytes
    pub held : HoldsOfBytes may_hold request.image.now input (SpellsImage image)
    pub at : request.port ≢ 0 → port ≡ request.port
    pub small : port < 65_536
    pub ended : IsEndAt (may_host request image zone_bytes) port fault before after status

  -- a server can't be begun: its zone's file may not be read; or, once a plan was made, its image; or that is one, and nothing listens at its port, of
  -- which it isn't said that nothing can
  abbrev pub IsUnservable : Type 0
  IsUnservable = IsZoneUnreadable may_fail request.plan.zone
      ⊎ ((zone_bytes : List ℕ) × IsPlanned zone_bytes
      × IsUnusableOver may_hold may_fail input input_failed request.image.now (λ image. Unit {0}))

  -- a server was refused, or can't be begun, or ended so
  abbrev pub IsServeEnd : MayHost → Option ErrorKind → ℕ → Option (List ℕ) → Option (List ℕ) → Type 0
  IsServeEnd may_host fault status before after =
      IsOutcome IsServeRefusal IsUnservable fault status before after ⊎ IsEndOfRun may_host fault status before after

-- a command over the image at its path ended so; `disk` says what is known of files that are written, `names` how names are written in lines to the output,
-- and `fault` is that of the output
abbrev pub IsEndOver : (List ℕ → Option (List ℕ) → Type 0) → (List ℕ → Type 0) → OutFiles → NameForm → Option (List ℕ) → Type 0 → Option ErrorKind
    → ImageRequest → ℕ → Option (List ℕ) → Option (List ℕ) → Type 0
IsEndOver may_hold may_fail disk names input input_failed fault asked =
    IsOutcome (PrintsOver may_hold (path_of asked) input (λ image. PrintsAsked may_hold disk names image asked))
    (IsUnusableOver may_hold may_fail input input_failed (path_of asked) (λ image. IsUnusable may_fail may_hold disk image asked)) fault

-- `gives` says what a disk of some kind may give for a folder in some state and the name of a file, `disk` what is known of files that are written, and
-- `names` how names are written in lines to the output;
-- `may_fail` that a file at a path may not be read, and `input_failed` that a read of the input failed; `may_host` says how the sessions of a server may end;
-- `fault` is that of the output
module _ {D : Type 0} (may_hold : List ℕ → Option (List ℕ) → Type 0) (may_fail : List ℕ → Type 0) (gives : Gives D) (disk : OutFiles)
    (names : NameForm) (may_show : Option ℤ → Type 0) (may_host : MayHost) (input : Option (List ℕ)) (input_failed : Type 0)
    (fault : Option ErrorKind) where
  -- a command ended so, over the image at its path, or over the files of its folder
  abbrev pub IsEnd : CommandRequest → ℕ → Option (List ℕ) → Option (List ℕ) → Type 0
  IsEnd (requests.OverImage asked) = IsEndOver may_hold may_fail disk names input input_failed fault asked
  IsEnd (requests.Matrix request) = IsTableEnd may_hold may_fail disk names input input_failed request fault
  IsEnd (requests.Tables request) = IsOutcome (PrintsOfFeed (IsCounts gives request) (IsTablesRefusalOf gives request.folder.now)) ⊥ fault
  IsEnd (requests.Days request) =
      IsOutcome (PrintsOfFeed (AreDaysOf gives request.folder.now request.json) (IsTablesRefusalOf gives request.folder.now)) ⊥ fault
  IsEnd (requests.Stations request) =
      IsOutcome (PrintsOfFeed (IsTextOf gives request.folder.now request) (IsStopsRefusal gives request.folder.now)) ⊥ fault
  IsEnd (requests.Build request) =
      IsOutcome (PrintsOfFeed (IsReport gives may_hold may_show disk request) (IsBuildRefusal gives request.folder.now may_hold may_show request.plan))
      (BuildIsUnusable gives may_hold may_fail may_show disk request) fault
  IsEnd (requests.Serve request) = IsServeEnd may_hold may_fail may_show input input_failed request may_host fault

  -- a command line ended so: the request that it makes, or the help; or it makes none, or memory ran out, and nothing was printed
  abbrev pub IsEndOf : Result CommandRequest NoCommand → ℕ → Option (List ℕ) → Option (List ℕ) → Type 0
  IsEndOf (Ok request) = IsEnd request
  IsEndOf (Err (Help text)) = IsTextEnd (string_bytes text) fault
  IsEndOf (Err (Mistake text)) = λ status before after. (status ≡ COMMAND_LINE) × (after ≡ before)
  IsEndOf (Err OutOfMemory) = λ status before after. (status ≡ OUT_OF_MEMORY) × (after ≡ before)

-- the request is of an image on standard input
abbrev pub IsOfInput : CommandRequest → Type 0
IsOfInput (requests.OverImage asked) = path_of asked ≡ codes "-"
IsOfInput (requests.Matrix request) = request.image.now ≡ codes "-"
IsOfInput (requests.Tables request) = ⊥
IsOfInput (requests.Days request) = ⊥
IsOfInput (requests.Stations request) = ⊥
IsOfInput (requests.Build request) = ⊥
IsOfInput (requests.Serve request) = request.image.now ≡ codes "-"

-- the words make such a request
abbrev pub IsOfInputOf : Result CommandRequest NoCommand → Type 0
IsOfInputOf (Ok request) = IsOfInput request
IsOfInputOf (Err none) = ⊥
