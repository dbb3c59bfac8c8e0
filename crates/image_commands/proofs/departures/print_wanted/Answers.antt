-- What is printed is the answer, or nothing if it isn't known which stops are wanted.
use Rattle.std.proofs.Common.{◌≡◌, ℕ, List, [], Option, None, Some, inl, inr, refl, rules}
use Rattle.std.specs.Borrow.{Bor}
use Rattle.std.specs.declared.io.ErrorKind.{ErrorKind}
use Rattle.departure_lines.specs.Showing.{names_of}
use Rattle.image_files.specs.Naming.{printed}
use Rattle.image_files.specs.declared.names.NameForm.{NameForm}
use Rattle.image_layout.specs.Image.{ImageValue}
use Rattle.profile_scan.specs.Destinations.{question_to_any}
use Rattle.scan_state.specs.SetQuery.{SetQueryValue}
use Rattle.station_answers.specs.Naming.{IsFaultBetween}
use Rattle.command_requests.specs.declared.requests.DeparturesRequest.{DeparturesRequest}
use Rattle.image_commands.specs.Commands.{PrintsDepartures}
use Rattle.image_commands.specs.Departing.{AreAllShown, AreShownBy, AsksOfAll, HasUnknownFrom, IsListUnreadable, IsNoListFrom}
use Rattle.image_commands.specs.Departing.{IsNoneAsked, LacksList, list_status, targets_asked, window_asked}
use Rattle.command_endings.specs.Ending.{IsOutcome, Prints, PrintsOnly}
use Rattle.image_commands.specs.Refusing.{refusal_line}
use Rattle.image_commands.specs.declared.refusal.CommandRefusal.TheVariants.{Query}
use Rattle.image_commands.specs.declared.wanted_stops.NoList.{NoList}
use Rattle.image_commands.specs.declared.wanted_stops.NoList.TheVariants.{NotText, OutOfMemory, UnknownStop, Unreadable}
use Rattle.command_endings.proofs.Outcomes.{outcome_of, refused_or, refused_silently}
use Rattle.image_commands.proofs.departures.print_wanted.Goals as goal

module _ (may_hold : List ℕ → Option (List ℕ) → Type 0) (may_fail : List ℕ → Type 0) (names : NameForm) (image : ImageValue)
    (request : DeparturesRequest) where
  -- a line that is reported as unknown is one of the file that is given
  has_unknown : (from : Option (Bor (List ℕ))) (number : ℕ) → IsNoListFrom may_hold may_fail from image.names (UnknownStop number)
      → HasUnknownFrom may_hold from image.names
  has_unknown None number none = none
  has_unknown (Some path) number (text, at, is) = (text, at, (number, is))

  -- a file is given that can't be read
  not_read : (from : Option (Bor (List ℕ))) → IsNoListFrom may_hold may_fail from image.names Unreadable → IsListUnreadable may_fail may_hold from
  not_read None none = none
  not_read (Some path) none = none

  not_text : (from : Option (Bor (List ℕ))) → IsNoListFrom may_hold may_fail from image.names NotText → IsListUnreadable may_fail may_hold from
  not_text None none = none
  not_text (Some path) none = none

  -- a list that names no stops is refused in silence, or can't be read
  unlisted : (asked : (b : SetQueryValue) × AsksOfAll image request b) (failure : NoList) (fault : Option ErrorKind) (status : ℕ) (known : Option (List ℕ))
      → IsNoListFrom may_hold may_fail request.from image.names failure → status ≡ list_status failure
      → IsOutcome (PrintsDepartures may_hold names image request) (LacksList may_fail may_hold image request) fault status known known
  unlisted asked (UnknownStop number) fault status known unknown is =
      refused_silently (AreAllShown may_hold names image request) (IsNoneAsked may_hold image request) _ fault status known
      (inr (asked.0, asked.1, has_unknown request.from number unknown, refl)) is
  unlisted asked Unreadable fault status known unknown is = inr (inr (inl (is, (not_read request.from unknown, asked)), refl))
  unlisted asked NotText fault status known unknown is = inr (inr (inl (is, (not_text request.from unknown, asked)), refl))
  unlisted asked OutOfMemory fault status known unknown is = inr (inr (inr is, refl))

pub returns-in-Ok : goal.returns-in-Ok
returns-in-Ok g c =
    let may_hold = g.H.ImageDisk.may_hold c.args.rt.now in
    let image = c.args.image.now in
    let request = c.args.request.now in
    let names = c.args.names in
    let wanted = c.in-Ok.wanted in
    let asked = question_to_any c.args.destinations.now in
    outcome_of (PrintsOnly (AreShownBy request.criterion request.form (printed (names_of request.form names) image) asked wanted))
    (Prints (AreAllShown may_hold names image request) (IsNoneAsked may_hold image request)) _ _ _ _ _ _
    (λ s text is. inl (is.0, (asked, wanted, c.requires, c.in-Ok.ensures, is.1))) (λ none. absurd none) c.print_all.ensures

pub returns-in-Err : goal.returns-in-Err
returns-in-Err g c =
    unlisted (g.H.ImageDisk.may_hold c.args.rt.now) (g.H.ImageDisk.may_fail c.args.rt.now) c.args.names c.args.image.now c.args.request.now
    (question_to_any c.args.destinations.now, c.requires) c.in-Err.failure _ _ _ c.in-Err.ensures c.explain_list.ensures.kind
