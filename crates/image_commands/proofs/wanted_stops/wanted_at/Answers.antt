-- The list is the text of the file at the path.
use Rattle.std.proofs.Common.{◌≢◌, ◌∙◌, ℕ, List, Option, Result, Ok, Err, IfErr, IfOk, MatchResult, subst, sym}
use Rattle.std.specs.Str.Lines.{lines}
use Rattle.std.specs.declared.io.ErrorKind.{ErrorKind}
use Rattle.std.specs.declared.io.ErrorKind.TheVariants as kinds
use Rattle.departure_lines.specs.Naming.{AreWanted}
use Rattle.departure_lines.specs.declared.stop_lists.WantedStops.{WantedStops}
use Rattle.timetable.specs.NamesValue.{NamesValue}
use Rattle.image_commands.specs.Departing.{IsListed, IsNoListAt, IsUnknown, IsUnlisted}
use Rattle.image_files.specs.Texts.{IsNoTextAt, IsTextAt}
use Rattle.image_commands.specs.declared.wanted_stops.NoList.{NoList}
use Rattle.image_commands.specs.declared.wanted_stops.NoList.TheVariants.{NotText, UnknownStop, Unreadable, OutOfMemory}
use Rattle.image_commands.proofs.wanted_stops.wanted_at.Goals as goal

wanted_of_text : (may_hold : List ℕ → Option (List ℕ) → Type 0) (may_fail : List ℕ → Type 0) (path text : List ℕ) (names : NamesValue)
    (r : Result WantedStops NoList)
    → IsTextAt may_hold path text → IfOk r (AreWanted names (lines text)) → IfErr r (λ failure. IsUnknown names failure text)
    → MatchResult r (IsListed may_hold path names) (IsNoListAt may_hold may_fail path names)
wanted_of_text may_hold may_fail path text names (Ok wanted) at are unknown = (text, at, are)
wanted_of_text may_hold may_fail path text names (Err (UnknownStop number)) at are unknown = (text, at, unknown)
wanted_of_text may_hold may_fail path text names (Err Unreadable) at are unknown = absurd unknown
wanted_of_text may_hold may_fail path text names (Err NotText) at are unknown = absurd unknown
wanted_of_text may_hold may_fail path text names (Err OutOfMemory) at are unknown = tt

unread : (may_hold : List ℕ → Option (List ℕ) → Type 0) (may_fail : List ℕ → Type 0) (path : List ℕ) (names : NamesValue) (kind : ErrorKind) (failure : NoList)
    → IsUnlisted kind failure → (kind ≢ kinds.OutOfMemory → IsNoTextAt may_fail may_hold path) → IsNoListAt may_hold may_fail path names failure
unread may_hold may_fail path names kind (UnknownStop number) is none = absurd is
unread may_hold may_fail path names kind Unreadable is none = none is.0
unread may_hold may_fail path names kind NotText is none = none is.0
unread may_hold may_fail path names kind OutOfMemory is none = tt

pub returns-in-Err : goal.returns-in-Err
returns-in-Err g c =
    unread (g.H.ImageDisk.may_hold c.args.rt.now) (g.H.ImageDisk.may_fail c.args.rt.now) c.args.path.now c.args.image.now.names _ c.unlisted.result
    c.unlisted.ensures (λ other. c.in-Err.ensures.failed (λ e. other (c.kind.ensures ∙ e)))

pub returns-in-Ok : goal.returns-in-Ok
returns-in-Ok g c =
    let may_hold = g.H.ImageDisk.may_hold c.args.rt.now in
    wanted_of_text may_hold (g.H.ImageDisk.may_fail c.args.rt.now) c.args.path.now c.as_str.result.now c.args.image.now.names c.wanted_of-wanted.result
    (subst (IsTextAt may_hold c.args.path.now) (sym c.as_str.ensures.value) c.in-Ok.ensures.text)
    c.wanted_of-wanted.ensures.wanted c.wanted_of-wanted.ensures.unknown
