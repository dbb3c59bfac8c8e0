-- The line of a fault, if the queries can't be asked.
use Rattle.std.proofs.Common.{[], inl, refl, rules}
use Rattle.station_answers.specs.Naming.{IsFaultBetween}
use Rattle.image_commands.specs.Departing.{AreAllShown, IsNoneAsked, targets_asked, window_asked}
use Rattle.image_commands.specs.Refusing.{refusal_line}
use Rattle.image_commands.specs.declared.refusal.CommandRefusal.TheVariants.{Query}
use Rattle.command_endings.proofs.Outcomes.{outcome_of, refused_or}
use Rattle.image_commands.proofs.departures.run.Goals as goal

pub returns-else-status-eq-REFUSED : goal.returns-else-status-eq-REFUSED
returns-else-status-eq-REFUSED g c =
    let may_hold = g.H.ImageDisk.may_hold c.args.rt.now in
    let image = c.args.image.now in
    let request = c.args.request.now in
    let names = c.args.names in
    let fault = c.in-Err-Bad.fault in
    let bad : IsFaultBetween image [] (targets_asked request) (window_asked request) fault = search rules in
    let done = rw c.in-Err-Bad.fault-is at c.print_refusal-status.ensures in
    outcome_of _ _ _ _ _ _ _ _ (λ s text is. is) (λ none. absurd none)
    (refused_or (AreAllShown may_hold names image request) (IsNoneAsked may_hold image request) _ _ (refusal_line (Query fault)) _ _
    (inl (fault, bad, refl)) done.status done.printed done.silent done.begun done.failed)
