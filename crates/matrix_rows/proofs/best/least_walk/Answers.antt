use Rattle.std.proofs.Common.{◌+◌, ℕ, List, Option, get_or, subst, sym, take}
use Rattle.std.proofs.lemmas.List.{take_all, take_more}
use Rattle.std.proofs.lemmas.List.Elements.{Contains-get_or}
use Rattle.profile_scan.specs.Everywhere.{asked_to_any}
use Rattle.matrix_rows.specs.Merging.{shorter_of}
use Rattle.matrix_rows.specs.Tables.{IsLeastWalk, from_stops}
use Rattle.matrix_rows.proofs.Walks.{walk_of_more, walk_of_none}
use Rattle.matrix_rows.proofs.best.least_walk.Goals as goal

pub loop-stop-init : goal.loop-stop-init
loop-stop-init g c = walk_of_none c.args.image.now.timetable (asked_to_any c.args.profiles.now)

pub walk_from-requires-clause-within : goal.walk_from-requires-clause-within
walk_from-requires-clause-within g c =
    c.requires.within _ (Contains-get_or c.args.stops.now c.loop-stop.stop-index 0 c.loop-stop-test.true)

pub walk_from-requires-clause-apart : goal.walk_from-requires-clause-apart
walk_from-requires-clause-apart g c = λ h.
    c.requires.apart (_, Contains-get_or c.args.stops.now c.loop-stop.stop-index 0 c.loop-stop-test.true, h)

pub loop-stop-preserved : goal.loop-stop-preserved
loop-stop-preserved g c =
    let t = c.args.image.now.timetable in
    let d = asked_to_any c.args.profiles.now in
    let stops = c.args.stops.now in
    let index = c.loop-stop.stop-index in
    subst (λ (w : Option ℕ). IsLeastWalk t (from_stops d (take (index + 1) stops)) w) (sym c.shorter_of-least.ensures)
    (subst (λ (ss : List ℕ). IsLeastWalk t (from_stops d ss) (shorter_of c.loop-stop.least c.walk_from.result))
    (sym (take_more stops index 0 c.loop-stop-test.true))
    (walk_of_more t d (take index stops) (get_or stops index 0) c.loop-stop.least c.walk_from.result c.loop-stop.invariant c.walk_from.ensures))

pub returns : goal.returns
returns g c =
    let t = c.args.image.now.timetable in
    let d = asked_to_any c.args.profiles.now in
    subst (λ (ss : List ℕ). IsLeastWalk t (from_stops d ss) c.loop-stop.least)
    (take_all c.loop-stop.stop-index c.args.stops.now c.loop-stop-test.false) c.loop-stop.invariant
