use Rattle.std.proofs.Common.{List, Contains, sym, subst, slice_index, arith}
use Rattle.std.proofs.lemmas.Bool.{leb-true}
use Rattle.criteria.specs.Laws.{NoWorse}
use Rattle.criteria.specs.declared.arrival_trips.TimeTrips.{TimeTrips}
use Rattle.fronts.specs.declared.labels.Label.{Label}
use Rattle.lanes.specs.Lanes.{trip_rules}
use Rattle.lanes.specs.LaneLists.{word_tag}
use Rattle.lanes.specs.StopLanes.{tags_at}
use Rattle.lanes.proofs.LaneLemmas.{beaten_at}
use Rattle.lanes.proofs.stop_lanes.StopLanes.covers.Goals as goal

pub front-requires : goal.front-requires
front-requires c = c.front_from-entry.ensures.within

pub returns : goal.returns
returns c = λ covered.
    let self = c.args.self.now in
    let value = c.args.value.now in
    let front = c.front.result.now in
    let long = front.falls.long in
    let many = c.if-value-lt8.false in
    let time = c.requires.time in
    let beaten = beaten_at (word_tag (tags_at self c.front_from-entry.result)) front.times value 8 (omega (arith, long)) (omega (arith, many))
    (leb-true (slice_index front.times 8) value.time covered) (omega (arith, time)) in
    let from = c.front_from-entry.ensures.made_of beaten.0
    (subst (λ (labels : List (Label TimeTrips)). Contains labels beaten.0) (sym c.front.ensures) beaten.1) in
    (from.0, from.1, from.2, subst (λ (v : TimeTrips). NoWorse trip_rules v value) (sym from.3) beaten.2)
