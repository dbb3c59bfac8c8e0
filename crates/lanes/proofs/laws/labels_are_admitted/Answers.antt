use Rattle.std.proofs.Common.{ℕ, nat_lt, nat_le, List, Contains, Option, slice_get, slice_index, inl, inr, subst, arith}
use Rattle.std.proofs.lemmas.Bool.{and_from, lt-ltb, le-leb}
use Rattle.reasoning.proofs.ListLemmas.{not_in_nil}
use Rattle.reasoning.proofs.OptionLemmas.{option_cases}
use Rattle.criteria.specs.Laws.{Admits, time_limit}
use Rattle.criteria.specs.declared.arrival_trips.TimeTrips.{TimeTrips}
use Rattle.fronts.specs.declared.labels.Label.{Label}
use Rattle.lanes.specs.Lanes.{AreLanes, lane_labels, trip_rules}
use Rattle.lanes.specs.LanesWithTags.{labels_in}
use Rattle.lanes.specs.declared.trip_lanes.Lanes.{Lanes}
use Rattle.lanes.proofs.LaneLemmas.{stands}
use Rattle.lanes.proofs.laws.labels_are_admitted.Goals as goal

lane_admitted : (tag : ℕ → ℕ) (lanes : List ℕ) (l : Label TimeTrips) → AreLanes 8 lanes → Contains (lane_labels tag lanes) l → Admits trip_rules l.value
lane_admitted tag lanes l are is =
    let s = stands tag lanes l is in
    let at = s.at in
    let below = s.below in
    let long = are.long in
    let time = are.times l.value.trips (omega (arith, below, long)) (omega (arith, s.less, at)) in
    and_from (nat_lt l.value.time time_limit) (nat_le l.value.trips 65535) (lt-ltb l.value.time time_limit (omega (arith, time, at)))
    (le-leb l.value.trips 65535 (omega (arith, below, long)))

pub returns : goal.returns
returns c = λ trip l is.
    let all = c.args.trips.now.lanes.items in
    elim (option_cases (slice_get all trip)) [
      | inl none ↦ absurd (not_in_nil l (subst (λ (o : Option Lanes). Contains (labels_in o) l) none is))
      | inr some ↦
          lane_admitted (slice_index some.0.tags) some.0.times l (c.args.trips.now.tagged trip some.0 some.1).lanes_are
          (subst (λ (o : Option Lanes). Contains (labels_in o) l) some.1 is)
    ]
