use Rattle.std.proofs.Common.{slice_index, ap}
use Rattle.std.proofs.lemmas.Result.{on_ok_weaker}
use Rattle.scan_state.specs.SetQuery.{question}
use Rattle.by_trips.specs.ByTrips.{RelabelsByTrips}
use Rattle.by_trips.proofs.ByTripsLeft.{ButEight, eight_admits, in_lanes, lanes_can, none_of_eight, still_can, with_eight}
use Rattle.by_trips.proofs.by_trips.ByTrips.change_with_eight.Goals.{In_ok-change_but_eight}
use Rattle.by_trips.proofs.by_trips.ByTrips.change_with_eight.Goals as goal

pub front_from-entry-requires-clause-lists : goal.front_from-entry-requires-clause-lists
front_from-entry-requires-clause-lists c = c.requires.are.in_lanes.at_stops

pub front_from-entry-requires-clause-stop : goal.front_from-entry-requires-clause-stop
front_from-entry-requires-clause-stop c = c.requires.stop

pub change_but_eight-requires-clause-can : goal.change_but_eight-requires-clause-can
change_but_eight-requires-clause-can c = lanes_can (question c.args.asked.now.query) c.args.hop c.args.self.now c.requires

-- the lanes have taken in what has fewer trips
mid : (c : In_ok-change_but_eight) → RelabelsByTrips c.args.hop.bound.now
    (ButEight (question c.args.asked.now.query) c.args.hop c.args.self.now c.requires c.front_from-entry.result) c.args.self.now
    (record { lanes = c.change_but_eight.new.self; beyond = c.args.self.now.beyond })
mid c = in_lanes (question c.args.asked.now.query) c.args.hop c.args.self.now c.requires c.in_ok-change_but_eight.ensures

pub returns-in_default : goal.returns-in_default
returns-in_default c =
    none_of_eight (question c.args.asked.now.query) c.args.hop c.args.self.now c.requires c.front_from-entry.result c.front_from-entry.ensures
    (record { lanes = c.change_but_eight.new.self; beyond = c.args.self.now.beyond }) c.front.result.now
    (mid (goal.at.returns-in_default c).In_ok-change_but_eight) c.front.ensures c.in_default.ensures

pub offer_label-requires-clause-can : goal.offer_label-requires-clause-can
offer_label-requires-clause-can c =
    still_can (question c.args.asked.now.query) c.args.hop c.args.self.now c.requires (mid (goal.at.offer_label-requires-clause-can c).In_ok-change_but_eight)

pub offer_label-requires-clause-admitted : goal.offer_label-requires-clause-admitted
offer_label-requires-clause-admitted c =
    eight_admits (question c.args.asked.now.query) c.args.hop c.args.self.now c.requires c.front_from-entry.result c.front_from-entry.ensures
    (record { lanes = c.change_but_eight.new.self; beyond = c.args.self.now.beyond }) c.front.result.now
    (mid (goal.at.offer_label-requires-clause-admitted c).In_ok-change_but_eight) c.front.ensures c.in-Some.value (slice_index c.tags.result.now 7)
    c.in-Some.ensures.0 c.in-Some.ensures.1 (ap (λ ts. slice_index ts 7) c.tags.ensures)

pub returns : goal.returns
returns c =
    on_ok_weaker c.offer_label.result
    (with_eight (question c.args.asked.now.query) c.args.hop c.args.self.now c.requires c.front_from-entry.result c.front_from-entry.ensures
    (record { lanes = c.change_but_eight.new.self; beyond = c.args.self.now.beyond }) c.front.result.now
    (mid (goal.at.returns c).In_ok-change_but_eight) c.front.ensures c.in-Some.value (slice_index c.tags.result.now 7) c.in-Some.ensures.0 c.in-Some.ensures.1
    (ap (λ ts. slice_index ts 7) c.tags.ensures) c.offer_label.new.self) c.offer_label.ensures
