use Rattle.std.proofs.Common.{sym, subst}
use Rattle.std.proofs.lemmas.Result.{on_ok_weaker}
use Rattle.lanes.specs.Lanes.{trip_rules}
use Rattle.lanes.specs.StopLanes.{points_at}
use Rattle.reasoning.proofs.BoolLemmas.{where_true, where_false}
use Rattle.scan_state.specs.SetQuery.{question}
use Rattle.scan_state.specs.KeptParts.{takes_changes}
use Rattle.by_trips.specs.ByTrips.{CanLeaveByTrips, RelabelsByTrips}
use Rattle.by_trips.specs.declared.in_lanes.InLanes.{InLanes}
use Rattle.by_trips.proofs.ByTripsLeft.{in_lanes, lanes_can}
use Rattle.by_trips.proofs.by_trips.ByTrips.change.Goals as goal

pub change-requires : goal.change-requires
change-requires c = lanes_can (question c.args.asked.now.query) c.args.hop.now c.args.self.now c.requires

pub returns-then-changed : goal.returns-then-changed
returns-then-changed c =
    in_lanes (question c.args.asked.now.query) c.args.hop.now c.args.self.now c.requires
    (where_true c.in_ok-changed.changed _ _ c.if-changed.true c.in_ok-changed.ensures)

pub change_with_eight-requires : goal.change_with_eight-requires
change_with_eight-requires c =
    let old = c.args.self.now in
    let same = where_false c.in_ok-changed.changed _ _ c.if-changed.false c.in_ok-changed.ensures in
    subst (λ (lanes : InLanes). CanLeaveByTrips (question c.args.asked.now.query) c.args.hop.now (record { lanes = lanes; beyond = old.beyond }))
    (sym same) c.requires

pub returns : goal.returns
returns c =
    let hop = c.args.hop.now in
    let old = c.args.self.now in
    let same = where_false c.in_ok-changed.changed _ _ c.if-changed.false c.in_ok-changed.ensures in
    on_ok_weaker c.change_with_eight.result
    (subst (λ (lanes : InLanes). RelabelsByTrips hop.bound.now (takes_changes trip_rules hop (points_at lanes.stops hop.connection.to))
    (record { lanes = lanes; beyond = old.beyond }) c.change_with_eight.new.self) same) c.change_with_eight.ensures
