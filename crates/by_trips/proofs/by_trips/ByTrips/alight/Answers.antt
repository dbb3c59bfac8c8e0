use Rattle.scan_state.specs.SetQuery.{question}
use Rattle.by_trips.proofs.ByTripsLeft.{has_left, in_lanes, lanes_can, still_can}
use Rattle.by_trips.proofs.ByTripsTaken.{nobody_leaves}
use Rattle.by_trips.proofs.by_trips.ByTrips.alight.Goals as goal

pub returns-then-not-hop : goal.returns-then-not-hop
returns-then-not-hop c = nobody_leaves (question c.args.asked.now.query) c.args.hop.now c.args.self.now c.requires c.if-not-hop.true

pub end-requires : goal.end-requires
end-requires c = lanes_can (question c.args.asked.now.query) c.args.hop.now c.args.self.now c.requires

pub change-requires : goal.change-requires
change-requires c =
    let q = question c.args.asked.now.query in
    let hop = c.args.hop.now in
    let old = c.args.self.now in
    still_can q hop old c.requires (in_lanes q hop old c.requires c.in_ok-end.ensures)

pub change_beyond-requires : goal.change_beyond-requires
change_beyond-requires c =
    let q = question c.args.asked.now.query in
    let hop = c.args.hop.now in
    let old = c.args.self.now in
    still_can q hop (record { lanes = c.end.new.self; beyond = old.beyond })
    (still_can q hop old c.requires (in_lanes q hop old c.requires c.in_ok-end.ensures)) c.in_ok-change.ensures

pub returns : goal.returns
returns c =
    let q = question c.args.asked.now.query in
    let hop = c.args.hop.now in
    let old = c.args.self.now in
    has_left q hop old c.requires c.if-not-hop.false (record { lanes = c.end.new.self; beyond = old.beyond }) c.change.new.self c.change_beyond.new.self
    (in_lanes q hop old c.requires c.in_ok-end.ensures) c.in_ok-change.ensures c.in_ok-change_beyond.ensures
