use Rattle.std.proofs.Common.{◌<◌, ℕ, sym, subst}
use Rattle.lanes.specs.Lanes.{trip_rules}
use Rattle.scan_state.specs.SetQuery.{question}
use Rattle.scan_state.specs.ScanRecords.{KeptValue}
use Rattle.criteria.specs.declared.arrival_trips.TimeTrips.{TimeTrips}
use Rattle.scan_state.specs.Keeping.{Leaves}
use Rattle.by_trips.specs.ByTrips.{AreByTrips, value_by_trips}
use Rattle.by_trips.specs.declared.by_trips.ByTrips.{ByTrips}
use Rattle.scan_state.proofs.PartLemmas.{hop_within}
use Rattle.by_trips.proofs.ByTripsTaken.{admits_kept, as_counted, can_leave, can_renew, labels_admitted}
use Rattle.by_trips.proofs.ByTripsTaken.{renewed_are, renewed_value, went_on}
use Rattle.by_trips.proofs.by_trips_taking.ByTripsKeepingArrivalTrips.take.Given as given
use Rattle.by_trips.proofs.by_trips_taking.ByTripsKeepingArrivalTrips.take.Goals.{In_ok-alight}
use Rattle.by_trips.proofs.by_trips_taking.ByTripsKeepingArrivalTrips.take.Goals as goal

pub renew-requires : goal.renew-requires
renew-requires g c =
    let t = g.S.ConnSource.timetable c.args.source.now in
    can_renew t.stops t.trips c.requires.bound c.args.hop.now.bound.now c.args.self.now c.requires.keeping.are c.requires.hop.bound c.requires.excludes

pub alight-requires : goal.alight-requires
alight-requires g c =
    let t = g.S.ConnSource.timetable c.args.source.now in
    let hop = c.args.hop.now in
    let q = question c.args.asked.now.query in
    can_leave t.stops t.trips q hop (record { lanes = c.renew.new.self; beyond = c.args.self.now.beyond })
    (renewed_are t.stops t.trips c.requires.bound hop.bound.now c.args.self.now c.requires.keeping.are c.renew.new.self c.renew.ensures)
    (hop_within trip_rules t (g.met.S.ConnSource.limits c.args.source.now) q hop c.requires.hop) c.requires.hop.on_trip c.requires.hop.ends

-- what is kept once the trip is left
mid_are : (g : given.Over) (c : goal.In_ok-alight g) → AreByTrips (g.S.ConnSource.timetable c.args.source.now).stops
    (g.S.ConnSource.timetable c.args.source.now).trips c.args.hop.now.bound.now c.alight.new.self
mid_are g c =
    let t = g.S.ConnSource.timetable c.args.source.now in
    let values = c.args.hop.now.bound.now in
    let renewed : ByTrips = record { lanes = c.renew.new.self; beyond = c.args.self.now.beyond } in
    let are = renewed_are t.stops t.trips c.requires.bound values c.args.self.now c.requires.keeping.are c.renew.new.self c.renew.ensures in
    as_counted t.stops t.trips values renewed are.in_lanes.stops_are are.in_lanes.trips_are c.alight.new.self c.in_ok-alight.ensures.are

mid_leaves : (g : given.Over) (c : goal.In_ok-alight g) → Leaves trip_rules (question c.args.asked.now.query) c.args.hop.now
    (value_by_trips c.args.self.now) (value_by_trips c.alight.new.self)
mid_leaves g c =
    let t = g.S.ConnSource.timetable c.args.source.now in
    subst (λ (was : KeptValue TimeTrips). Leaves trip_rules (question c.args.asked.now.query) c.args.hop.now was (value_by_trips c.alight.new.self))
    (renewed_value t.stops t.trips c.requires.bound c.args.hop.now.bound.now c.args.self.now c.requires.keeping.are c.renew.new.self c.renew.ensures)
    c.in_ok-alight.ensures.leaves

pub set_out-requires-clause-trip : goal.set_out-requires-clause-trip
set_out-requires-clause-trip g c =
    let are = mid_are g (goal.at.set_out-requires-clause-trip g c).In_ok-alight in
    subst (λ (n : ℕ). c.args.hop.now.connection.trip < n) (sym are.in_lanes.trips_are) c.requires.hop.on_trip

pub set_out-requires-clause-can : goal.set_out-requires-clause-can
set_out-requires-clause-can g c =
    let t = g.S.ConnSource.timetable c.args.source.now in
    let are = mid_are g (goal.at.set_out-requires-clause-can g c).In_ok-alight in
    record {
      hop = c.requires.hop;
      under = c.requires.source;
      labels = labels_admitted t.stops t.trips c.args.hop.now.bound.now c.alight.new.self are c.args.hop.now.connection.trip;
    }

pub board-requires : goal.board-requires
board-requires g c = record { hop = c.requires.hop; are = mid_are g (goal.at.board-requires g c).In_ok-alight }

pub returns : goal.returns
returns g c =
    let point = (goal.at.returns g c).In_ok-alight in
    let t = g.S.ConnSource.timetable c.args.source.now in
    let hop = c.args.hop.now in
    let boards = c.in_ok-board.ensures in
    record {
      keeping = record { are = boards.are; admitted = admits_kept t.stops t.trips hop.bound.now c.board.new.self boards.are };
      source = c.in_ok-set_out.ensures.under;
      between = value_by_trips c.alight.new.self;
      leaves = mid_leaves g point;
      goes_on = went_on t g.O.AtSource.sources g.O.AtSource.kept (question c.args.asked.now.query) hop c.alight.new.self c.board.new.self
          c.args.origin.now c.set_out.new.origin c.in_ok-set_out.ensures.set_outs c.in_ok-set_out.ensures.takes boards;
    }
