use Rattle.std.proofs.Common.{◌≡◌, ◌<◌, ℕ, sym, subst, arith}
use Rattle.lanes.specs.TripLanes.{trips_of}
use Rattle.by_trips.specs.InLanes.{AreInLanes}
use Rattle.by_trips.proofs.LanesBoarded.{BoardsTo, lanes_first, lanes_next}
use Rattle.by_trips.proofs.in_lanes.InLanes.board_walks.Goals as goal

pub loop-walk_index-init : goal.loop-walk_index-init
loop-walk_index-init g c = lanes_first (g.S.ConnSource.timetable c.args.source.now) c.args.hop.now c.args.walks.start c.args.self.now c.requires.are

pub board_walk-requires : goal.board_walk-requires
board_walk-requires g c =
    let t = g.S.ConnSource.timetable c.args.source.now in
    let are = c.loop-walk_index.invariant.are in
    let lanes = c.loop-walk_index.self in
    let values = c.args.hop.now.bound.now in
    let walk = c.footpath_into-walk.result in
    record {
      are = subst (λ n. AreInLanes n (trips_of lanes.trips) values lanes) (sym are.stops_are)
          (subst (λ n. AreInLanes t.stops n values lanes) (sym are.trips_are) are);
      trip = subst (λ (n : ℕ). c.args.hop.now.connection.trip < n) (sym are.trips_are) c.requires.trip;
      stop = subst (λ (n : ℕ). walk.from < n) (sym are.stops_are)
          ((g.met.S.ConnSource.legal c.args.source.now).ends_in_range c.loop-walk_index.walk_index walk c.footpath_into-walk.ensures).0;
    }

pub loop-walk_index-preserved : goal.loop-walk_index-preserved
loop-walk_index-preserved g c =
    lanes_next (g.S.ConnSource.timetable c.args.source.now) c.args.hop.now c.args.walks.start c.loop-walk_index.walk_index c.footpath_into-walk.result
    c.args.self.now c.loop-walk_index.self c.board_walk.new.self c.loop-walk_index.auto.walk_index c.footpath_into-walk.ensures
    c.loop-walk_index.invariant c.in_ok-board_walk.ensures

pub returns : goal.returns
returns g c =
    let over = c.loop-walk_index-test.false in
    let within = c.loop-walk_index.auto.walk_index-end c.requires.walks.order in
    let at_end : c.loop-walk_index.walk_index ≡ c.args.walks.end = omega arith in
    subst (λ (n : ℕ). BoardsTo (g.S.ConnSource.timetable c.args.source.now) c.args.hop.now c.args.walks.start n c.args.self.now c.loop-walk_index.self)
    at_end c.loop-walk_index.invariant
