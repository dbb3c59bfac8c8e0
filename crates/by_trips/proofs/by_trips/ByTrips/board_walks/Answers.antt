use Rattle.std.proofs.Common.{◌≡◌, ℕ, subst, arith}
use Rattle.by_trips.proofs.ByTripsBoarded.{BoardsTo, still_boards, walks_first, walks_next}
use Rattle.by_trips.proofs.by_trips.ByTrips.board_walks.Goals as goal

pub loop-walk_index-init : goal.loop-walk_index-init
loop-walk_index-init g c = walks_first (g.S.ConnSource.timetable c.args.source.now) c.args.hop.now c.args.walks.start c.args.self.now c.requires.has

pub board_walk-requires : goal.board_walk-requires
board_walk-requires g c =
    let walk = c.footpath_into-walk.result in
    still_boards walk c.loop-walk_index.invariant c.requires.trip
    (((g.met.S.ConnSource.legal c.args.source.now).ends_in_range c.loop-walk_index.walk_index walk c.footpath_into-walk.ensures).0)

pub loop-walk_index-preserved : goal.loop-walk_index-preserved
loop-walk_index-preserved g c =
    walks_next (g.S.ConnSource.timetable c.args.source.now) c.args.hop.now c.args.walks.start c.loop-walk_index.walk_index c.footpath_into-walk.result
    c.args.self.now c.loop-walk_index.self c.board_walk.new.self c.loop-walk_index.auto.walk_index c.footpath_into-walk.ensures
    c.loop-walk_index.invariant c.in_ok-board_walk.ensures

pub returns : goal.returns
returns g c =
    let over = c.loop-walk_index-test.false in
    let within = c.loop-walk_index.auto.walk_index-end c.requires.walks.order in
    let at_end : c.loop-walk_index.walk_index ≡ c.args.walks.end = omega arith in
    subst (λ (n : ℕ). BoardsTo (g.S.ConnSource.timetable c.args.source.now) c.args.hop.now c.args.walks.start n c.args.self.now c.loop-walk_index.self)
    at_end c.loop-walk_index.invariant
