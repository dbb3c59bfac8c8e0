use Rattle.std.proofs.Common.{◌≡◌, ◌<◌, [], ap, arith, length, subst}
use Rattle.std.proofs.lemmas.Result.{on_ok_weaker}
use Rattle.scan_state.specs.SetQuery.{question}
use Rattle.by_trips.specs.ByTrips.{points_beyond}
use Rattle.by_trips.proofs.ByTripsBoarded.{all_boarded, can_board_beyond, has_bags_still, lanes_boarded}
use Rattle.by_trips.proofs.by_trips.ByTrips.board.Goals as goal

pub board-requires : goal.board-requires
board-requires g c = record { hop = c.requires.hop; are = c.requires.are.in_lanes }

pub returns-then-not-has_any : goal.returns-then-not-has_any
returns-then-not-has_any g c =
    lanes_boarded (g.S.ConnSource.timetable c.args.source.now) (question c.args.asked.now.query) c.args.asked.now.starts c.args.hop.now c.args.self.now
    c.requires c.board.new.self c.in_ok-board.ensures
    (subst (λ bags. points_beyond bags c.args.hop.now.connection.trip ≡ []) c.deref.ensures.value (c.has_any.ensures.none c.if-not-has_any.true))

pub board_beyond-requires-clause-can : goal.board_beyond-requires-clause-can
board_beyond-requires-clause-can g c =
    can_board_beyond (g.S.ConnSource.timetable c.args.source.now) (question c.args.asked.now.query) c.args.asked.now.starts c.args.hop.now c.args.self.now
    c.requires c.board.new.self c.in_ok-board.ensures

pub board_beyond-requires-clause-has : goal.board_beyond-requires-clause-has
board_beyond-requires-clause-has g c =
    has_bags_still (g.S.ConnSource.timetable c.args.source.now) (question c.args.asked.now.query) c.args.asked.now.starts c.args.hop.now c.args.self.now
    c.requires c.board.new.self c.in_ok-board.ensures
    (λ none.
    let there = subst (λ bags. c.args.hop.now.connection.trip < length bags) c.deref.ensures.value (c.has_any.ensures.some c.if-not-has_any.false) in
    let empty = ap (λ bags. length bags) none in
    omega (arith, there, empty))

pub returns : goal.returns
returns g c =
    on_ok_weaker c.board_beyond.result
    (all_boarded (g.S.ConnSource.timetable c.args.source.now) (question c.args.asked.now.query) c.args.asked.now.starts c.args.hop.now c.args.self.now
    c.requires c.board.new.self c.in_ok-board.ensures c.board_beyond.new.self) c.board_beyond.ensures
