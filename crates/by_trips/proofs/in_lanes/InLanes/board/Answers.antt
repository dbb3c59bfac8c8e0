use Rattle.std.proofs.Common.{◌<◌, ℕ, sym, subst}
use Rattle.scan_state.specs.SetQuery.{question}
use Rattle.scan_state.proofs.BoardLemmas.{walks_into_it}
use Rattle.by_trips.proofs.LanesBoarded.{all_excluded, hop_boarded, not_boarded}
use Rattle.by_trips.proofs.in_lanes.InLanes.board.Goals as goal

pub returns-then-not-hop : goal.returns-then-not-hop
returns-then-not-hop g c =
    not_boarded (g.S.ConnSource.timetable c.args.source.now) (question c.args.asked.now.query) c.args.asked.now.starts c.args.hop.now c.args.self.now c.requires
    c.if-not-hop.true

pub may_board-requires : goal.may_board-requires
may_board-requires g c = subst (λ (n : ℕ). c.args.hop.now.connection.trip < n) (sym c.requires.are.trips_are) c.requires.hop.on_trip

pub returns-then-not-may_board : goal.returns-then-not-may_board
returns-then-not-may_board g c =
    all_excluded (g.S.ConnSource.timetable c.args.source.now) (question c.args.asked.now.query) c.args.asked.now.starts c.args.hop.now c.args.self.now
    c.requires (c.may_board.ensures c.if-not-may_board.true)

pub walks_into-begin-requires : goal.walks_into-begin-requires
walks_into-begin-requires g c = c.requires.hop.begins

pub board_walks-requires : goal.board_walks-requires
board_walks-requires g c = record {
  walks = walks_into_it (g.S.ConnSource.timetable c.args.source.now) c.args.hop.now.connection.from c.walks_into-begin.result.0 c.walks_into-begin.result.1
      c.requires.hop.begins c.walks_into-begin.ensures.order c.walks_into-begin.ensures.within c.walks_into-begin.ensures.exact;
  are = c.requires.are;
  trip = c.requires.hop.on_trip;
}

pub returns : goal.returns
returns g c =
    hop_boarded (g.S.ConnSource.timetable c.args.source.now) (question c.args.asked.now.query) c.args.asked.now.starts c.args.hop.now c.args.self.now c.requires
    c.if-not-hop.false c.walks_into-begin.result.0 c.walks_into-begin.result.1 c.walks_into-begin.ensures.exact c.board_walks.new.self
    c.in_ok-board_walks.ensures
