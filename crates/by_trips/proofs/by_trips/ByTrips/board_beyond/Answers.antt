use Rattle.std.proofs.lemmas.Result.{on_ok_weaker}
use Rattle.scan_state.specs.SetQuery.{question}
use Rattle.scan_state.proofs.BoardLemmas.{walks_into_it}
use Rattle.by_trips.proofs.ByTripsBoarded.{each_boards_beyond, none_boards_beyond}
use Rattle.by_trips.proofs.by_trips.ByTrips.board_beyond.Goals as goal

pub returns-then-not-hop : goal.returns-then-not-hop
returns-then-not-hop g c =
    none_boards_beyond (g.S.ConnSource.timetable c.args.source.now) (question c.args.asked.now.query) c.args.asked.now.starts c.args.hop c.args.self.now
    c.requires.can c.requires.has c.if-not-hop.true

pub walks_into-begin-requires : goal.walks_into-begin-requires
walks_into-begin-requires g c = c.requires.can.hop.begins

pub board_walks-requires-clause-walks : goal.board_walks-requires-clause-walks
board_walks-requires-clause-walks g c =
    walks_into_it (g.S.ConnSource.timetable c.args.source.now) c.args.hop.connection.from c.walks_into-begin.result.0 c.walks_into-begin.result.1
    c.requires.can.hop.begins c.walks_into-begin.ensures.order c.walks_into-begin.ensures.within c.walks_into-begin.ensures.exact

pub board_walks-requires-clause-trip : goal.board_walks-requires-clause-trip
board_walks-requires-clause-trip g c = c.requires.can.hop.on_trip

pub board_walks-requires-clause-has : goal.board_walks-requires-clause-has
board_walks-requires-clause-has g c = c.requires.has

pub returns : goal.returns
returns g c =
    on_ok_weaker c.board_walks.result
    (each_boards_beyond (g.S.ConnSource.timetable c.args.source.now) (question c.args.asked.now.query) c.args.asked.now.starts c.args.hop
    c.args.self.now c.requires.can c.requires.has c.if-not-hop.false c.walks_into-begin.result.0 c.walks_into-begin.result.1
    c.walks_into-begin.ensures.exact c.board_walks.new.self) c.board_walks.ensures
