use Rattle.std.proofs.Common.{◌≡◌, Some, length, refl, slice_get, arith}
use Rattle.std.proofs.lemmas.Option.{slice_get_read}
use Rattle.std.proofs.lemmas.Result.{on_ok_weaker}
use Rattle.scan_state.proofs.BoardLemmas.{walks_into_it}
use Rattle.by_arrival.proofs.ByArrivalLemmas.{all_boarded, none_boards, not_boarded}
use Rattle.by_arrival.proofs.by_arrival.ByArrival.board.Given as given
use Rattle.by_arrival.proofs.by_arrival.ByArrival.board.Goals.{After-index-label}
use Rattle.by_arrival.proofs.by_arrival.ByArrival.board.Goals as goal

label_at : (g : given.Over) (c : After-index-label g)
    → slice_get c.args.self.now.labels.items c.args.hop.now.connection.trip ≡ Some c.index-label.result.now
label_at g c =
    let labels = c.args.self.now.labels.items in
    slice_get_read labels (length labels) c.args.hop.now.connection.trip c.index-label.result.now refl c.requires.trip c.index-label.ensures

pub returns-then-not-hop : goal.returns-then-not-hop
returns-then-not-hop g c =
    not_boarded (g.S.ConnSource.timetable c.args.source.now) c.args.hop.now c.args.self.now c.requires.are c.requires.stands c.if-not-hop.true

pub returns-then-label-self : goal.returns-then-label-self
returns-then-label-self g c =
    none_boards (g.S.ConnSource.timetable c.args.source.now) c.args.hop.now c.args.self.now c.requires.are c.index-label.result.now
    (label_at g (goal.at.returns-then-label-self g c).After-index-label) c.requires.excludes (omega (arith, c.if-label-self.true))

pub walks_into-begin-requires : goal.walks_into-begin-requires
walks_into-begin-requires g c = c.requires.begins

pub board_walks-requires : goal.board_walks-requires
board_walks-requires g c =
    let limit = c.requires.are.limit in
    record {
      are = c.requires.are;
      walks = walks_into_it (g.S.ConnSource.timetable c.args.source.now) c.args.hop.now.connection.from c.walks_into-begin.result.0
          c.walks_into-begin.result.1 c.requires.begins c.walks_into-begin.ensures.order c.walks_into-begin.ensures.within c.walks_into-begin.ensures.exact;
      stops_are = c.requires.stops_are;
      time = c.requires.are.times c.args.hop.now.connection.trip c.index-label.result.now
          (label_at g (goal.at.board_walks-requires g c).After-index-label) (omega (arith, limit, c.if-label-self.false));
    }

pub returns : goal.returns
returns g c =
    let t = g.S.ConnSource.timetable c.args.source.now in
    let limit = c.requires.are.limit in
    on_ok_weaker c.board_walks.result
    (all_boarded t c.args.hop.now c.args.self.now c.requires.are c.index-label.result.now
    (label_at g (goal.at.returns g c).After-index-label) c.requires.stands c.if-not-hop.false (omega (arith, limit, c.if-label-self.false))
    c.walks_into-begin.result.0 c.walks_into-begin.result.1 c.walks_into-begin.ensures.exact c.board_walks.new.self)
    c.board_walks.ensures
