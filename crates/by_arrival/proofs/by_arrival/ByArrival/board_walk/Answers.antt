use Rattle.std.proofs.Common.{◌≡◌, ◌-◌, Some, length, refl, slice_get, ◌∙◌, sym, arith}
use Rattle.std.proofs.lemmas.Bool.{leb-true}
use Rattle.std.proofs.lemmas.Option.{slice_get_read}
use Rattle.by_arrival.proofs.ByArrivalLemmas.{boards, covered_already, too_long}
use Rattle.by_arrival.proofs.by_arrival.ByArrival.board_walk.Goals.{After-index-first, else-departure-first, then-departure-first}
use Rattle.by_arrival.proofs.by_arrival.ByArrival.board_walk.Goals as goal

first_at : (c : After-index-first) → slice_get c.args.self.now.firsts.items c.args.walk.from ≡ Some c.index-first.result.now
first_at c =
    let firsts = c.args.self.now.firsts.items in
    slice_get_read firsts (length firsts) c.args.walk.from c.index-first.result.now refl c.requires.stop c.index-first.ensures

pub returns-then-walk-dep : goal.returns-then-walk-dep
returns-then-walk-dep c =
    too_long c.args.hop.now c.args.walk_index c.args.walk c.args.ride c.args.self.now c.requires (omega (arith, c.if-walk-dep.true))

pub returns-then-covered : goal.returns-then-covered
returns-then-covered c =
    let first = c.index-first.result.now in
    let at = first_at (goal.at.returns-then-covered c).After-index-first in
    elim c.if-departure-first.branch [
      | then-departure-first w ↦ covered_already c.args.hop.now c.args.walk_index c.args.walk c.args.ride c.args.self.now c.requires
          (omega (arith, c.if-walk-dep.false)) first at (omega (arith, w.if-departure-first.true))
          (leb-true first.time c.args.ride.value (sym w.covered-is ∙ c.if-covered.true))
      | else-departure-first w ↦
          let late = leb-true (c.args.hop.now.connection.dep - c.args.walk.secs) first.departure (sym w.covered-is ∙ c.if-covered.true) in
          absurd (omega (arith, late, w.if-departure-first.false))
    ]

pub insert-requires-clause-first : goal.insert-requires-clause-first
insert-requires-clause-first c = record {
  sound = c.requires.are.sound;
  is = c.requires.are.firsts c.args.walk.from c.index-first.result.now (first_at (goal.at.insert-requires-clause-first c).After-index-first);
}

pub returns : goal.returns
returns c =
    boards c.args.hop.now c.args.walk_index c.args.walk c.args.ride c.args.self.now c.requires (omega (arith, c.if-walk-dep.false))
    c.index-first.result.now (first_at (goal.at.returns c).After-index-first) c.in_ok-number.number c.in_ok-number.ensures c.insert.new.self
    c.in_ok-self.ensures.more c.in_ok-self.field-0 c.in_ok-self.ensures.taken
