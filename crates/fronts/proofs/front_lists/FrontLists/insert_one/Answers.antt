use Rattle.std.proofs.Common.{[], ◌∷◌, sym, subst}
use Rattle.reasoning.proofs.ListLemmas.{contains_first}
use Rattle.criteria.specs.Laws.{Admits}
use Rattle.fronts.specs.Front.{points_from}
use Rattle.fronts.specs.Putting.{IsLate}
use Rattle.fronts.specs.Lists.{lists_criterion, entries_of, items_of, steps_of}
use Rattle.fronts.proofs.Ahead.{read_low, late_none}
use Rattle.fronts.proofs.Growth.{more_none}
use Rattle.fronts.proofs.Mapped.{takes_points}
use Rattle.fronts.proofs.front_lists.FrontLists.insert_one.Goals as goal

pub front_betters-requires-clause-value : goal.front_betters-requires-clause-value
front_betters-requires-clause-value g c =
    let criterion = lists_criterion c.args.self.now in
    let ride = c.args.ride in
    subst (Admits (g.C.Criterion.rules criterion)) (sym c.walk-value.ensures)
    ((g.met.C.Criterion.laws criterion).walk_admits c.args.boarding.secs ride.value c.requires.may.short
    (c.requires.may.admitted ride (contains_first ride [])))

pub returns-then-front_betters-clause-more : goal.returns-then-front_betters-clause-more
returns-then-front_betters-clause-more g c = more_none g.C.Criterion.rules c.args.self.now c.requires.may.sound

pub returns-then-front_betters-clause-taken : goal.returns-then-front_betters-clause-taken
returns-then-front_betters-clause-taken g c =
    let lists = c.args.self.now in
    let entries = entries_of lists in
    let items = items_of lists in
    let rules = g.C.Criterion.rules (lists_criterion lists) in
    let by = c.args.boarding in
    let ride = c.args.ride in
    let may = c.requires.may in
    let index = c.late-index.result in
    let list = points_from entries items c.args.head in
    let late = subst (λ es. IsLate es items c.args.head by.departure index) c.deref.ensures.value
    (subst (λ ps. IsLate c.deref.result.now ps c.args.head by.departure index) c.deref-2.ensures.value
    c.late-index.ensures) in
    record {
      within = may.within;
      takes = takes_points rules (steps_of lists) by (ride ∷ []) list list
          (late_none rules ride (g.met.C.Criterion.laws (lists_criterion lists)) entries items c.args.head by may index late
          (steps_of lists) (read_low rules entries c.deref.result.now items c.deref-2.result.now index c.walk-value.result
          (rules.walk by.secs ride.value) c.front_betters.result c.deref.ensures.value c.deref-2.ensures.value
          c.walk-value.ensures c.front_betters.ensures c.if-front_betters.true));
    }
