use Rattle.std.proofs.Common.{drop, refl, sym, subst, arith}
use Rattle.reasoning.proofs.ListLemmas.{extends_on}
use Rattle.fronts.specs.declared.entry.FrontEntry.{FrontEntry}
use Rattle.fronts.specs.Front.{Extends}
use Rattle.fronts.specs.Entries.{AreEntries, AreMore, HasEntry}
use Rattle.fronts.proofs.Growth.{are_more, extends_long, items_added}
use Rattle.fronts.proofs.Points.{departs_at}
use Rattle.fronts.specs.Putting.{IsPut}
use Rattle.fronts.proofs.Leaving.{leave_behind, match_err}
use Rattle.fronts.proofs.OnePut.{put_all}
use Rattle.fronts.proofs.putting.put.Given as given
use Rattle.fronts.proofs.putting.put.Goals.{In_ok-leave_front, In_ok-append}
use Rattle.fronts.proofs.putting.put.Goals as goal

-- the items when all are pushed
grown : (g : given.Over) (c : goal.In_ok-leave_front g) → Extends c.args.items.now.items c.leave_front.new.items.items
grown g c = extends_on c.args.items.now.items c.push_others.new.items.items c.leave_front.new.items.items
    (_, c.in_ok-push_others.ensures) (_, c.in_ok-leave_front.ensures)

pub returns-in_err-push_others : goal.returns-in_err-push_others
returns-in_err-push_others g c =
    match_err _ _ c.from_residual-in_err-push_others.result c.from_residual-in_err-push_others.ensures.1
    (items_added (g.C.Criterion.rules c.args.criterion.now) c.args.entries.now.items c.args.items.now.items
    c.push_others.new.items.items c.requires.may.sound c.in_err-push_others.ensures)

pub leave_front-requires-clause-entry : goal.leave_front-requires-clause-entry
leave_front-requires-clause-entry g c =
    let rules = g.C.Criterion.rules c.args.criterion.now in
    let items = c.push_others.new.items.items in
    subst (λ es. HasEntry rules es items c.args.index) (sym c.deref.ensures.value) (record {
      sound = are_more rules c.args.entries.now.items c.args.items.now.items items c.requires.may.sound (_, c.in_ok-push_others.ensures);
      within = c.requires.may.within;
    })

pub returns-in_err-leave_front : goal.returns-in_err-leave_front
returns-in_err-leave_front g c =
    match_err _ _ c.from_residual-in_err-leave_front.result c.from_residual-in_err-leave_front.ensures.1
    (items_added (g.C.Criterion.rules c.args.criterion.now) c.args.entries.now.items c.args.items.now.items
    c.leave_front.new.items.items c.requires.may.sound
    (extends_on c.args.items.now.items c.push_others.new.items.items c.leave_front.new.items.items
    (_, c.in_ok-push_others.ensures) c.in_err-leave_front.ensures))

pub returns-in_err-count : goal.returns-in_err-count
returns-in_err-count g c =
    match_err _ _ c.from_residual-in_err-count.result c.from_residual-in_err-count.ensures.1
    (items_added (g.C.Criterion.rules c.args.criterion.now) c.args.entries.now.items c.args.items.now.items
    c.leave_front.new.items.items c.requires.may.sound
    (grown g (goal.at.returns-in_err-count g c).In_ok-leave_front))

pub follow-next-requires : goal.follow-next-requires
follow-next-requires g c =
    let early = c.requires.may.early in
    let departs = departs_at c.args.entries.now.items c.args.index c.index.result.now c.requires.may.within c.index.ensures in
    omega arith

pub returns-in_err-append : goal.returns-in_err-append
returns-in_err-append g c =
    let rules = g.C.Criterion.rules c.args.criterion.now in
    match_err _ _ c.from_residual-in_err-append.result c.from_residual-in_err-append.ensures.1
    (subst (λ es. AreMore rules c.args.entries.now.items c.args.items.now.items es c.leave_front.new.items.items)
    (sym c.in_err-append.ensures.same)
    (items_added rules c.args.entries.now.items c.args.items.now.items c.leave_front.new.items.items c.requires.may.sound
    (grown g (goal.at.returns-in_err-append g c).In_ok-leave_front)))

-- what the put does
made : (g : given.Over) (c : goal.In_ok-append g)
    → IsPut (g.C.Criterion.rules c.args.criterion.now) c.args.entries.now.items c.append.new.items.items
    c.args.items.now.items c.leave_front.new.items.items c.args.departure c.args.index c.args.points.now c.in_ok-new.new
made g c =
    let rules = g.C.Criterion.rules c.args.criterion.now in
    let x = c.index-points-0.result in
    let e : FrontEntry g.row.C-V.Denot = record {
      departure = c.args.departure;
      next = c.follow-next.result;
      rest =
          c.in_ok-rest.rest;
      count = c.in_ok-count.count;
      tag = x.tag;
      value = x.value;
    } in
    let grows = extends_long c.args.items.now.items c.leave_front.new.items.items
    (extends_on c.args.items.now.items c.push_others.new.items.items c.leave_front.new.items.items
    (_, c.in_ok-push_others.ensures) (_, c.in_ok-leave_front.ensures)) in
    let new_is = c.in_ok-new.ensures in
    let rest_is = c.in_ok-rest.ensures in
    let count_is = c.in_ok-count.ensures in
    put_all rules (g.met.C.Criterion.laws c.args.criterion.now) c.args.entries.now.items c.deref.result.now
    c.append.new.items.items c.args.items.now.items c.leave_front.new.items.items c.args.departure c.args.index
    c.in_ok-new.new c.args.points.now e c.index.result.now x
    c.requires.may c.deref.ensures.value c.index-points-0.is refl refl refl c.index.ensures
    c.follow-next.ensures (leave_behind rules c.args.points.now c.deref.result.now c.args.items.now.items
    c.push_others.new.items.items c.leave_front.new.items.items (drop 1 c.args.points.now)
    (subst (λ es. AreEntries rules es c.args.items.now.items) (sym c.deref.ensures.value) c.requires.may.sound)
    c.args.index c.in_ok-push_others.ensures c.in_ok-leave_front.ensures) (omega arith) (omega arith)
    c.in_ok-append.ensures.added (omega arith)

pub returns : goal.returns
returns g c = made g c
