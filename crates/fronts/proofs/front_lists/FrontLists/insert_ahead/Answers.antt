use Rattle.std.proofs.Common.{◌≡◌, ◌<◌, ℕ, List, [], ◌∷◌, ◌++◌, false, length, IfOk, refl, sym, ◌∙◌, ap, subst, arith}
use Rattle.std.proofs.lemmas.Result.{IfOk-weaker}
use Rattle.reasoning.proofs.ListLemmas.{contains_first, extends_none}
use Rattle.criteria.specs.Laws.{Admits}
use Rattle.fronts.specs.declared.entry.Item.{Item}
use Rattle.fronts.specs.declared.entry.FrontEntry.{FrontEntry}
use Rattle.fronts.specs.Front.{Extends, front, points_from}
use Rattle.fronts.specs.Entries.{AreMore}
use Rattle.fronts.specs.Lists.{lists_criterion, entries_of, items_of, steps_of}
use Rattle.fronts.specs.Putting.{betters, IsJoined, MayPut}
use Rattle.fronts.specs.Walking.{TakesBoardings}
use Rattle.fronts.proofs.Ahead.{read_low, read_fresh, ahead_none, ahead_may, ahead_one}
use Rattle.fronts.proofs.Growth.{more_lists, more_none}
use Rattle.fronts.proofs.Mapped.{takes_points, taken_if_ok}
use Rattle.fronts.proofs.OnePut.{put_more, put_joined}
use Rattle.fronts.proofs.front_lists.FrontLists.insert_ahead.Given as given
use Rattle.fronts.proofs.front_lists.FrontLists.insert_ahead.Goals.{In_ok-append, After-deref-3}
use Rattle.fronts.proofs.front_lists.FrontLists.insert_ahead.Goals as goal

pub front_betters-requires-clause-value : goal.front_betters-requires-clause-value
front_betters-requires-clause-value g c =
    let criterion = lists_criterion c.args.self.now in
    let ride = c.args.ride in
    subst (Admits (g.C.Criterion.rules criterion)) (sym c.walk-value.ensures)
    ((g.met.C.Criterion.laws criterion).walk_admits c.args.boarding.secs ride.value c.requires.may.short
    (c.requires.may.admitted ride (contains_first ride [])))

pub returns-then-front_betters-clause-more : goal.returns-then-front_betters-clause-more
returns-then-front_betters-clause-more g c = more_none g.C.Criterion.rules c.args.self.now c.requires.may.sound

pub returns-then-front_betters-clause-taken : goal.returns-then-front_betters-clause-taken
returns-then-front_betters-clause-taken g c =
    let lists = c.args.self.now in
    let rules = g.C.Criterion.rules (lists_criterion lists) in
    let by = c.args.boarding in
    let ride = c.args.ride in
    let may = c.requires.may in
    let list = points_from (entries_of lists) (items_of lists) c.args.head in
    record {
      within = may.within;
      takes = takes_points rules (steps_of lists) by (ride ∷ []) list list
          (ahead_none rules (g.met.C.Criterion.laws (lists_criterion lists)) (entries_of lists) (items_of lists) c.args.head by
          ride may c.requires.ahead (steps_of lists)
          (read_low rules (entries_of lists) c.deref.result.now (items_of lists) c.deref-2.result.now c.args.head
          c.walk-value.result (rules.walk by.secs ride.value) c.front_betters.result c.deref.ensures.value
          c.deref-2.ensures.value c.walk-value.ensures c.front_betters.ensures c.if-front_betters.true));
    }

pub returns-in_err-append-clause-more : goal.returns-in_err-append-clause-more
returns-in_err-append-clause-more g c =
    let lists = c.args.self.now in
    record {
      sound = c.requires.may.sound;
      criterion = refl;
      entries = extends_none (entries_of lists);
      items = extends_none (items_of lists);
      steps = subst (λ steps. Extends (steps_of lists) steps) (sym c.in_err-append.ensures.same) (extends_none (steps_of lists));
    }

-- the point that is put
abbrev point : (g : given.Over) (c : In_ok-append g) → Item g.row.C-V.Denot
point g c = record { departure = c.args.boarding.departure; value = c.walk-value.result; tag = c.in_ok-tag.tag }

numbered : (g : given.Over) (c : In_ok-append g) → c.in_ok-tag.tag ≡ length (steps_of c.args.self.now)
numbered g c = let tag_is = c.in_ok-tag.ensures in omega (arith, tag_is)

fresh : (g : given.Over) (c : In_ok-append g)
    → betters (g.C.Criterion.rules (lists_criterion c.args.self.now))
    (front (entries_of c.args.self.now) (items_of c.args.self.now) c.args.head) c.walk-value.result ≡ false
fresh g c =
    let lists = c.args.self.now in
    read_fresh (g.C.Criterion.rules (lists_criterion lists)) (entries_of lists) c.deref.result.now (items_of lists) c.deref-2.result.now
    c.args.head c.walk-value.result c.front_betters.result c.deref.ensures.value c.deref-2.ensures.value c.front_betters.ensures
    c.if-front_betters.false

may_put : (g : given.Over) (c : In_ok-append g)
    → MayPut (g.C.Criterion.rules (lists_criterion c.args.self.now)) (entries_of c.args.self.now) (items_of c.args.self.now)
    c.args.boarding.departure c.args.head (point g c ∷ [])
may_put g c =
    let lists = c.args.self.now in
    let rules = g.C.Criterion.rules (lists_criterion lists) in
    ahead_may rules (g.met.C.Criterion.laws (lists_criterion lists)) (entries_of lists) (items_of lists) c.args.head
    c.args.boarding c.args.ride c.requires.may c.requires.ahead (steps_of lists) c.append.new.items.items c.in_ok-tag.tag
    c.walk-value.result c.walk-value.ensures c.in_ok-append.ensures.added (numbered g c) (fresh g c)

-- what the lists are once it is put
taken : (g : given.Over) (c : In_ok-append g) (entries : List (FrontEntry g.row.C-V.Denot)) (items : List (Item g.row.C-V.Denot)) (new : ℕ)
    → IsJoined (g.C.Criterion.rules (lists_criterion c.args.self.now)) (point g c ∷ [])
    (points_from (entries_of c.args.self.now) (items_of c.args.self.now) c.args.head) (entries_of c.args.self.now) entries
    (items_of c.args.self.now) items new
    → (new < length entries) × TakesBoardings (g.C.Criterion.rules (lists_criterion c.args.self.now)) c.append.new.items.items
    c.args.boarding (c.args.ride ∷ []) (points_from (entries_of c.args.self.now) (items_of c.args.self.now) c.args.head)
    (points_from entries items new)
taken g c entries items new put =
    let lists = c.args.self.now in
    let rules = g.C.Criterion.rules (lists_criterion lists) in (
      put.within,
      ahead_one rules (g.met.C.Criterion.laws (lists_criterion lists)) (entries_of lists) (items_of lists) c.args.head
          c.args.boarding c.args.ride c.requires.may c.requires.ahead (steps_of lists) c.append.new.items.items c.in_ok-tag.tag
          c.walk-value.result c.walk-value.ensures c.in_ok-append.ensures.added (numbered g c) (fresh g c)
          (points_from entries items new) put.union,
    )

pub outdoes-requires-clause-value : goal.outdoes-requires-clause-value
outdoes-requires-clause-value g c =
    let here = (goal.at.outdoes-requires-clause-value g c).In_ok-append in
    (may_put g here).admitted (point g here) (contains_first (point g here) [])

pub put_alone-requires-clause-may : goal.put_alone-requires-clause-may
put_alone-requires-clause-may g c =
    let lists = c.args.self.now in
    let here = (goal.at.put_alone-requires-clause-may g c).In_ok-append in
    subst (λ items. MayPut (g.C.Criterion.rules (lists_criterion lists)) (entries_of lists) items c.args.boarding.departure
    c.args.head (point g here ∷ [])) (sym c.deref-then-outdoes.ensures.value) (may_put g here)

pub returns-then-outdoes-clause-more : goal.returns-then-outdoes-clause-more
returns-then-outdoes-clause-more g c =
    let lists = c.args.self.now in
    more_lists g.C.Criterion.rules lists _ (subst (λ items. AreMore (g.C.Criterion.rules (lists_criterion lists)) (entries_of lists)
    items c.put_alone.new.entries.items items) c.deref-then-outdoes.ensures.value
    (put_more _ _ _ _ _ _ _ _ c.put_alone.result c.put_alone.ensures)) refl (_, c.in_ok-append.ensures.added)

pub returns-then-outdoes-clause-taken : goal.returns-then-outdoes-clause-taken
returns-then-outdoes-clause-taken g c =
    let lists = c.args.self.now in
    let rules = g.C.Criterion.rules (lists_criterion lists) in
    let here = (goal.at.returns-then-outdoes-clause-taken g c).In_ok-append in
    let entries = c.put_alone.new.entries.items in
    taken_if_ok g.C.Criterion.rules c.args.boarding (c.args.ride ∷ []) lists _ c.args.head c.put_alone.result
    (IfOk-weaker c.put_alone.result _ _ (taken g here entries (items_of lists))
    (subst (λ items. IfOk c.put_alone.result (IsJoined rules (point g here ∷ []) (points_from (entries_of lists) items c.args.head)
    (entries_of lists) entries items items)) c.deref-then-outdoes.ensures.value (put_joined _ _ _ _ _ _ _ _ c.put_alone.result c.put_alone.ensures)))

pub returns-in_err-append-2-clause-more : goal.returns-in_err-append-2-clause-more
returns-in_err-append-2-clause-more g c =
    let lists = c.args.self.now in
    record {
      sound = c.requires.may.sound;
      criterion = refl;
      entries = extends_none (entries_of lists);
      items = extends_none (items_of lists);
      steps = (_, c.in_ok-append.ensures.added);
    }

-- the point is all that is kept
kept_is : (g : given.Over) (c : After-deref-3 g) → c.deref-3.result.now
    ≡ record { departure = c.args.boarding.departure; value = c.walk-value.result; tag = c.in_ok-tag.tag } ∷ []
kept_is g c =
    let x : Item g.row.C-V.Denot = record { departure = c.args.boarding.departure; value = c.walk-value.result; tag = c.in_ok-tag.tag } in
    c.deref-3.ensures.value ∙ c.in_ok-append-2.ensures.added ∙ ap (λ ps. ps ++ x ∷ []) c.clear.ensures.items

pub put-requires : goal.put-requires
put-requires g c =
    let lists = c.args.self.now in
    record {
      may = subst (MayPut (g.C.Criterion.rules (lists_criterion lists)) (entries_of lists) (items_of lists) c.args.boarding.departure c.args.head)
          (sym (kept_is g (goal.at.put-requires g c).After-deref-3)) (may_put g (goal.at.put-requires g c).In_ok-append);
    }

pub returns-clause-more : goal.returns-clause-more
returns-clause-more g c =
    more_lists g.C.Criterion.rules c.args.self.now _ (put_more _ _ _ _ _ _ _ _ c.put.result c.put.ensures) refl (_, c.in_ok-append.ensures.added)

pub returns-clause-taken : goal.returns-clause-taken
returns-clause-taken g c =
    let lists = c.args.self.now in
    let rules = g.C.Criterion.rules (lists_criterion lists) in
    let entries = c.put.new.entries.items in
    let items = c.put.new.items.items in
    taken_if_ok g.C.Criterion.rules c.args.boarding (c.args.ride ∷ []) lists _ c.args.head c.put.result
    (IfOk-weaker c.put.result _ _ (taken g (goal.at.returns-clause-taken g c).In_ok-append entries items)
    (subst (λ ps. IfOk c.put.result (IsJoined rules ps (points_from (entries_of lists) (items_of lists) c.args.head)
    (entries_of lists) entries (items_of lists) items)) (kept_is g (goal.at.returns-clause-taken g c).After-deref-3)
    (put_joined _ _ _ _ _ _ _ _ c.put.result c.put.ensures)))
