use Rattle.std.proofs.Common.{◌+◌, ℕ, sym, ◌∙◌, inl, inr}
use Rattle.std.specs.BinaryHeap.{heap_items}
use Rattle.std.proofs.lemmas.Option.{none-some}
use Rattle.footpaths.specs.Search.{IsFollowed, AreWalked, AreReached, ArePendingOrFollowed}
use Rattle.footpaths.proofs.WalkLemmas.{followed_those, capped_alone, least}
use Rattle.footpaths.proofs.SearchLemmas.{AreReached-sorted, AreReached-none}
use Rattle.std.proofs.lemmas.List.Sorted.{IsNonDecreasingBy-from_sort}
use Rattle.footpaths.proofs.search.Search.fill.Goals as goal

pub returns-clause-least : goal.returns-clause-least
returns-clause-least c = λ listed index.
    let those = c.into.ensures.those listed index in
    let started : IsFollowed listed c.spread.new.self.times.items c.args.target 0 =
    followed_those listed c.spread.new.self.times.items c.args.target 0 c.into.result.now those c.in_ok-spread.ensures.within in
    let walked : AreWalked listed c.args.cap c.args.target c.spread.new.self.times.items =
    c.in_ok-spread.ensures.walked listed c.args.target
    (λ k d below. capped_alone listed c.args.cap c.args.target _ (those.into k d below).0 (those.into k d below).1)
    (λ stop secs at. absurd (none-some secs (sym (c.requires.empty stop) ∙ at))) in
    let pending : ArePendingOrFollowed listed c.spread.new.self.times.items (heap_items c.spread.new.self.pending) =
    λ stop secs at. elim (c.in_ok-spread.ensures.grows.fresh stop secs at) [
      | inl before ↦ absurd (none-some secs (sym (c.requires.empty stop) ∙ before))
      | inr in_it ↦ inl in_it
    ] in
    least listed c.args.cap c.args.target c.settle.new.self.times.items
    (c.in_ok-settle.ensures.walked listed c.args.target index walked)
    (λ f in_list to. c.in_ok-settle.ensures.lower f.from (f.secs + 0) (started f in_list to))
    (c.in_ok-settle.ensures.followed listed index pending)

pub returns-clause-reached : goal.returns-clause-reached
returns-clause-reached c =
    let start : AreReached c.args.self.now.times.items c.args.self.now.reached.items =
    AreReached-none c.args.self.now.times.items c.args.self.now.reached.items c.requires.nothing c.requires.empty in
    AreReached-sorted c.settle.new.self.times.items c.settle.new.self.reached.items c.sort_unstable.new.self.items c.sort_unstable.ensures.permutation
    (c.in_ok-settle.ensures.reached (c.in_ok-spread.ensures.reached start))

pub returns-clause-sorted : goal.returns-clause-sorted
returns-clause-sorted c = IsNonDecreasingBy-from_sort (λ (x : ℕ). x) c.sort_unstable.new.self.items c.sort_unstable.ensures.sorted
