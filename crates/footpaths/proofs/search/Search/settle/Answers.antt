use Rattle.std.proofs.Common.{◌≡◌, ◌<◌, ◌∷◌, length, ◌∙◌, arith}
use Rattle.std.specs.BinaryHeap.{heap_items}
use Rattle.std.proofs.lemmas.Grind.{common_steps}
use Rattle.std.proofs.lemmas.List.Elements.{All-tail}
use Rattle.std.proofs.lemmas.List.Sorted.{All-permutation}
use Rattle.footpaths.specs.declared.search.HeapEntry.{HeapEntry}
use Rattle.footpaths.proofs.WalkLemmas.{still_pending_or_followed, all_followed}
use Rattle.footpaths.proofs.search.Search.settle.Goals as goal

pub loop-next-preserved : goal.loop-next-preserved
loop-next-preserved c =
    let grows = c.in_ok-follow.ensures.grows in
    let moved = c.in-Some.ensures.permutation in
    let inside = λ (x : HeapEntry). x.stop < length c.loop-next.self.times.items in
    record {
      count = grows.same_length ∙ c.loop-next.invariant.count;
      inside = grows.inside (All-tail inside c.in-Some.next (heap_items c.pop.new.self)
          (All-permutation inside (heap_items c.loop-next.self.pending) (c.in-Some.next ∷ heap_items c.pop.new.self) moved c.loop-next.invariant.inside));
      lower = λ stop secs within. grows.lower stop secs (c.loop-next.invariant.lower stop secs within);
      followed = λ listed index old. still_pending_or_followed listed c.loop-next.self.times.items c.follow.new.self.times.items
          (heap_items c.loop-next.self.pending) (heap_items c.pop.new.self) (heap_items c.follow.new.self.pending) c.in-Some.next moved grows
          (c.in_ok-follow.ensures.followed listed index) (c.loop-next.invariant.followed listed index old);
      walked = λ listed target index old. c.in_ok-follow.ensures.walked listed target index (c.loop-next.invariant.walked listed target index old);
      reached = λ old. c.in_ok-follow.ensures.reached (c.loop-next.invariant.reached old);
    }

pub returns-clause-followed : goal.returns-clause-followed
returns-clause-followed c = λ listed index old.
    let none : length (heap_items c.loop-next.self.pending) ≡ 0 = grind (arith, common_steps) in
    all_followed listed c.loop-next.self.times.items (heap_items c.loop-next.self.pending) none (c.loop-next.invariant.followed listed index old)
