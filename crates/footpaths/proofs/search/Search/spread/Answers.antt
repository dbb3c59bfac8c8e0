use Rattle.std.proofs.Common.{arith}
use Rattle.std.specs.BinaryHeap.{heap_items}
use Rattle.timetable.specs.declared.network.Footpath.{Footpath}
use Rattle.footpaths.proofs.SearchLemmas.{Grows-trans, all_within_more}
use Rattle.footpaths.proofs.search.Search.spread.Goals as goal

-- what stands past the end
no_path : Footpath
no_path = record { from = 0; to = 0; secs = 0 }

pub loop-path-preserved : goal.loop-path-preserved
unfolding no_path
loop-path-preserved c = record {
  grows = Grows-trans c.args.self.now.times.items c.loop-path.self.times.items c.step.new.self.times.items (heap_items c.args.self.now.pending)
      (heap_items c.loop-path.self.pending) (heap_items c.step.new.self.pending) c.loop-path.invariant.grows c.in_ok-step.ensures.grows;
  within = all_within_more c.loop-path.self.times.items c.step.new.self.times.items c.args.paths.now c.args.secs c.loop-path.path-index c.loop-path-test.true
      c.in_ok-step.ensures.grows.lower c.loop-path.invariant.within no_path c.in_ok-step.ensures.within;
  walked = λ listed target all old. c.in_ok-step.ensures.walked listed target (all c.loop-path.path-index no_path c.loop-path-test.true)
      (c.loop-path.invariant.walked listed target all old);
  reached = λ old. c.in_ok-step.ensures.reached (c.loop-path.invariant.reached old);
  falls = omega (arith, c.in_ok-step.ensures.falls, c.loop-path.invariant.falls);
}
