use Rattle.std.proofs.Common.{◌≡◌, length}
use Rattle.footpaths.specs.Index.{AreChains}
use Rattle.footpaths.proofs.index.chain.Given as goal

abbrev pub invariant-loop-i : goal.invariant-loop-i
invariant-loop-i l = record {
  stops : length l.last.items ≡ l.stops;
  footpaths : length l.before.items ≡ l.i;
  chains : AreChains l.listed l.i l.last.items l.before.items;
}
