use Rattle.std.proofs.Common.{◌≡◌, length, take}
use Rattle.sources.proofs.decoded.decode_walks_into.Given as goal

abbrev pub invariant-loop-index : goal.invariant-loop-index
invariant-loop-index l = record {
  first : l.footpaths.items ≡ take l.index l.image.timetable.footpaths;
  long : length l.footpaths.items ≡ l.index;
}
