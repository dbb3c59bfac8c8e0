use Rattle.std.proofs.Common.{◌≡◌, length}
use Rattle.sources.specs.FootStarts.{HoldsBelow}
use Rattle.sources.proofs.StartLemmas.{AreStartsBelow}
use Rattle.sources.proofs.decoded.decode_footpaths.Given as goal

abbrev pub invariant-loop-stop : goal.invariant-loop-stop
invariant-loop-stop l = record {
  holds : HoldsBelow l.image.timetable l.stop l.footpaths.items;
  long : length l.starts.items ≡ l.stop;
  starts : AreStartsBelow l.image.timetable l.stop l.starts.items;
}
