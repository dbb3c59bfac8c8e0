use Rattle.std.proofs.Common.{◌≡◌, false}
use Rattle.timetable.specs.First.{any_between}
use Rattle.image_verifier.specs.FootFaults.{is_from}
use Rattle.image_verifier.proofs.footpaths.has_footpath_from.Given as goal

abbrev pub invariant-loop-k : goal.invariant-loop-k
invariant-loop-k l = any_between (is_from l.words l.stop) l.start l.k ≡ false
