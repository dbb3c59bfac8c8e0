use Rattle.std.proofs.Common.{◌≡◌, false}
use Rattle.timetable.specs.First.{any_between}
use Rattle.image_verifier.specs.FootFaults.{is_bad_footpath}
use Rattle.image_verifier.proofs.footpaths.has_bad_footpath.Given as goal

abbrev pub invariant-loop-k : goal.invariant-loop-k
invariant-loop-k l = any_between (is_bad_footpath l.words) l.start l.k ≡ false
