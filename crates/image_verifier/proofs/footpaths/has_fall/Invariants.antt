use Rattle.std.proofs.Common.{◌≡◌, ◌+◌, false}
use Rattle.timetable.specs.First.{any_between}
use Rattle.image_verifier.specs.FootFaults.{is_fall}
use Rattle.image_verifier.proofs.footpaths.has_fall.Given as goal

abbrev pub invariant-loop-k : goal.invariant-loop-k
invariant-loop-k l = any_between (is_fall l.words) (l.start + 1) l.k ≡ false
