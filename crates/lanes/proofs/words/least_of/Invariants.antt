use Rattle.std.proofs.Common.{◌≡◌, ℕ, ◌<◌, min, get_or, length}
use Rattle.lanes.proofs.words.least_of.Given as goal

abbrev pub invariant-loop-k : goal.invariant-loop-k
invariant-loop-k l = (length l.out ≡ 8) × ((k : ℕ) → k < l.k → get_or l.out k 0 ≡ min (get_or l.times k 0) (get_or l.words k 0))
