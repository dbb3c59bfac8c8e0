use Rattle.std.proofs.Common.{◌≡◌, ℕ, ◌+◌, ◌<◌, min, get_or, length}
use Rattle.lanes.proofs.words.boarded.Given as goal

abbrev pub invariant-loop-k : goal.invariant-loop-k
invariant-loop-k l =
    (length l.out ≡ 9) × (get_or l.out 0 0 ≡ get_or l.front 0 0)
    × ((k : ℕ) → k < l.k → get_or l.out (k + 1) 0 ≡ min (get_or l.times k 0) (get_or l.front (k + 1) 0))
