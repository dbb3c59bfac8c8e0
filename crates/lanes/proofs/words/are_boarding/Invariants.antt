use Rattle.std.proofs.Common.{ℕ, ◌+◌, ◌<◌, ◌≤◌, MatchBool, min, get_or}
use Rattle.lanes.proofs.words.are_boarding.Given as goal

abbrev pub invariant-loop-k : goal.invariant-loop-k
invariant-loop-k l =
    MatchBool l.any ((k : ℕ) × (k < l.k) × (get_or l.times k 0 < min (get_or l.front (k + 1) 0) (get_or l.bound (k + 1) 0)))
    ((k : ℕ) → k < l.k → min (get_or l.front (k + 1) 0) (get_or l.bound (k + 1) 0) ≤ get_or l.times k 0)
