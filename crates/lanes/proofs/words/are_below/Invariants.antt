use Rattle.std.proofs.Common.{ℕ, ◌+◌, ◌<◌, ◌≤◌, MatchBool, get_or}
use Rattle.lanes.proofs.words.are_below.Given as goal

abbrev pub invariant-loop-k : goal.invariant-loop-k
invariant-loop-k l =
    MatchBool l.any ((k : ℕ) × (k < l.k) × (get_or l.times k 0 < get_or l.bound (k + 1) 0))
    ((k : ℕ) → k < l.k → get_or l.bound (k + 1) 0 ≤ get_or l.times k 0)
