use Rattle.std.proofs.Common.{◌≡◌, ℕ, ◌<◌, ◌≤◌, min, get_or, length}
use Rattle.lanes.proofs.words.lowered_from.Given as goal

abbrev pub invariant-loop-k : goal.invariant-loop-k
invariant-loop-k l =
    (length l.out ≡ 9) × ((k : ℕ) → k < l.k → l.trips ≤ k → get_or l.out k 0 ≡ min (get_or l.words k 0) l.time)
    × ((k : ℕ) → k < l.k → k < l.trips → get_or l.out k 0 ≡ get_or l.words k 0)
    × ((k : ℕ) → l.k ≤ k → get_or l.out k 0 ≡ get_or l.words k 0)
