use Rattle.std.proofs.Common.{◌≡◌, ℕ, ◌+◌, ◌<◌, ◌≤◌, get_or, length}
use Rattle.lanes.proofs.words.retagged.Given as goal

abbrev pub invariant-loop-k : goal.invariant-loop-k
invariant-loop-k l =
    (length l.out ≡ 8) × ((k : ℕ) → k < l.k → get_or l.words k 0 < get_or l.times k 0 → get_or l.out k 0 ≡ l.first + k)
    × ((k : ℕ) → k < l.k → get_or l.times k 0 ≤ get_or l.words k 0 → get_or l.out k 0 ≡ get_or l.tags k 0)
    × ((k : ℕ) → l.k ≤ k → get_or l.out k 0 ≡ get_or l.tags k 0)
