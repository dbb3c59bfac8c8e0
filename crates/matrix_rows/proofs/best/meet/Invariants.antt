use Rattle.std.proofs.Common.{◌≡◌, ℕ, ◌<◌, Contains, slice_get, Some}
use Rattle.matrix_rows.proofs.best.meet.Given as goal

abbrev pub invariant-loop-stop : goal.invariant-loop-stop
invariant-loop-stop l = (k n : ℕ) → k < l.stop-index → slice_get l.stops k ≡ Some n → Contains l.others n → ⊥
