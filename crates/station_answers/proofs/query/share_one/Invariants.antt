use Rattle.std.proofs.Common.{◌≡◌, ℕ, ◌<◌, Contains, slice_get, Some}
use Rattle.station_answers.proofs.query.share_one.Given as goal

abbrev pub invariant-loop-number : goal.invariant-loop-number
invariant-loop-number l = (k n : ℕ) → k < l.number-index → slice_get l.numbers k ≡ Some n → Contains l.others n → ⊥
