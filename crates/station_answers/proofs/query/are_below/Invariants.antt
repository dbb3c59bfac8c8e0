use Rattle.std.proofs.Common.{◌≡◌, ℕ, ◌<◌, slice_get, Some}
use Rattle.station_answers.proofs.query.are_below.Given as goal

abbrev pub invariant-loop-number : goal.invariant-loop-number
invariant-loop-number l = (k n : ℕ) → k < l.number-index → slice_get l.numbers k ≡ Some n → n < l.end
