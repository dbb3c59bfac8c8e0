use Rattle.std.proofs.Common.{◌≡◌, ℕ, ◌<◌, map, slice_get, string_bytes, Some}
use Rattle.load_orders.proofs.names.index_of.Given as goal

abbrev pub invariant-loop-index : goal.invariant-loop-index
invariant-loop-index l = (j : ℕ) → j < l.index → ¬ (slice_get (map string_bytes l.names) j ≡ Some l.name)
