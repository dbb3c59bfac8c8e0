use Rattle.std.proofs.Common.{◌≡◌, ℕ, List, true, Some, Contains, map, take}
use Rattle.departure_lines.specs.Sought.{found_at}
use Rattle.departure_lines.proofs.listed_names.first_missing.Given as goal

abbrev pub invariant-loop-index : goal.invariant-loop-index
invariant-loop-index l = (other : List ℕ) → Contains (take l.index (map (λ name. name.now) l.listed)) other → found_at l.found other ≡ Some true
