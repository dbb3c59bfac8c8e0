use Rattle.std.proofs.Common.{ℕ, List, Contains, map, take}
use Rattle.matrix_rows.specs.Listed.{AreDifferent, ids_in}
use Rattle.matrix_rows.proofs.lists.stop_twice.Given as goal

abbrev pub invariant-loop-index : goal.invariant-loop-index
invariant-loop-index l =
    (line : List ℕ) → Contains (take l.index (map (λ line. line.now) l.listed)) line → AreDifferent (ids_in line)
