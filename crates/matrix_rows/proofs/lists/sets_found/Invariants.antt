use Rattle.std.proofs.Common.{map, take}
use Rattle.std.specs.List.{AllZip}
use Rattle.matrix_rows.specs.Listed.{ids_in}
use Rattle.matrix_rows.specs.Sought.{AreFound}
use Rattle.matrix_rows.proofs.lists.sets_found.Given as goal

abbrev pub invariant-loop-index : goal.invariant-loop-index
invariant-loop-index l =
    AllZip (λ line set. AreFound l.found (ids_in line) set.items) (take l.index (map (λ line. line.now) l.listed)) l.sets.items
