use Rattle.std.proofs.Common.{map, take}
use Rattle.matrix_rows.specs.Sought.{AreSought}
use Rattle.matrix_rows.proofs.listed_names.names_of.Given as goal

abbrev pub invariant-loop-name : goal.invariant-loop-name
invariant-loop-name l = AreSought (take l.name-index (map (λ name. name.now) l.listed)) l.found
