use Rattle.std.proofs.Common.{◌≡◌, map, take}
use Rattle.std.specs.List.{flat_map}
use Rattle.matrix_rows.specs.Listed.{ids_in}
use Rattle.matrix_rows.proofs.lists.ids_of_lines.Given as goal

abbrev pub invariant-loop-line : goal.invariant-loop-line
invariant-loop-line l = map (λ id. id.now) l.ids.items ≡ flat_map ids_in (take l.line-index (map (λ line. line.now) l.listed))
