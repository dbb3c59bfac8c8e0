use Rattle.std.proofs.Common.{map}
use Rattle.matrix_rows.proofs.Repeats.{ArePlaced}
use Rattle.matrix_rows.proofs.repeated.named_twice.Given as goal

abbrev pub invariant-loop-index : goal.invariant-loop-index
invariant-loop-index l = ArePlaced (map (λ name. name.now) l.listed) l.index l.list_indices
