use Rattle.std.proofs.Common.{take}
use Rattle.std.specs.List.{AllZip}
use Rattle.image_files.specs.Naming.{names_in}
use Rattle.matrix_rows.proofs.Names.{IsCalled}
use Rattle.matrix_rows.proofs.set_names.set_names.Given as goal

abbrev pub invariant-loop-set : goal.invariant-loop-set
invariant-loop-set l = AllZip (IsCalled (names_in l.form l.image.names)) (take l.set-index l.sets) l.names.items
