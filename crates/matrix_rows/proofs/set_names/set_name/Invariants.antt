use Rattle.std.proofs.Common.{◌≡◌, string_bytes, take}
use Rattle.image_files.specs.Naming.{names_in}
use Rattle.matrix_rows.specs.Tables.{set_bytes}
use Rattle.matrix_rows.proofs.set_names.set_name.Given as goal

abbrev pub invariant-loop-index : goal.invariant-loop-index
invariant-loop-index l = string_bytes l.names ≡ set_bytes (names_in l.form l.image.names) (take l.index l.stops)
