use Rattle.std.proofs.Common.{◌≡◌, map, take}
use Rattle.csv.specs.Records.{fields_of}
use Rattle.gtfs_rows.specs.Cells.{column}
use Rattle.gtfs_rows.proofs.cells.indices.Given as goal

abbrev pub invariant-loop-name : goal.invariant-loop-name
invariant-loop-name l = l.indices.items ≡ map (λ name. column name.now (fields_of l.header)) (take l.name-index l.names)
