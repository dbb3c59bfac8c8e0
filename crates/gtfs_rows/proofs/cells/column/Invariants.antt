use Rattle.std.proofs.Common.{◌≡◌, None}
use Rattle.reasoning.specs.First.{first_below}
use Rattle.csv.specs.Records.{fields_of}
use Rattle.gtfs_rows.specs.Cells.{named_at}
use Rattle.gtfs_rows.proofs.cells.column.Given as goal

abbrev pub invariant-loop-index : goal.invariant-loop-index
invariant-loop-index l = first_below (named_at l.name (fields_of l.header)) l.index ≡ None
