use Rattle.std.proofs.Common.{◌≡◌, length}
use Rattle.gtfs_rows.specs.Cells.{trim_front}
use Rattle.gtfs_rows.proofs.cells.trim_start.Given as goal

abbrev pub invariant-loop-text : goal.invariant-loop-text
invariant-loop-text l = trim_front l.text ≡ trim_front l.fn.text

abbrev pub decreases-loop-text : goal.decreases-loop-text
decreases-loop-text l = length l.text
