use Rattle.std.proofs.Common.{◌≡◌, length, reverse}
use Rattle.gtfs_rows.specs.Cells.{trim_front}
use Rattle.gtfs_rows.proofs.cells.trim_end.Given as goal

abbrev pub invariant-loop-text : goal.invariant-loop-text
invariant-loop-text l = trim_front (reverse l.text) ≡ trim_front (reverse l.fn.text)

abbrev pub decreases-loop-text : goal.decreases-loop-text
decreases-loop-text l = length l.text
