use Rattle.std.proofs.Common.{take}
use Rattle.transfers.specs.Counting.{KeepsWhatCounts}
use Rattle.transfers.proofs.counting.counting_rows.Given as goal

abbrev pub invariant-loop-row : goal.invariant-loop-row
invariant-loop-row l = KeepsWhatCounts (take l.row-index l.rows) l.kept.items
