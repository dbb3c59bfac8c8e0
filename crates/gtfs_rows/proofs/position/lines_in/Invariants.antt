use Rattle.std.proofs.Common.{◌≡◌, ◌≤◌, ◌+◌, ◌-◌, length}
use Rattle.gtfs_rows.specs.Positions.{line_ends}
use Rattle.gtfs_rows.proofs.position.lines_in.Given as goal

abbrev pub invariant-loop-passed : goal.invariant-loop-passed
invariant-loop-passed l = record {
  lines : l.lines + line_ends l.rest (l.count - l.passed) ≡ line_ends l.fn.text l.count;
  within : l.lines + length l.rest ≤ length l.fn.text;
}
