use Rattle.std.proofs.Common.{take}
use Rattle.transfers.specs.Bans.{HasBans}
use Rattle.transfers.proofs.bans.bans_made.Given as goal

abbrev pub invariant-loop-row : goal.invariant-loop-row
invariant-loop-row l = HasBans (take l.row-index l.rows) l.bans.items
