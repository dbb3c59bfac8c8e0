-- Which transfers between the same two ends count.
use Rattle.std.specs.Prelude.{◌≡◌, ◌⊎◌, true, false, List, Contains, Option, Some, None}
use Rattle.gtfs_tables.specs.declared.tables.Transfer.{Transfer}
use Rattle.transfers.specs.declared.claims.Verdict.{Verdict}
use Rattle.transfers.specs.Listed.{verdict_of}
use Rattle.transfers.specs.Claims.{CountsBefore}

-- if the second says something, the first says something that counts before it, or the same
abbrev pub CountsInstead : Option Verdict → Option Verdict → Type 0
CountsInstead claimed None = Unit {0}
CountsInstead None (Some other) = ⊥
CountsInstead (Some verdict) (Some other) = CountsBefore verdict other

-- a transfer has the ends of another, and says all that counts of what the other says, about two different stops and about a loop
pub record Covers (row other : Transfer) : Type 0 where
  pub from_is : row.from ≡ other.from
  pub to_is : row.to ≡ other.to
  pub apart : CountsInstead (verdict_of row false) (verdict_of other false)
  pub at_one : CountsInstead (verdict_of row true) (verdict_of other true)

-- some transfer of a list says all that counts of what another says
abbrev pub IsCoveredIn : List Transfer → Transfer → Type 0
IsCoveredIn kept other = (row : Transfer) × Contains kept row × Covers row other

-- the list keeps its transfers, gets no other than this one, and some transfer in it says all that counts of what this one says
pub record KeepsOrCovers (old new : List Transfer) (row : Transfer) : Type 0 where
  pub kept : (x : Transfer) → Contains old x → Contains new x
  pub only : (x : Transfer) → Contains new x → Contains old x ⊎ (x ≡ row)
  pub claimed : IsCoveredIn new row

-- the transfers that are kept are some of the list, and say all that counts of what any in the list says
pub record KeepsWhatCounts (rows kept : List Transfer) : Type 0 where
  pub only : (row : Transfer) → Contains kept row → Contains rows row
  pub each : (row : Transfer) → Contains rows row → IsCoveredIn kept row
