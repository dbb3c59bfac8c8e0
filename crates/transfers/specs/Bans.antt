-- The pairs of stations between which no transfer is possible.
use Rattle.std.specs.Prelude.{◌≡◌, ◌≢◌, ℕ, List, [], ◌∷◌, Contains, Option, Some, None}
use Rattle.std.specs.declared.cmp.Ordering.{Ordering}
use Rattle.std.specs.Ordering.{nat_cmp, ordering_then}
use Rattle.std.specs.List.Sorted.{IsSorted}
use Rattle.gtfs_rows.specs.declared.rows.TransferKind.{TransferKind}
use Rattle.gtfs_rows.specs.declared.rows.TransferKind.TheVariants.{Recommended, Timed, Minimum, Impossible, Skipped}
use Rattle.gtfs_tables.specs.declared.tables.Stop.{Stop}
use Rattle.gtfs_tables.specs.declared.tables.Transfer.{Transfer}
use Rattle.gtfs_tables.specs.declared.tables.TransferEnd.{TransferEnd}
use Rattle.gtfs_tables.specs.declared.tables.TransferEnd.TheVariants.{Stop as TheStop, Station as TheStation}
use Rattle.transfers.specs.declared.bans.Ban.{Ban}
use Rattle.transfers.specs.declared.claims.Claim.{Claim}
use Rattle.transfers.specs.declared.claims.Source.{Source}
use Rattle.transfers.specs.declared.claims.Source.TheVariants.{Stops, Station, Default}
use Rattle.transfers.specs.Listed.{source_of, station_of}
use Rattle.transfers.specs.Claims.{IsRowInto}

-- some transfer says that none is possible from one station to the other
abbrev pub IsBan : List Transfer → ℕ → ℕ → Type 0
IsBan rows from to = (row : Transfer) × Contains rows row × (row.kind ≡ Impossible) × (row.from ≡ TheStation from) × (row.to ≡ TheStation to)

-- both stations are there, and no transfer is possible between them
abbrev pub IsVoid : List Transfer → Option ℕ → Option ℕ → Type 0
IsVoid rows None to = ⊥
IsVoid rows (Some from) None = ⊥
IsVoid rows (Some from) (Some to) = IsBan rows from to

-- the ban between two ends, if both are stations; then the bans that a kind of transfer states, and those of a transfer
abbrev pub ban_between : TransferEnd → TransferEnd → Option Ban
ban_between (TheStop from) to = None
ban_between (TheStation from) (TheStop to) = None
ban_between (TheStation from) (TheStation to) = Some (record { to = to; from = from })

abbrev pub listed_ban : Option Ban → List Ban
listed_ban None = []
listed_ban (Some ban) = ban ∷ []

abbrev pub bans_by : TransferKind → TransferEnd → TransferEnd → List Ban
bans_by Recommended from to = []
bans_by Timed from to = []
bans_by Minimum from to = []
bans_by Impossible from to = listed_ban (ban_between from to)
bans_by Skipped from to = []

abbrev pub bans_in : Transfer → List Ban
bans_in row = bans_by row.kind row.from row.to

-- these are all bans that the transfers state
pub record HasBans (rows : List Transfer) (bans : List Ban) : Type 0 where
  pub has : (b : Ban) → Contains bans b → IsBan rows b.from b.to
  pub each : (b : Ban) → IsBan rows b.from b.to → Contains bans b

abbrev pub ban_cmp : Ban → Ban → Ordering
ban_cmp a b = ordering_then (nat_cmp a.to b.to) (nat_cmp a.from b.from)

-- they are also sorted, by the station that they lead to
pub record AreBans (rows : List Transfer) (bans : List Ban) : Type 0 where
  pub all : HasBans rows bans
  pub sorted : IsSorted ban_cmp bans

-- the station that an end is, or the station of the stop that it is
abbrev pub station_at : List Stop → TransferEnd → Option ℕ
station_at stops (TheStop stop) = station_of stops stop
station_at stops (TheStation station) = Some station

-- a claim of this source doesn't count: it isn't by a transfer that names both stops itself, and no transfer is possible between the stations
abbrev pub IsBanned : Source → Type 0 → Type 0
IsBanned Stops void = ⊥
IsBanned Station void = void
IsBanned Default void = void

-- a transfer says nothing except about loops: it doesn't name both stops itself, and no transfer is possible between its stations
abbrev pub IsBannedRow : List Stop → List Transfer → Transfer → ℕ → Type 0
IsBannedRow stops rows row to = IsBanned (source_of row) (IsVoid rows (station_at stops row.from) (station_of stops to))

-- a claim needn't be made: its source doesn't name both stops itself, no transfer is possible between their stations, and it isn't about a loop
pub record IsBannedClaim (stops : List Stop) (rows : List Transfer) (c : Claim) : Type 0 where
  pub apart : c.from ≢ c.to
  pub void : IsBanned c.source (IsVoid rows (station_of stops c.from) (station_of stops c.to))

-- the claims without those that needn't be made
abbrev pub Unbanned : List Stop → List Transfer → (Claim → Type 0) → Claim → Type 0
Unbanned stops rows made c = made c × ¬ IsBannedClaim stops rows c

-- a transfer makes this claim about the loop of a stop
abbrev pub IsOwnInto : List Stop → ℕ → Transfer → Claim → Type 0
IsOwnInto stops to row c = IsRowInto stops to row c × (c.from ≡ c.to)
