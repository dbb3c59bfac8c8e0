-- Claims about ordered pairs of stops, and their order.
use Rattle.std.specs.Prelude.{◌≡◌, ◌≢◌, ◌==◌, ◌-◌, ◌<◌, ◌≤◌, ◌⊎◌, ℕ, true, List, [], ◌∷◌, length, Contains, Option, Some, None}
use Rattle.timetable.specs.Legal.{At}
use Rattle.timetable.specs.declared.network.Footpath.{Footpath}
use Rattle.gtfs_tables.specs.declared.tables.Stop.{Stop}
use Rattle.gtfs_tables.specs.declared.tables.Transfer.{Transfer}
use Rattle.gtfs_tables.specs.declared.tables.TransferEnd.{TransferEnd}
use Rattle.gtfs_tables.specs.declared.tables.TransferEnd.TheVariants.{Station as TheStation}
use Rattle.transfers.specs.declared.claims.Source.{Source}
use Rattle.transfers.specs.declared.claims.Source.TheVariants.{Stops, Station, Default}
use Rattle.transfers.specs.declared.claims.Verdict.{Verdict}
use Rattle.transfers.specs.declared.claims.Verdict.TheVariants.{Never, Takes}
use Rattle.transfers.specs.declared.claims.Claim.{Claim}
use Rattle.transfers.specs.Listed.{stands_for, is_child, source_of, verdict_of, is_of, station_of}

-- the claims made are added, and nothing else
pub record Adds (old new : List Claim) (made : Claim → Type 0) : Type 0 where
  pub kept : (c : Claim) → Contains old c → Contains new c
  pub added : (c : Claim) → made c → Contains new c
  pub only : (c : Claim) → Contains new c → Contains old c ⊎ made c

-- one of the elements makes the claim
abbrev pub ForOneOf : {X : Type 0} → List X → (X → Claim → Type 0) → Claim → Type 0
ForOneOf {X} xs made c = (x : X) × Contains xs x × made x c

-- a transfer makes this claim about a pair of stops
pub record IsPairClaim (row : Transfer) (from to : ℕ) (c : Claim) : Type 0 where
  pub from_is : c.from ≡ from
  pub to_is : c.to ≡ to
  pub source_is : c.source ≡ source_of row
  pub verdict_is : verdict_of row (from == to) ≡ Some c.verdict

-- a transfer makes this claim
pub record IsRowClaim (stops : List Stop) (row : Transfer) (c : Claim) : Type 0 where
  pub from_stands : stands_for stops row.from c.from ≡ true
  pub to_stands : stands_for stops row.to c.to ≡ true
  pub source_is : c.source ≡ source_of row
  pub verdict_is : verdict_of row (c.from == c.to) ≡ Some c.verdict

-- the default claim about two different stops of one station
pub record IsSiblingClaim (stops : List Stop) (c : Claim) : Type 0 where
  pub siblings : is_of stops (station_of stops c.to) c.from ≡ true
  pub differ : c.from ≢ c.to
  pub source_is : c.source ≡ Default
  pub verdict_is : c.verdict ≡ Takes 120

-- the default claim about the way from one stop to another of the same station
pub record IsSiblingPair (from to : ℕ) (c : Claim) : Type 0 where
  pub from_is : c.from ≡ from
  pub to_is : c.to ≡ to
  pub differ : from ≢ to
  pub source_is : c.source ≡ Default
  pub verdict_is : c.verdict ≡ Takes 120

-- the default claim about the way to a stop from another stop of the station
pub record IsSiblingInto (all : List Stop) (station to : ℕ) (c : Claim) : Type 0 where
  pub child : is_child all station c.from ≡ true
  pub to_is : c.to ≡ to
  pub differ : c.from ≢ c.to
  pub source_is : c.source ≡ Default
  pub verdict_is : c.verdict ≡ Takes 120

-- the default claim about the loop of a stop with a number below this
pub record IsLoopClaim (stops : ℕ) (c : Claim) : Type 0 where
  pub below : c.to < stops
  pub loop : c.from ≡ c.to
  pub source_is : c.source ≡ Default
  pub verdict_is : c.verdict ≡ Takes 0

-- the feed makes the claim
abbrev pub IsClaim : List Stop → List Transfer → Claim → Type 0
IsClaim stops transfers c = ForOneOf transfers (IsRowClaim stops) c ⊎ (IsSiblingClaim stops c ⊎ IsLoopClaim (length stops) c)

-- a transfer makes this claim about a way into a stop
pub record IsRowInto (stops : List Stop) (to : ℕ) (row : Transfer) (c : Claim) : Type 0 where
  pub from_stands : stands_for stops row.from c.from ≡ true
  pub to_is : c.to ≡ to
  pub source_is : c.source ≡ source_of row
  pub verdict_is : verdict_of row (c.from == c.to) ≡ Some c.verdict

-- the transfer of this number makes this claim about a way into a stop
abbrev pub IsNumberedClaim : List Stop → List Transfer → ℕ → ℕ → Claim → Type 0
IsNumberedClaim stops rows to number c = (row : Transfer) × At rows number row × IsRowInto stops to row c

-- a transfer that leads to this end makes this claim about a way into a stop
abbrev pub IsClaimBy : List Stop → List Transfer → TransferEnd → ℕ → Claim → Type 0
IsClaimBy stops rows index to c = (row : Transfer) × Contains rows row × (row.to ≡ index) × IsRowInto stops to row c

-- the claim about a way into a stop that the stop has as one of a station: by a transfer to the station, or by default
abbrev pub IsStationClaim : List Stop → List Transfer → ℕ → ℕ → Claim → Type 0
IsStationClaim stops rows station to c = IsClaimBy stops rows (TheStation station) to c ⊎ IsSiblingInto stops station to c

-- the default claim about the loop of a stop
pub record IsLoopOf (stop : ℕ) (c : Claim) : Type 0 where
  pub to_is : c.to ≡ stop
  pub from_is : c.from ≡ stop
  pub source_is : c.source ≡ Default
  pub verdict_is : c.verdict ≡ Takes 0

-- a claim about a way into a stop of the feed, except those of transfers that lead to the stop itself
abbrev pub IsStopClaim : List Stop → List Transfer → Option ℕ → ℕ → Claim → Type 0
IsStopClaim stops rows None to c = IsLoopOf to c
IsStopClaim stops rows (Some station) to c = IsStationClaim stops rows station to c ⊎ IsLoopOf to c

-- the feed makes this claim about a way into a stop
abbrev pub IsClaimInto : List Stop → List Transfer → ℕ → Claim → Type 0
IsClaimInto stops rows to c = IsClaim stops rows c × (c.to ≡ to)

-- these are the stops that an end stands for
pub record AreStoodFor (all : List Stop) (index : TransferEnd) (stops : List ℕ) : Type 0 where
  pub stand : (stop : ℕ) → Contains stops stop → stands_for all index stop ≡ true
  pub each : (stop : ℕ) → stands_for all index stop ≡ true → Contains stops stop

-- these are the stops of a station
pub record AreChildren (all : List Stop) (station : ℕ) (stops : List ℕ) : Type 0 where
  pub has : (stop : ℕ) → Contains stops stop → is_child all station stop ≡ true
  pub each : (stop : ℕ) → is_child all station stop ≡ true → Contains stops stop

-- the order of sources: the first that makes a claim about a pair of stops counts
abbrev pub source_number : Source → ℕ
source_number Stops = 0
source_number Station = 1
source_number Default = 2

-- of two verdicts of one source the first is the one that counts, or they are the same
abbrev pub CountsBefore : Verdict → Verdict → Type 0
CountsBefore Never other = Unit {0}
CountsBefore (Takes secs) Never = ⊥
CountsBefore (Takes secs) (Takes other) = secs ≤ other

-- a claim comes before another, or is equal: by the stop that it leads to, the stop that it leaves, its source, and its verdict
pub record ComesBefore (c d : Claim) : Type 0 where
  pub by_to : c.to ≤ d.to
  pub by_from : c.to ≡ d.to → c.from ≤ d.from
  pub by_source : c.to ≡ d.to → c.from ≡ d.from → source_number c.source ≤ source_number d.source
  pub by_verdict : c.to ≡ d.to → c.from ≡ d.from → c.source ≡ d.source → CountsBefore c.verdict d.verdict

-- the claims are in this order
abbrev pub AreSorted : List Claim → Type 0
AreSorted claims = (i j : ℕ) (c d : Claim) → i < j → At claims i c → At claims j d → ComesBefore c d

-- the claim at the index is the first about its pair
abbrev pub IsFirstAt : List Claim → ℕ → Type 0
IsFirstAt claims index = (b c : Claim) → At claims (index - 1) b → At claims index c → 0 < index → ¬ ((b.to ≡ c.to) × (b.from ≡ c.from))

-- the claim at the index is the first about its pair, and gives this footpath
pub record IsPathAt (claims : List Claim) (index : ℕ) (f : Footpath) : Type 0 where
  pub claim : Claim
  pub at : At claims index claim
  pub first : IsFirstAt claims index
  pub from_is : claim.from ≡ f.from
  pub to_is : claim.to ≡ f.to
  pub verdict_is : claim.verdict ≡ Takes f.secs

-- these are the footpaths of those claims below an index that are the first about their pairs
pub record ArePathsBelow (claims : List Claim) (index : ℕ) (paths : List Footpath) : Type 0 where
  pub has : (f : Footpath) → Contains paths f → (k : ℕ) × (k < index) × IsPathAt claims k f
  pub each : (k : ℕ) (f : Footpath) → k < index → IsPathAt claims k f → Contains paths f

-- the footpath that a verdict gives, if it gives one
abbrev pub path_of : ℕ → ℕ → Verdict → List Footpath
path_of from to Never = []
path_of from to (Takes secs) = record { from = from; to = to; secs = secs } ∷ []
