-- The footpaths that a feed lists, by the GTFS Schedule Reference (stops.txt and transfers.txt). Times that it leaves open are our own.
use Rattle.std.specs.Prelude.{◌≡◌, ◌==◌, ◌&&◌, ◌<◌, ◌≤◌, ◌↔◌, ℕ, min, nat_lt, Bool, true, false, if◌then◌else◌, List, [], ◌∷◌, length, slice_get, Option}
use Rattle.std.specs.Prelude.{All, Some, None}
pub use Rattle.reasoning.specs.Options.{is_that_number as is_station}
use Rattle.timetable.specs.First.{or_else}
use Rattle.timetable.specs.Legal.{HasFootpath, AreInOrder}
use Rattle.timetable.specs.declared.network.Footpath.{Footpath}
use Rattle.gtfs_rows.specs.declared.rows.TransferKind.{TransferKind}
use Rattle.gtfs_rows.specs.declared.rows.TransferKind.TheVariants.{Recommended, Timed, Minimum, Impossible, Skipped}
use Rattle.gtfs_tables.specs.declared.tables.Feed.{Feed}
use Rattle.gtfs_tables.specs.declared.tables.Stop.{Stop}
use Rattle.gtfs_tables.specs.declared.tables.Transfer.{Transfer}
use Rattle.gtfs_tables.specs.declared.tables.TransferEnd.{TransferEnd}
use Rattle.gtfs_tables.specs.declared.tables.TransferEnd.TheVariants.{Stop as TheStop, Station as TheStation}
use Rattle.transfers.specs.declared.claims.Source.{Source}
use Rattle.transfers.specs.declared.claims.Source.TheVariants.{Stops, Station, Default}
use Rattle.transfers.specs.declared.claims.Verdict.{Verdict}
use Rattle.transfers.specs.declared.claims.Verdict.TheVariants.{Never, Takes}
pub use Rattle.gtfs_tables.specs.Joined.{NamesBelow}

-- the station of a stop
abbrev pub station_in : Option Stop → Option ℕ
station_in None = None
station_in (Some stop) = stop.station

abbrev pub station_of : List Stop → ℕ → Option ℕ
station_of stops stop = station_in (slice_get stops stop)

-- the stop is one of the station's
abbrev pub is_child : List Stop → ℕ → ℕ → Bool
is_child stops station stop = is_station (station_of stops stop) station

-- the end stands for a stop: it is that stop, or its station
abbrev pub stands_for : List Stop → TransferEnd → ℕ → Bool
stands_for stops (TheStop named) stop = named == stop
stands_for stops (TheStation station) stop = is_child stops station stop

-- the source of a transfer's claims: it names both stops themselves, or a station
abbrev pub source_by : TransferEnd → TransferEnd → Source
source_by (TheStop from) (TheStop to) = Stops
source_by (TheStop from) (TheStation to) = Station
source_by (TheStation from) (TheStop to) = Station
source_by (TheStation from) (TheStation to) = Station

abbrev pub source_of : Transfer → Source
source_of row = source_by row.from row.to

-- the given time, at most a day, or so many seconds if none is given
abbrev pub given_or : Option ℕ → ℕ → ℕ
given_or None secs = secs
given_or (Some given) secs = min given 86400

-- what a transfer says about a pair of stops that its ends stand for; it can't forbid a loop
abbrev pub verdict_by : TransferKind → Option ℕ → Bool → Option Verdict
verdict_by Recommended given is_loop = Some (Takes (given_or given (if is_loop then 0 else 120)))
verdict_by Timed given is_loop = Some (Takes (given_or given 0))
verdict_by Minimum given is_loop = Some (Takes (given_or given 120))
verdict_by Impossible given is_loop = if is_loop then None else Some Never
verdict_by Skipped given is_loop = None

abbrev pub verdict_of : Transfer → Bool → Option Verdict
verdict_of row is_loop = verdict_by row.kind row.seconds is_loop

-- the two sources are the same
abbrev pub is_source : Source → Source → Bool
is_source Stops Stops = true
is_source Station Station = true
is_source Default Default = true
is_source _ _ = false

-- what a transfer of this source says about a pair of stops
abbrev pub verdict_for : List Stop → Source → ℕ → ℕ → Transfer → Option Verdict
verdict_for stops source from to row =
    if is_source (source_of row) source && stands_for stops row.from from && stands_for stops row.to to then verdict_of row (from == to) else None

-- the verdict of two that counts: there is no footpath if one says so, or else the least time counts
abbrev pub least_verdict : Verdict → Verdict → Verdict
least_verdict Never other = Never
least_verdict (Takes secs) Never = Never
least_verdict (Takes secs) (Takes other) = Takes (min secs other)

-- the verdict of two that counts, if either is there
abbrev pub least_of_both : Option Verdict → Option Verdict → Option Verdict
least_of_both None other = other
least_of_both (Some verdict) None = Some verdict
least_of_both (Some verdict) (Some other) = Some (least_verdict verdict other)

-- the verdict that counts among those of one source about a pair of stops
abbrev pub claimed_by : List Stop → Source → ℕ → ℕ → List Transfer → Option Verdict
claimed_by stops source from to [] = None
claimed_by stops source from to (row ∷ rows) = least_of_both (verdict_for stops source from to row) (claimed_by stops source from to rows)

-- the station is there, and the stop is one of its stops
abbrev pub is_of : List Stop → Option ℕ → ℕ → Bool
is_of stops None stop = false
is_of stops (Some station) stop = is_child stops station stop

-- the verdict for a pair of stops if no transfer counts: no time for a loop, two minutes within a station
abbrev pub default_verdict : List Stop → ℕ → ℕ → Option Verdict
default_verdict stops from to =
    if from == to
    then (if nat_lt to (length stops) then Some (Takes 0) else None)
    else (if is_of stops (station_of stops to) from then Some (Takes 120) else None)

-- the verdict that counts for a pair of stops: of transfers that name both themselves, else of those that name a station, else the default
abbrev pub verdict_between : Feed → ℕ → ℕ → Option Verdict
verdict_between feed from to =
    or_else (claimed_by feed.stops.items Stops from to feed.transfers.items)
    (or_else (claimed_by feed.stops.items Station from to feed.transfers.items) (default_verdict feed.stops.items from to))

abbrev pub secs_of : Option Verdict → Option ℕ
secs_of None = None
secs_of (Some Never) = None
secs_of (Some (Takes secs)) = Some secs

-- the seconds of the listed footpath from one stop to another, if there is one
abbrev pub listed_secs : Feed → ℕ → ℕ → Option ℕ
listed_secs feed from to = secs_of (verdict_between feed from to)

-- these are the listed footpaths between the pairs of stops that are meant
pub record AreListed (feed : Feed) (meant : ℕ → ℕ → Type 0) (paths : List Footpath) : Type 0 where
  pub in_order : AreInOrder paths
  pub has : (from to secs : ℕ) → HasFootpath paths from to secs → meant from to × (listed_secs feed from to ≡ Some secs)
  pub each : (from to secs : ℕ) → meant from to → listed_secs feed from to ≡ Some secs → HasFootpath paths from to secs

-- these are all that the feed lists: they join its stops, and each stop has a loop
pub record AreAllListed (feed : Feed) (paths : List Footpath) : Type 0 where
  pub times : (from to secs : ℕ) → HasFootpath paths from to secs ↔ (listed_secs feed from to ≡ Some secs)
  pub in_order : AreInOrder paths
  pub in_range : All (λ f. (f.from < length feed.stops.items) × (f.to < length feed.stops.items)) paths
  pub loops : (stop : ℕ) → stop < length feed.stops.items → (secs : ℕ) × HasFootpath paths stop stop secs

-- from any stop to one below a number
abbrev pub LeadBelow : ℕ → ℕ → ℕ → Type 0
LeadBelow end from to = to < end

-- more than `most` footpaths lead into stops below a number that is at most `end`
abbrev pub ListsMoreBelow : Feed → ℕ → ℕ → Type 0
ListsMoreBelow feed end most = (few : ℕ) × (few ≤ end) × (paths : List Footpath) × AreListed feed (LeadBelow few) paths × (most < length paths)

-- the feed lists more than `most` footpaths
pub record ListsMore (feed : Feed) (most : ℕ) : Type 0 where
  pub paths : List Footpath
  pub in_order : AreInOrder paths
  pub times : (from to secs : ℕ) → HasFootpath paths from to secs ↔ (listed_secs feed from to ≡ Some secs)
  pub more : most < length paths
