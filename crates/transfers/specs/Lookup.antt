-- How a feed's stops and transfers are looked up.
use Rattle.std.specs.Prelude.{ℕ, ◌≤◌, List, length, map, All, Option, Some, None}
use Rattle.gtfs_tables.specs.declared.tables.Feed.{Feed}
use Rattle.gtfs_tables.specs.declared.tables.Stop.{Stop}
use Rattle.gtfs_tables.specs.declared.tables.Transfer.{Transfer}
use Rattle.gtfs_tables.specs.declared.tables.TransferEnd.{TransferEnd}
use Rattle.gtfs_tables.specs.declared.tables.TransferEnd.TheVariants.{Stop as TheStop, Station as TheStation}
use Rattle.transfers.specs.declared.lookup.Lookup.{Lookup}
use Rattle.transfers.specs.declared.lookup.FeedLookup.{FeedLookup}
use Rattle.transfers.specs.Bans.{AreBans}
use Rattle.transfers.specs.Groups.{AreGroups}
use Rattle.transfers.specs.Counting.{KeepsWhatCounts}
use Rattle.transfers.specs.Listed.{NamesBelow}

-- the stop, or the station, that an end is
abbrev pub end_stop : TransferEnd → Option ℕ
end_stop (TheStop stop) = Some stop
end_stop (TheStation station) = None

abbrev pub end_station : TransferEnd → Option ℕ
end_station (TheStop stop) = None
end_station (TheStation station) = Some station

-- the lookup has the bans, the stops grouped by station, and the transfers grouped by the stop or the station that they lead to
pub record IsLookup (stops : List Stop) (rows : List Transfer) (l : Lookup) : Type 0 where
  pub bans : AreBans rows l.bans.items
  pub children : AreGroups (map (λ stop. stop.station) stops) l.children.keys.items l.children.numbers.items
  pub into_stops : AreGroups (map (λ row. end_stop row.to) rows) l.into_stops.keys.items l.into_stops.numbers.items
  pub into_stations : AreGroups (map (λ row. end_station row.to) rows) l.into_stations.keys.items l.into_stations.numbers.items

-- the stops of the feed, and the transfers that are left of it; the lookup is made from these
abbrev pub stops_in : FeedLookup → List Stop
stops_in known = known.feed.now.stops.items

abbrev pub transfers_in : FeedLookup → List Transfer
transfers_in known = known.lookup.now.transfers.items

abbrev pub IsKnown : FeedLookup → Type 0
IsKnown known = IsLookup (stops_in known) (transfers_in known) known.lookup.now

-- the transfers that are left say all that counts
abbrev pub HasWhatCounts : FeedLookup → Type 0
HasWhatCounts known = KeepsWhatCounts known.feed.now.transfers.items (transfers_in known)

-- the number is above those of all stops that the feed has or that its transfers name
pub record EndsBelow (feed : Feed) (end : ℕ) : Type 0 where
  pub stops : length feed.stops.items ≤ end
  pub named : All (λ row. NamesBelow end row.from × NamesBelow end row.to) feed.transfers.items
