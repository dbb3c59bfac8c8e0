-- What two feeds of the same tables have in common.
use Rattle.std.specs.Prelude.{◌≡◌}
use Rattle.gtfs_tables.specs.declared.tables.Feed.{Feed}

-- all that a feed holds is the same
pub record IsSameFeed (f g : Feed) : Type 0 where
  pub stops : f.stops.items ≡ g.stops.items
  pub trips : f.trips.items ≡ g.trips.items
  pub stop_times : f.stop_times.items ≡ g.stop_times.items
  pub frequencies : f.frequencies.items ≡ g.frequencies.items
  pub transfers : f.transfers.items ≡ g.transfers.items
  pub skipped : f.skipped ≡ g.skipped
  pub calendar : f.calendar ≡ g.calendar
  pub calendar_dates : f.calendar_dates ≡ g.calendar_dates
