use Rattle.std.proofs.Common.{◌≡◌, length, map, take}
use Rattle.gtfs_tables.specs.declared.tables.Feed.{Feed}
use Rattle.service_days.specs.Named.{names_of}
use Rattle.service_days.specs.Services.{HoldsServices}
use Rattle.connections.specs.Active.{active_among}
use Rattle.connections.proofs.trip_services.active_on_days.Given as goal

abbrev pub invariant-loop-day : goal.invariant-loop-day
invariant-loop-day l = record {
  len : length l.active.items ≡ l.day-index;
  active : (feed : Feed) → HoldsServices feed.calendar.items feed.calendar_dates.items l.services
      → map (λ each. each.items) l.active.items ≡ map (active_among feed (names_of l.named)) (map (λ d. d.day) (take l.day-index l.days));
}
