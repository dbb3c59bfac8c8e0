-- The timetable, the names and the counts of a joined feed.
use Rattle.std.specs.Prelude.{◌≡◌, ◌↔◌, ◌+◌, ◌*◌, ℕ, List, [], length, map, Option, Some}
use Rattle.std.specs.List.{slice_get}
use Rattle.std.specs.Option.{option_map_or}
use Rattle.std.specs.String.{string_bytes}
use Rattle.timetable.specs.Legal.{HasFootpath, AreInOrder}
use Rattle.timetable.specs.NamesValue.{NamesValue, TripNameValue}
use Rattle.timetable.specs.TimetableValue.{TimetableValue}
use Rattle.timetable.specs.declared.network.Footpath.{Footpath}
use Rattle.gtfs_rows.specs.declared.values.Day.{Day}
use Rattle.gtfs_tables.specs.declared.tables.Feed.{Feed}
use Rattle.gtfs_tables.specs.declared.tables.Trip.{Trip}
use Rattle.service_days.specs.Zones.{IsDayStart}
use Rattle.transfers.specs.Listed.{listed_secs}
use Rattle.footpaths.specs.Closure.{IsClosure}
use Rattle.connections.specs.Outcome.{IsListing, IsReport}
use Rattle.connections.specs.declared.report.Report.{Report}
use Rattle.connections.specs.declared.runs.Run.{Run}
use Rattle.feed_loader.specs.declared.plan.Plan.{Plan}

-- a day as the number YYYYMMDD
abbrev pub day_number : Day → ℕ
day_number d = 10000 * d.year + 100 * d.month + d.day

-- the name of a run: the trip_id of its trip, its day, and its number among the runs of the trip on that day
abbrev pub name_on : Option Trip → Day → ℕ → TripNameValue
name_on trip day repeat = record { name = option_map_or (λ trip. string_bytes trip.id) trip []; day = day_number day; repeat = repeat }

abbrev pub run_name : List Trip → Run → TripNameValue
run_name trips run = name_on (slice_get trips run.trip) run.day run.repeat

-- these are the names; times count from the start of the first day, and the name of a stop is its stop_id
pub record AreNames (feed : Feed) (plan : Plan) (runs : List Run) (names : NamesValue) : Type 0 where
  pub base : IsDayStart plan.zone plan.first_day names.base
  pub stops : names.stops ≡ map (λ stop. string_bytes stop.id) feed.stops.items
  pub trips : names.trips ≡ map (run_name feed.trips.items) runs

-- these are the footpaths that the feed lists
pub record AreFeedPaths (feed : Feed) (listed : List Footpath) : Type 0 where
  pub times : (from to secs : ℕ) → HasFootpath listed from to secs ↔ (listed_secs feed from to ≡ Some secs)
  pub in_order : AreInOrder listed

-- this is the closure of the footpaths that the feed lists
abbrev pub IsFeedClosure : Feed → List Footpath → Type 0
IsFeedClosure feed closure = (listed : List Footpath) × AreFeedPaths feed listed × IsClosure listed closure

-- the timetable has the feed's stops, its runs as trips, their connections, and the closure of its footpaths
pub record IsFeedTimetable (feed : Feed) (plan : Plan) (runs : List Run) (t : TimetableValue) : Type 0 where
  pub stops : t.stops ≡ length feed.stops.items
  pub trips : t.trips ≡ length runs
  pub listing : IsListing feed plan.zone plan.first_day plan.days t.connections runs
  pub footpaths : IsFeedClosure feed t.footpaths

-- the report has the counts of the feed, its runs, its connections and the footpaths of the closure
pub record IsFeedReport (feed : Feed) (runs : List Run) (t : TimetableValue) (report : Report) : Type 0 where
  pub counts : IsReport feed (length runs) (length t.connections) (record report { footpaths = 0 })
  pub footpaths : report.footpaths ≡ length t.footpaths

-- these are the timetable and the names of a feed, and the counts
pub record IsMade (feed : Feed) (plan : Plan) (t : TimetableValue) (names : NamesValue) (report : Report) : Type 0 where
  pub runs : List Run
  pub timetable : IsFeedTimetable feed plan runs t
  pub named : AreNames feed plan runs names
  pub counted : IsFeedReport feed runs t report
