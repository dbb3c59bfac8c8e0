-- The days on which a feed's rows give service, and how many of its trips run on a day.
use Rattle.std.specs.Prelude.{◌≡◌, ◌&&◌, ◌||◌, get_or, ℕ, List, Bool, true, false, pos, Option, MatchOption}
use Rattle.std.specs.List.{count_by, list_any}
use Rattle.jiff_core.specs.Calendar.{day_count}
use Rattle.gtfs_rows.specs.Values.{is_civil}
use Rattle.gtfs_rows.specs.declared.values.Day.{Day}
use Rattle.gtfs_rows.specs.declared.rows.CalendarRow.{CalendarRow}
use Rattle.gtfs_rows.specs.declared.rows.CalendarDateRow.{CalendarDateRow}
use Rattle.gtfs_tables.specs.declared.tables.Feed.{Feed}
use Rattle.service_days.specs.Services.{is_added, is_not_after, is_same_day, weekday_on}
use Rattle.connections.specs.Runs.{runs_on}
use Rattle.feed_days.specs.declared.span.DaySpan.{DaySpan}

-- the row of calendar.txt gives service on the day: a civil day on one of its weekdays, from its start to its end
abbrev pub gives_weekly : CalendarRow → Day → Bool
gives_weekly row day =
    is_civil day && (get_or row.weekdays (weekday_on day) false && is_not_after row.start day && is_not_after day row.end)

-- the row of calendar_dates.txt gives service on the day: a civil day that it adds
abbrev pub gives_once : CalendarDateRow → Day → Bool
gives_once row day = is_civil day && (is_same_day row.day day && is_added row.exception)

-- one of the rows gives service on the day
abbrev pub give_weekly : List CalendarRow → Day → Bool
give_weekly rows day = list_any (λ row. gives_weekly row day) rows

abbrev pub give_once : List CalendarDateRow → Day → Bool
give_once rows day = list_any (λ row. gives_once row day) rows

abbrev pub has_service : Feed → Day → Bool
has_service feed day = give_weekly feed.calendar.items day || give_once feed.calendar_dates.items day

-- the test holds for no day
abbrev pub HoldsOfNone : (Day → Bool) → Type 0
HoldsOfNone test = (day : Day) → test day ≡ false

-- the test holds for the day, and for none before it
pub record IsFirst (test : Day → Bool) (first : Day) : Type 0 where
  pub holds : test first ≡ true
  pub least : (day : Day) → test day ≡ true → is_not_after first day ≡ true

-- the test holds for the day, and for none after it
pub record IsLast (test : Day → Bool) (last : Day) : Type 0 where
  pub holds : test last ≡ true
  pub most : (day : Day) → test day ≡ true → is_not_after day last ≡ true

-- the first and the last day for which the test holds
pub record IsSpan (test : Day → Bool) (span : DaySpan) : Type 0 where
  pub first : IsFirst test span.first
  pub last : IsLast test span.last

-- the first and the last day for which the test holds, or none if it holds for no day
abbrev pub SpansDays : (Day → Bool) → Option DaySpan → Type 0
SpansDays test found = MatchOption found (HoldsOfNone test) (IsSpan test)

-- how many trips run on a day; a trip that frequencies.txt repeats counts once
abbrev pub trips_on : Feed → Day → ℕ
trips_on feed day = count_by (runs_on feed day) feed.trips.items

-- the number of a day in the calendar; the day after has the next number
abbrev pub day_ordinal : Day → ℕ
day_ordinal d = day_count (pos d.year) d.month d.day
