-- The days on which a service runs.
use Rattle.std.specs.Prelude.{◌≡◌, ◌==◌, ◌+◌, ◌*◌, ◌&&◌, ◌||◌, not, if◌then◌else◌, ℕ, List, [], pos, map, filter, get_or, nat_le, nat_lt, Bool, true, false}
use Rattle.std.specs.Prelude.{Option, None, Some}
use Rattle.std.specs.List.{list_any}
use Rattle.std.specs.Option.{option_map_or}
use Rattle.std.specs.Str.{bytes_eq}
use Rattle.std.specs.String.{string_bytes}
use Rattle.std.specs.HashMap.{get_by_text}
use Rattle.jiff_core.specs.Calendar.{days_from_civil, weekday_number}
use Rattle.gtfs_rows.specs.Values.{is_civil}
use Rattle.gtfs_rows.specs.declared.values.Day.{Day}
use Rattle.gtfs_rows.specs.declared.rows.CalendarRow.{CalendarRow}
use Rattle.gtfs_rows.specs.declared.rows.CalendarDateRow.{CalendarDateRow}
use Rattle.gtfs_rows.specs.declared.rows.Exception.{Exception}
use Rattle.gtfs_rows.specs.declared.rows.Exception.TheVariants.{Added, Removed}
use Rattle.service_days.specs.declared.day.DatedDay.{DatedDay}
use Rattle.service_days.specs.declared.services.Service.{Service}
use Rattle.service_days.specs.declared.services.Services.{Services}
use Rattle.service_days.specs.declared.services.Week.{Week}
use Rattle.service_days.specs.declared.services.DayException.{DayException}

-- the weekday of a day, from 0 for Monday
abbrev pub weekday_on : Day → ℕ
weekday_on d = weekday_number (days_from_civil (pos d.year) d.month d.day)

-- the weekday of a civil day
abbrev pub civil_weekday : Day → Option ℕ
civil_weekday d = if is_civil d then Some (weekday_on d) else None

-- a date as one number; civil dates are in the order of their numbers, by the law dates_are_numbered
abbrev pub date_number : Day → ℕ
date_number d = (d.year * 256 + d.month) * 256 + d.day

-- a day with its weekday and its number
abbrev pub dated : Day → DatedDay
dated d = record { day = d; weekday = civil_weekday d; number = date_number d }

-- the first day is no later than the second
abbrev pub is_not_after : Day → Day → Bool
is_not_after a b =
    if a.year == b.year then (if a.month == b.month then nat_le a.day b.day else nat_lt a.month b.month) else nat_lt a.year b.year

abbrev pub is_same_day : Day → Day → Bool
is_same_day a b = (a.year == b.year) && (a.month == b.month) && (a.day == b.day)

-- the week of a row of calendar.txt, and the exception of a row of calendar_dates.txt
abbrev pub week_of : CalendarRow → Week
week_of row = record { weekdays = row.weekdays; first = date_number row.start; last = date_number row.end }

abbrev pub exception_of : CalendarDateRow → DayException
exception_of row = record { number = date_number row.day; exception = row.exception }

-- the weekday's flag is set, and the date of a number is in the range
abbrev pub runs_in : ℕ → ℕ → Week → Bool
runs_in weekday number week = get_or week.weekdays weekday false && nat_le week.first number && nat_le number week.last

abbrev pub is_added : Exception → Bool
is_added Added = true
is_added Removed = false

abbrev pub adds : ℕ → DayException → Bool
adds number e = (e.number == number) && is_added e.exception

abbrev pub removes : ℕ → DayException → Bool
removes number e = (e.number == number) && not (is_added e.exception)

-- the day isn't removed, and either it is added or a week has it
abbrev pub is_running : List Week → List DayException → Day → Bool
is_running weeks exceptions day =
    (list_any (runs_in (weekday_on day) (date_number day)) weeks || list_any (adds (date_number day)) exceptions)
    && not (list_any (removes (date_number day)) exceptions)

-- the weeks and the exceptions of a service in the tables
abbrev pub weeks_in : List CalendarRow → List ℕ → List Week
weeks_in rows service = map week_of (filter (λ row. bytes_eq service (string_bytes row.service)) rows)

abbrev pub exceptions_in : List CalendarDateRow → List ℕ → List DayException
exceptions_in rows service = map exception_of (filter (λ row. bytes_eq service (string_bytes row.service)) rows)

-- the day is a civil date, and the service runs on it
abbrev pub is_active : List CalendarRow → List CalendarDateRow → List ℕ → Day → Bool
is_active calendar dates service day = is_civil day && is_running (weeks_in calendar service) (exceptions_in dates service) day

-- the day is a civil date, and by what the calendars say of a service it runs on it
abbrev pub service_runs : Service → Day → Bool
service_runs service day = is_civil day && is_running service.weeks.now service.exceptions.now day

-- the weeks and the exceptions that are held for a service
abbrev pub weeks_of : Services → List ℕ → List Week
weeks_of services service = option_map_or (λ held. held.items) (get_by_text services.weeks service) []

abbrev pub exceptions_of : Services → List ℕ → List DayException
exceptions_of services service = option_map_or (λ held. held.items) (get_by_text services.exceptions service) []

-- the services are those of the two tables
pub record HoldsServices (calendar : List CalendarRow) (dates : List CalendarDateRow) (services : Services) : Type 0 where
  pub weeks : (service : List ℕ) → weeks_of services service ≡ weeks_in calendar service
  pub exceptions : (service : List ℕ) → exceptions_of services service ≡ exceptions_in dates service
