-- What a zone's clocks show at an instant.
use Rattle.std.specs.Prelude.{◌≡◌, ◌⊎◌, ◌+ℤ◌, ◌-ℤ◌, ◌≤ℤ◌, ◌<ℤ◌, ℤ, pos, neg_ℤ}
use Rattle.jiff.specs.Types.{Date, DateTime}
use Rattle.jiff.specs.Words.{IsTimestampNanos, IsYmd, civil_nanos, epoch_day, nanos_of_seconds, offset_at, plain_zone}
use Rattle.jiff_tz.specs.Tzif.{offset_at as table_offset}
use Rattle.gtfs_rows.specs.declared.values.Day.{Day}
use Rattle.service_days.specs.declared.zone.Zone.{Zone}
use Rattle.service_days.specs.declared.zone.Zone.TheVariants.{Rule, Table}

-- how many seconds the zone's clocks are ahead of UTC at an instant, given in nanoseconds after 1970-01-01T00:00:00Z
abbrev pub offset_in : Zone → ℤ → ℤ
offset_in (Rule zone) n = offset_at (plain_zone zone) n
offset_in (Table table) n = (table_offset table n).seconds

-- the zone's clocks show this at an instant, given in seconds after 1970-01-01T00:00:00Z
abbrev pub IsShownAt : Zone → ℤ → DateTime → Type 0
IsShownAt zone instant shown =
    civil_nanos shown ≡ nanos_of_seconds instant +ℤ nanos_of_seconds (offset_in zone (nanos_of_seconds instant))

-- the instant is outside the calendar
abbrev pub IsOutside : ℤ → Type 0
IsOutside instant = ¬ (IsTimestampNanos (nanos_of_seconds instant))

-- the date is that of the day
abbrev pub IsDayOf : Day → Date → Type 0
IsDayOf day date = IsYmd (pos day.year) (pos day.month) (pos day.day) date

-- the day is the one that the clocks show
abbrev pub IsDayAt : Zone → ℤ → Day → Type 0
IsDayAt zone instant day = (shown : DateTime) × IsShownAt zone instant shown × IsDayOf day shown.date

-- the day is the one before that which the clocks show
abbrev pub IsDayBefore : Zone → ℤ → Day → Type 0
IsDayBefore zone instant day =
    (shown : DateTime) × IsShownAt zone instant shown × (date : Date) × (epoch_day date ≡ epoch_day shown.date -ℤ pos 1) × IsDayOf day date

-- the instant is outside the calendar, or the clocks show a date before the year 1
abbrev pub HasNoDay : Zone → ℤ → Type 0
HasNoDay zone instant = IsOutside instant ⊎ ((shown : DateTime) × IsShownAt zone instant shown × (shown.date.year ≤ℤ pos 0))

-- the instant is outside the calendar, or the clocks show its first day, or the day before is before the year 1
abbrev pub HasNoDayBefore : Zone → ℤ → Type 0
HasNoDayBefore zone instant =
    IsOutside instant
    ⊎ ((shown : DateTime) × IsShownAt zone instant shown × (¬ (neg_ℤ (pos 4_371_587) <ℤ epoch_day shown.date)
    ⊎ ((date : Date) × (epoch_day date ≡ epoch_day shown.date -ℤ pos 1) × (date.year ≤ℤ pos 0))))
