-- Consecutive days.
use Rattle.std.specs.Prelude.{◌+◌, if◌then◌else◌}
use Rattle.gtfs_rows.specs.Values.{is_civil}
use Rattle.gtfs_rows.specs.declared.values.Day.{Day}

-- the next day of the month if it is a civil date, else the first of the next month if that is one, else the first of the next year
abbrev pub day_after : Day → Day
day_after d =
    if is_civil (record d { day = d.day + 1 }) then record d { day = d.day + 1 }
    else (if is_civil (record { year = d.year; month = d.month + 1; day = 1 }) then record { year = d.year; month = d.month + 1; day = 1 }
    else record { year = d.year + 1; month = 1; day = 1 })
