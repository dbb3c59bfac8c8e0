-- Time zones, and the start of a day in one.
use Rattle.std.specs.Prelude.{◌≡◌, ◌⊎◌, ℤ, pos, ◌+ℤ◌, List, ℕ, Ok, true, false}
use Rattle.std.specs.Result.{is_ok}
use Rattle.gtfs_rows.specs.Values.{is_civil}
use Rattle.gtfs_rows.specs.declared.values.Day.{Day}
use Rattle.jiff.specs.Placed.{IsPosixZone}
use Rattle.jiff.specs.Types.{AmbiguousOffset, Date, DateTime}
use Rattle.jiff.specs.Words.{IsHms, IsTimestampNanos, IsYmd, ambiguous_at, compatible_offset, instant_of, nanos_of_seconds, plain_zone}
use Rattle.jiff_tz.specs.Tzif.{HasBadRule, RuleAgrees, ambiguous_at as table_offsets, tzif_view}
use Rattle.jiff_tz.specs.TzifReader.{read_tzif}
use Rattle.service_days.specs.declared.zone.Zone.{Zone}
use Rattle.service_days.specs.declared.zone.Zone.TheVariants.{Rule, Table}

-- the offsets that a zone's clocks may have when they show a datetime: one, or two at a change of the clocks
abbrev pub offsets_in : Zone → DateTime → AmbiguousOffset
offsets_in (Rule zone) at = ambiguous_at (plain_zone zone) at
offsets_in (Table table) at = table_offsets table at

-- the instant of a datetime in a zone, in nanoseconds, by the compatible choice
abbrev pub instant_in : Zone → DateTime → ℤ
instant_in zone at = instant_of at (compatible_offset (offsets_in zone at))

-- the zone always has this offset
abbrev pub IsFixedZone : ℤ → Zone → Type 0
IsFixedZone seconds zone = (at : DateTime) → (compatible_offset (offsets_in zone at)).seconds ≡ seconds

-- the zone is the rule that the text spells
abbrev pub IsRuleOf : List ℕ → Zone → Type 0
IsRuleOf text (Rule zone) = IsPosixZone text (plain_zone zone)
IsRuleOf text (Table table) = ⊥

-- the zone is the table that the bytes spell, and its last rule agrees with it
abbrev pub IsTableOf : List ℕ → Zone → Type 0
IsTableOf bytes (Rule zone) = ⊥
IsTableOf bytes (Table table) = (read_tzif bytes ≡ Ok (tzif_view table)) × RuleAgrees table

-- the bytes don't spell a table, or spell one whose last rule disagrees with it
abbrev pub IsBadFile : List ℕ → Type 0
IsBadFile bytes = (is_ok (read_tzif bytes) ≡ false) ⊎ HasBadRule (read_tzif bytes)

-- the date has the day's year, month and day
abbrev pub IsDate : Day → Date → Type 0
IsDate day date = IsYmd (pos day.year) (pos day.month) (pos day.day) date

-- the noon of a day
abbrev pub IsNoon : Day → DateTime → Type 0
IsNoon day noon = IsDate day noon.date × IsHms (pos 12) (pos 0) (pos 0) (pos 0) noon.time

-- the second at which a day starts: 43,200 seconds before its noon, which has an instant
abbrev pub IsDayStart : Zone → Day → ℤ → Type 0
IsDayStart zone day start =
    (is_civil day ≡ true) × (noon : DateTime) × IsNoon day noon × IsTimestampNanos (instant_in zone noon)
    × (nanos_of_seconds (start +ℤ pos 43_200) ≡ instant_in zone noon)

-- there is no such day, or its noon has no instant
abbrev pub HasNoStart : Zone → Day → Type 0
HasNoStart zone day = (is_civil day ≡ false) ⊎ ((noon : DateTime) × IsNoon day noon × ¬ (IsTimestampNanos (instant_in zone noon)))
