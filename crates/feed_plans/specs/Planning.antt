-- The plan that a command line asks for.
use Rattle.std.specs.Prelude.{◌≡◌, ◌⊎◌, ℕ, ℤ, List, Option, None, Some, IsSome, true, false}
use Rattle.std.specs.Result.{is_ok}
use Rattle.feed_plans.specs.Shown.{HasNoDay, HasNoDayBefore, IsDayAt, IsDayBefore}
use Rattle.command_requests.specs.declared.plans.FirstDay.{FirstDay}
use Rattle.command_requests.specs.declared.plans.FirstDay.TheVariants.{On, Today, Yesterday}
use Rattle.command_requests.specs.declared.plans.PlanText.{PlanText}
use Rattle.command_requests.specs.declared.plans.ZoneText.{ZoneText}
use Rattle.command_requests.specs.declared.plans.ZoneText.TheVariants.{Fixed, Posix, File}
use Rattle.feed_loader.specs.declared.plan.Plan.{Plan}
use Rattle.gtfs_rows.specs.Values.{is_civil}
use Rattle.gtfs_rows.specs.declared.values.Day.{Day}
use Rattle.jiff.specs.Words.{read_whole}
use Rattle.jiff_tz.specs.TzifReader.{read_tzif}
use Rattle.service_days.specs.declared.fault.DayFault.{DayFault}
use Rattle.service_days.specs.declared.fault.DayFault.TheVariants.{BadZone, OutOfMemory}
use Rattle.service_days.specs.declared.zone.Zone.{Zone}
use Rattle.service_days.specs.Zones.{IsBadFile, IsFixedZone, IsRuleOf, IsTableOf}

-- the text names this zone; that of a file is the table of these bytes, and no clause says which bytes a file has
abbrev pub IsZoneOf : ZoneText → List ℕ → Zone → Type 0
IsZoneOf (Fixed ahead) bytes zone = IsFixedZone ahead.seconds zone
IsZoneOf (Posix rule) bytes zone = IsRuleOf rule.now zone
IsZoneOf (File path) bytes zone = IsTableOf bytes zone

-- why the text gives no zone: the rule can't be read, the file isn't the table of a zone, or memory ran out while a table
-- was read; a fixed offset always gives a zone
abbrev pub IsZoneFault : ZoneText → List ℕ → DayFault → Type 0
IsZoneFault (Fixed ahead) bytes fault = ⊥
IsZoneFault (Posix rule) bytes fault = (fault ≡ BadZone) × (¬ (IsSome (read_whole rule.now)))
IsZoneFault (File path) bytes fault =
    ((fault ≡ BadZone) × IsBadFile bytes) ⊎ ((fault ≡ OutOfMemory) × (is_ok (read_tzif bytes) ≡ true))

-- the day that the zone's clocks show at an instant; if there is none, a day that the calendar doesn't have, for which no feed is loaded
abbrev pub IsToday : Zone → ℤ → Day → Type 0
IsToday zone instant day = IsDayAt zone instant day ⊎ (HasNoDay zone instant × (is_civil day ≡ false))

-- the day before the one that the clocks show; if there is none, a day that the calendar doesn't have
abbrev pub IsYesterday : Zone → ℤ → Day → Type 0
IsYesterday zone instant day = IsDayBefore zone instant day ⊎ (HasNoDayBefore zone instant × (is_civil day ≡ false))

-- the first day of a plan that is made at an instant; if it depends on the clock and no instant is given, a day that the calendar doesn't have
abbrev pub IsFirstDay : FirstDay → Zone → Option ℤ → Day → Type 0
IsFirstDay (On given) zone instant day = day ≡ given
IsFirstDay Today zone (Some instant) day = IsToday zone instant day
IsFirstDay Today zone None day = is_civil day ≡ false
IsFirstDay Yesterday zone (Some instant) day = IsYesterday zone instant day
IsFirstDay Yesterday zone None day = is_civil day ≡ false

-- the plan that is asked for, made at an instant
pub record IsPlan (asked : PlanText) (bytes : List ℕ) (instant : Option ℤ) (plan : Plan) : Type 0 where
  pub first : IsFirstDay asked.first plan.zone instant plan.first_day
  pub days : plan.days ≡ asked.days
  pub zone : IsZoneOf asked.zone bytes plan.zone
  pub strict : plan.strict ≡ asked.strict

-- the plan that is asked for, made at what the clock may show when it is read
abbrev pub IsPlanBy : (Option ℤ → Type 0) → PlanText → List ℕ → Plan → Type 0
IsPlanBy may_show asked bytes plan = ∥ ((instant : Option ℤ) × may_show instant × IsPlan asked bytes instant plan) ∥₁
