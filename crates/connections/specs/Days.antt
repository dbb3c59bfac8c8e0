-- The days of a plan, and their starts.
use Rattle.std.specs.Prelude.{◌≡◌, ℕ, zero, suc, ℤ, List, [], ◌∷◌, ◌++◌, map, All}
use Rattle.gtfs_rows.specs.declared.values.Day.{Day}
use Rattle.service_days.specs.Days.{day_after}
use Rattle.service_days.specs.Zones.{HasNoStart, IsDayStart}
use Rattle.service_days.specs.declared.zone.Zone.{Zone}
use Rattle.connections.specs.declared.days.ServiceDay.{ServiceDay}

-- n consecutive days
unfoldable pub days_from : Day → ℕ → List Day
days_from day zero = []
days_from day (suc n) = day ∷ days_from (day_after day) n

-- each of the days has a start
abbrev pub HaveStarts : Zone → List Day → Type 0
HaveStarts zone days = All (λ day. (start : ℤ) × IsDayStart zone day start) days

-- the first of the days that has no start
pub record IsFirstUnstarted (zone : Zone) (days : List Day) (day : Day) : Type 0 where
  pub earlier : List Day
  pub later : List Day
  pub days_are : days ≡ earlier ++ day ∷ later
  pub started : HaveStarts zone earlier
  pub missing : HasNoStart zone day

-- the days with their starts
pub record AreStarted (zone : Zone) (days : List Day) (started : List ServiceDay) : Type 0 where
  pub days_are : map (λ d. d.day) started ≡ days
  pub starts : All (λ d. IsDayStart zone d.day d.start) started
