-- How many trips of some services run on a day.
use Rattle.std.specs.Prelude.{◌≡◌, ℕ, List, Bool, false, get_or, map}
use Rattle.std.specs.List.{All}
use Rattle.service_days.specs.Services.{dated, service_runs}
use Rattle.service_days.specs.declared.day.DatedDay.{DatedDay}
use Rattle.service_days.specs.declared.services.Service.{Service}

-- each day has its own weekday
abbrev pub AreDated : List DatedDay → Type 0
AreDated days = All (λ day. day ≡ dated day.day) days

-- whether each of some services runs on a day
abbrev pub running : List Service → DatedDay → List Bool
running services day = map (λ service. service_runs service day.day) services

-- whether the service with an index runs on a day; none does that isn't there
abbrev pub rides_on : List Service → DatedDay → ℕ → Bool
rides_on services day index = get_or (running services day) index false
