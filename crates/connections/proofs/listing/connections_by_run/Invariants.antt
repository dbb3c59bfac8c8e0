use Rattle.std.proofs.Common.{◌≡◌, ℤ, get_or, All}
use Rattle.service_days.specs.Zones.{IsDayStart}
use Rattle.service_days.specs.declared.zone.Zone.{Zone}
use Rattle.connections.specs.Building.{AreByRun}
use Rattle.connections.specs.declared.days.ServiceDay.{ServiceDay}
use Rattle.connections.proofs.listing.connections_by_run.Given as goal

abbrev pub invariant-loop-number : goal.invariant-loop-number
invariant-loop-number l = (zone : Zone) (base : ℤ) (d : ServiceDay) → base ≡ (get_or l.days 0 d).start → All (λ d. IsDayStart zone d.day d.start) l.days
    → AreByRun l.feed zone base l.runs l.number l.connections.items
