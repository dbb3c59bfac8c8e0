use Rattle.std.proofs.Common.{◌≡◌, ℕ, ◌<◌, get_or}
use Rattle.connections.specs.declared.days.ServiceDay.{ServiceDay}
use Rattle.connections.proofs.listing.start_of.Given as goal

abbrev pub invariant-loop-service_day : goal.invariant-loop-service_day
invariant-loop-service_day l = (k : ℕ) (d : ServiceDay) → k < l.service_day-index → (get_or l.days k d).day ≡ l.day → ⊥
