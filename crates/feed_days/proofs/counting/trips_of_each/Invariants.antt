use Rattle.std.proofs.Common.{◌≡◌, ◌==◌, ◌<◌, ℕ, get_or, length, take}
use Rattle.std.specs.List.{count_by}
use Rattle.feed_days.proofs.counting.trips_of_each.Given as goal

abbrev pub invariant-loop-service : goal.invariant-loop-service
invariant-loop-service l = record {
  len : length l.trips.items ≡ l.services;
  each : (k : ℕ) → k < l.services → get_or l.trips.items k 0 ≡ count_by (λ service. service == k) (take l.service-index l.ridden);
}
