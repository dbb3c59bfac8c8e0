use Rattle.std.proofs.Common.{◌≡◌, ℕ, ◌<◌, ◌≤◌, ◌-◌, length}
use Rattle.timetable.specs.Journeys.{connection_at}
use Rattle.image_verifier.proofs.SearchLemmas.{IsHalving}
use Rattle.image_verifier.proofs.search.first_departure.Given as goal

abbrev pub invariant-halve : goal.invariant-halve
invariant-halve l =
    let t = l.initial.departures.image.now.timetable in
    record {
      same : l.departures.image.now ≡ l.initial.departures.image.now;
      apart : l.low ≤ l.high;
      within : l.high ≤ length t.connections;
      before : (k : ℕ) → k < l.low → (connection_at t k).dep < l.time;
      after : (k : ℕ) → l.high ≤ k → k < length t.connections → l.time ≤ (connection_at t k).dep;
      halving : IsHalving (length t.connections) l.low l.high l.initial.departures.reads l.departures.reads;
    }

abbrev pub decreases-halve : goal.decreases-halve
decreases-halve l = l.high - l.low
