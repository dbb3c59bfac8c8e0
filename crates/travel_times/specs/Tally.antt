-- What is known of the waits for the departures from one on.
use Rattle.std.specs.Prelude.{◌≡◌, ◌+◌, ◌-◌, ◌*◌, ◌<◌, ◌≤◌, ℕ, List, Some, map, min}
use Rattle.std.specs.List.{AllByRecursion}
use Rattle.travel_times.specs.Figures.{least_of, waits}
use Rattle.travel_times.specs.declared.spans.Span.{Span}
use Rattle.travel_times.specs.declared.tally.Tally.{Tally}

-- each of some departures is at or after a second
abbrev pub AreFrom : ℕ → List Span → Type 0
AreFrom second spans = AllByRecursion (λ span. second ≤ span.departure) spans

-- the sum is no greater than if the latest of all arrivals were waited for, so that it fits into 64 bits
abbrev pub IsSmall : Tally → Type 0
IsSmall tally = tally.sum + tally.next * 4294967295 ≤ 18446744069414584320

-- what a tally says of departures and of the seconds of a window: those from `next` on are counted, and the others are at or before each of the departures; no
-- departure before all of these lets one count a second more
pub record IsTally (after until : ℕ) (spans : List Span) (tally : Tally) : Type 0 where
  pub from : after ≤ tally.next
  pub within : tally.next ≤ until + 1
  pub before : (second : ℕ) → after ≤ second → second < tally.next → AreFrom second spans
  pub latest : (departure : ℕ) → AreFrom departure spans → min departure until < tally.next
  pub earliest : least_of (map (λ span. span.arrival) spans) ≡ Some tally.earliest
  pub sum : waits spans tally.next (until + 1 - tally.next) ≡ Some tally.sum
