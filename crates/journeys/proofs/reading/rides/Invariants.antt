use Rattle.std.proofs.Common.{◌≡◌, ◌-◌}
use Rattle.journeys.specs.Reading.{rides_at}
use Rattle.journeys.proofs.ReadLemmas.{with_rides}
use Rattle.journeys.proofs.reading.rides.Given as goal

abbrev pub invariant-loop : goal.invariant-loop
invariant-loop l = with_rides l.rides.items (rides_at (l.count - l.counter) l.rest) ≡ rides_at l.count l.bytes
