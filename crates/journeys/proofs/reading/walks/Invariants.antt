use Rattle.std.proofs.Common.{◌≡◌, ◌-◌}
use Rattle.journeys.specs.Reading.{walks_at}
use Rattle.journeys.proofs.ReadLemmas.{with_walks}
use Rattle.journeys.proofs.reading.walks.Given as goal

abbrev pub invariant-loop : goal.invariant-loop
invariant-loop l = with_walks l.walk.items (walks_at (l.count - l.counter) l.rest) ≡ walks_at l.count l.bytes
