use Rattle.connections.specs.Hops.{AddsHops, zero_of}
use Rattle.connections.proofs.hops.add_hops.Given as goal

abbrev pub invariant-loop-position : goal.invariant-loop-position
invariant-loop-position l = AddsHops l.clock.day.base (zero_of l.clock) l.rows l.run l.position l.fn.connections.items l.connections.items
