use Rattle.std.proofs.Common.{ℕ, ◌<◌, get_or}
use Rattle.connections.specs.Hops.{IsInside, zero_of}
use Rattle.connections.specs.declared.times.RowTimes.{RowTimes}
use Rattle.connections.proofs.hops.are_inside.Given as goal

abbrev pub invariant-loop-position : goal.invariant-loop-position
invariant-loop-position l = (k : ℕ) (d : RowTimes) → k < l.position → IsInside l.clock.day.base (zero_of l.clock) l.clock.start k (get_or l.times k d)
