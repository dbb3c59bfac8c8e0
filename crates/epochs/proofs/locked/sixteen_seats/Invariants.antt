use Rattle.std.proofs.Common.{◌≡◌, ◌≤◌}
use Rattle.epochs.specs.WorkerSeats.{idle_seats}
use Rattle.epochs.proofs.locked.sixteen_seats.Given as goal

abbrev pub invariant-loop-number : goal.invariant-loop-number
invariant-loop-number l = (l.seats.items ≡ idle_seats l.number) × (l.number ≤ 16)
