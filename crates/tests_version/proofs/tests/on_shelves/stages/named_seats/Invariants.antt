use Rattle.std.proofs.Common.{◌≡◌, All}
use Rattle.tests_version.proofs.tests.on_shelves.stages.named_seats.Given as goal

-- the seats that are left are of these shelves
abbrev pub invariant-loop-seat : goal.invariant-loop-seat
invariant-loop-seat g l =
    (goal.iterator-loop-seat g).can_next l.seat-iterator × (goal.iterator-loop-seat g).is_finite l.seat-iterator
    × All (λ seat. seat.table ≡ g.B.ShelvesName.table) l.seat-iterator.rest.items
