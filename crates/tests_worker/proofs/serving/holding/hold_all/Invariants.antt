use Rattle.std.proofs.Common.{◌≡◌, All}
use Rattle.tests_worker.proofs.serving.holding.hold_all.Given as goal

-- the loader's seat, and the seats that are left, are of these shelves
abbrev pub invariant-loop-seat : goal.invariant-loop-seat
invariant-loop-seat l =
    goal.iterator-loop-seat.can_next l.seat-iterator × goal.iterator-loop-seat.is_finite l.seat-iterator
    × (l.loader.table ≡ l.shelves) × All (λ seat. seat.table ≡ l.shelves) l.seat-iterator.rest.items
