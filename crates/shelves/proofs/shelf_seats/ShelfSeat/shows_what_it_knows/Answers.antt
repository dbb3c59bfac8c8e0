use Rattle.std.proofs.Common.{subst}
use Rattle.shelves.specs.ShelfSeats.{ShelfSeatValue, ShowsWhatItKnows}
use Rattle.shelves.proofs.PinnedLemmas.{shows}
use Rattle.shelves.proofs.shelf_seats.ShelfSeat.shows_what_it_knows.Goals as goal

pub returns : goal.returns
returns c =
    let s = c.self.inside in
    subst (λ (a : ShelfSeatValue). ShowsWhatItKnows a) c.self.view_is (shows s.table_seat.table s.number s.held s.table_seat.me s.answers c.self.invariant.1)
