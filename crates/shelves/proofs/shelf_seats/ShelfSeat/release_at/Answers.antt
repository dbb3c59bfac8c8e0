use Rattle.std.proofs.Common.{rules}
use Rattle.shelves.proofs.Pinning.{releases_tell}
use Rattle.shelves.proofs.shelf_seats.ShelfSeat.release_at.Goals as goal

pub returns-in-Some : goal.returns-in-Some
returns-in-Some c =
    let h = c.release.ensures.releases in
    let tells = releases_tell c.self.inside.table_seat.me.0 c.release.new.worker.me c.self.inside.number h.0 h.1 in
    rw (← c.self.view_is) (record {
      still = record { fits = search rules; number = search rules; grows = tells.0 };
      release = search rules;
      steps = search rules;
      ends = tells.1;
    })
