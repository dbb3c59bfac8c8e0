use Rattle.std.proofs.Common.{rules, ◌≡◌}
use Rattle.std.specs.Arc.{arc_value}
use Rattle.shelves.proofs.Pinning.{pin_tells, moves_tell, pinned_is}
use Rattle.shelves.proofs.shelf_seats.ShelfSeat.pin_at.Goals as goal

pub returns-in-Ok : goal.returns-in-Ok
returns-in-Ok c =
    let s = c.self.inside in let e = c.in-Ok.edition in
    let tells = pin_tells s.table_seat.me.0 c.pin.new.worker.me s.number c.in-Ok.shelf e c.in-Ok.ensures.pins.1 c.in-Ok.ensures.pins.2 in
    let shows : c.of-image.result.value ≡ arc_value e.image = search rules in
    rw (← c.self.view_is) (record {
      still = record { fits = search rules; number = search rules; grows = tells.grows };
      pin = (
        search rules,
        (
          e.version,
          c.of-image.result,
          tells.low,
          pinned_is s.answers c.note-in-Ok.new.self c.of-image.result (arc_value e.image) e.version _ c.note-in-Ok.ensures shows tells.seen,
        ),
      );
      steps = search rules;
      known = tells.holds;
      ends = tells.ends;
    })

pub returns-in-Err : goal.returns-in-Err
returns-in-Err c =
    let h = c.in-Err.ensures.moves in
    let tells = moves_tell c.self.inside.table_seat.me.0 c.pin.new.worker.me c.self.inside.number c.in-Err.newest h.0 h.1 in
    rw (← c.self.view_is) (record {
      still = record { fits = search rules; number = search rules; grows = tells.0 };
      pin = search rules;
      steps = (search rules, h.0, search rules);
      known = search rules;
      ends = tells.1;
    })
