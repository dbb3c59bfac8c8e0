use Rattle.std.proofs.Common.{ap, ◌∙◌}
use Rattle.shelf_steps.specs.Plays.{SeatAndSlots, keeps_loading}
use Rattle.shelves.specs.ShelfSeats.{new_seat}
use Rattle.shelves.proofs.HandedSeats.{one_more_seat}
use Rattle.shelves.proofs.shelves.open.Goals as goal

pub loop-number-preserved : goal.loop-number-preserved
loop-number-preserved c =
    let before = c.loop-number.invariant in let made = c.new_worker-worker.ensures in
    let same = made.2 ∙ before.table in
    record {
      table = made.0 ∙ before.table;
      me = made.1 ∙ ap (λ (m : SeatAndSlots). (keeps_loading m.0, m.1)) before.me;
      seats = one_more_seat c.table.inside.table.shared.table_id c.loop-number.number c.loop-number.seats.items c.push.new.self.items c.idle.result before.seats
          c.in_ok-push.ensures.items (c.idle.ensures ∙ ap (λ t. new_seat t c.loop-number.number) same);
    }
