use Rattle.std.proofs.Common.{◌≡◌, []}
use Rattle.std.specs.Arc.{arc_value}
use Rattle.shelf_steps.specs.declared.views.View.{View}
use Rattle.shelf_steps.specs.Handed.{handed}
use Rattle.shelves.specs.ShelfSeats.{SeatsHanded}
use Rattle.shelves.proofs.shelves.open.Given as goal

abbrev pub invariant-loop-number : goal.invariant-loop-number
invariant-loop-number l = record {
  table : l.table_seat.table ≡ l.table-inside.table.shared.table_id;
  me : l.table_seat.me ≡ (View.Loading (handed l.number (arc_value l.fn.first)), []);
  seats : SeatsHanded l.table-inside.table.shared.table_id l.number l.seats.items;
}
