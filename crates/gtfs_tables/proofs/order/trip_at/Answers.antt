use Rattle.std.proofs.Common.{◌∙◌, ap, sym, get_or}
use Rattle.gtfs_tables.specs.Order.{no_row, sort_keys_by}
use Rattle.gtfs_tables.specs.declared.order.RowOrder.{RowOrder}
use Rattle.gtfs_tables.proofs.SortKeyLemmas.{filed-trip}
use Rattle.gtfs_tables.proofs.order.trip_at.Goals as goal

pub returns-in-Filed : goal.returns-in-Filed
returns-in-Filed c d =
    sym (filed-trip 1 c.args.rows.now c.args.at d no_row c.requires.within)
    ∙ ap (λ (order : RowOrder). (get_or (sort_keys_by order c.args.rows.now) c.args.at d).trip) (sym c.in-Filed.is)
