use Rattle.std.proofs.Common.{◌∙◌, ◌+◌, ◌<◌, ap, arith, length, sym, ℕ}
use Rattle.gtfs_rows.specs.declared.fault.Table.TheVariants as tables
use Rattle.gtfs_tables.specs.Order.{sort_keys_by}
use Rattle.gtfs_tables.proofs.SortKeyLemmas.{number_in}
use Rattle.gtfs_tables.proofs.joining.fault_at_row.Goals as goal

pub returns-then-at-end : goal.returns-then-at-end
returns-then-at-end c rows within =
    let below : c.args.first + c.args.at < length rows = omega (arith, within, c.if-at-end.true) in
    ap (λ (number : ℕ). record { file = tables.StopTimes; row = number; kind = c.args.kind })
    (c.number_at-row.ensures rows below
    ∙ sym (number_in (sort_keys_by c.args.order.now rows) c.args.first c.args.end c.args.at c.requires c.if-at-end.true))
