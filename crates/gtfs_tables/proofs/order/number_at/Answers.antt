use Rattle.std.proofs.Common.{◌≡◌, ◌+◌, ◌∙◌, ap, sym, arith, get_or, map}
use Rattle.gtfs_tables.specs.Order.{sort_keys_by}
use Rattle.gtfs_tables.specs.declared.order.RowOrder.{RowOrder}
use Rattle.gtfs_tables.proofs.SortKeyLemmas.{filed-number}
use Rattle.gtfs_tables.proofs.order.number_at.Goals as goal

pub returns-in-Filed : goal.returns-in-Filed
returns-in-Filed c rows lt =
    let next : c.args.at + 1 ≡ 1 + c.args.at = omega arith in
    next ∙ sym (filed-number 1 rows c.args.at lt)
    ∙ ap (λ (order : RowOrder). get_or (map (λ sort_key. sort_key.number) (sort_keys_by order rows)) c.args.at 0) (sym c.in-Filed.is)
