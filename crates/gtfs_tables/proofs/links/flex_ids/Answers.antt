use Rattle.std.proofs.Common.{◌≡◌, ◌∙◌, false, slice_index_or, sym, arith}
use Rattle.std.proofs.lemmas.Grind.{common_steps}
use Rattle.gtfs_tables.proofs.RowLemmas.{no_flex}
use Rattle.gtfs_tables.proofs.links.flex_ids.Goals as goal

pub returns-then-not-may_lack_stops : goal.returns-then-not-may_lack_stops
returns-then-not-may_lack_stops c id lt =
    let unmarked : slice_index_or c.in_ok-flex.flex.items id false ≡ false = grind (arith, common_steps) in
    unmarked ∙ sym (no_flex c.args.rows.now id (c.requires c.if-not-may_lack_stops.true))
