use Rattle.std.proofs.Common.{◌∙◌, ap, arith, ◌++◌, ◌∷◌, []}
use Rattle.gtfs_tables.specs.Order.{no_row}
use Rattle.gtfs_tables.proofs.OrderLemmas.{sort_keys-pushed}
use Rattle.gtfs_tables.proofs.order.sort_keys_of.Goals as goal

pub loop-index-preserved : goal.loop-index-preserved
loop-index-preserved c =
    c.in_ok-push.ensures.items ∙ ap (λ sort_key. c.loop-index.sort_keys.items ++ sort_key ∷ []) c.sort_key_of.ensures
    ∙ sort_keys-pushed c.args.trips.now c.args.rows.now c.loop-index.index no_row c.loop-index.sort_keys.items (omega arith) c.loop-index.invariant
