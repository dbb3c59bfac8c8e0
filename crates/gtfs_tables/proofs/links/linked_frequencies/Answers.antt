use Rattle.std.proofs.Common.{◌∙◌, ap, arith}
use Rattle.gtfs_tables.specs.Names.{held_at}
use Rattle.gtfs_tables.specs.Rows.{frequency_of}
use Rattle.gtfs_tables.proofs.RowLemmas.{mapped_more}
use Rattle.gtfs_tables.proofs.links.linked_frequencies.Goals as goal

pub loop-row-preserved : goal.loop-row-preserved
loop-row-preserved c =
    c.in_ok-push.ensures.items ∙ mapped_more (frequency_of (held_at c.args.indices.now)) c.args.rows.now
    c.loop-row.row-index c.row-item.result c.loop-row.linked.items c.frequency.result (omega arith)
    c.loop-row.invariant
    (c.frequency.ensures ∙ ap (frequency_of (held_at c.args.indices.now)) c.row-item.is)
