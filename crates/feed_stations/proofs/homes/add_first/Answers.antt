use Rattle.std.proofs.Common.{sym, ◌∙◌}
use Rattle.gtfs_tables.proofs.NameLemmas.{held-kept, held-put}
use Rattle.feed_stations.proofs.homes.add_first.Goals as goal

pub returns-in_ok-insert-clause-adds : goal.returns-in_ok-insert-clause-adds
returns-in_ok-insert-clause-adds c =
    held-kept c.args.stations.now c.insert.new.self c.insert-in-Some.new.self c.args.id c.in-Some.first c.args.row_index
    (sym c.in_ok-first.ensures.old ∙ c.in-Some.is) c.in_ok-first.ensures.updates c.in_ok-insert.ensures.updates

pub returns-in_default-clause-adds : goal.returns-in_default-clause-adds
returns-in_default-clause-adds c =
    held-put c.args.stations.now c.insert.new.self c.args.id c.args.row_index (sym c.in_ok-first.ensures.old ∙ c.in_default.is) c.in_ok-first.ensures.updates
