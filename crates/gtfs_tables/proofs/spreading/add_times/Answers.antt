use Rattle.std.proofs.Common.{◌∙◌, sym}
use Rattle.reasoning.proofs.OptionLemmas.{is_some-none}
use Rattle.gtfs_tables.specs.Spread.{departure_at}
use Rattle.gtfs_tables.proofs.SpreadLemmas.{departs}
use Rattle.gtfs_tables.proofs.spreading.add_times.Goals as goal

pub unreachable-requires-in_default-departure : goal.unreachable-requires-in_default-departure
unreachable-requires-in_default-departure c =
    is_some-none (departure_at c.args.rows.now c.args.at)
    (departs c.args.rows.now c.args.at c.in-Some.arrives (sym c.arrival.ensures ∙ c.in-Some.is))
    (sym c.departure.ensures ∙ c.in_default-departure.is)
