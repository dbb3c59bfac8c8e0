use Rattle.gtfs_tables.proofs.OneOrder.{one_order}
use Rattle.gtfs_tables.proofs.outcome.one_order.Goals as goal

pub returns : goal.returns
returns c = one_order
