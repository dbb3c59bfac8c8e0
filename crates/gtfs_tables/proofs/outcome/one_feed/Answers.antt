use Rattle.gtfs_tables.proofs.OneOutcome.{one_feed}
use Rattle.gtfs_tables.proofs.outcome.one_feed.Goals as goal

pub returns : goal.returns
returns c = one_feed
