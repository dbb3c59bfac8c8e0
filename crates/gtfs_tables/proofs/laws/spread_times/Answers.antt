use Rattle.gtfs_tables.proofs.TimeLemmas.{spread_at}
use Rattle.gtfs_tables.proofs.laws.spread_times.Goals as goal

pub returns : goal.returns
returns c = spread_at
