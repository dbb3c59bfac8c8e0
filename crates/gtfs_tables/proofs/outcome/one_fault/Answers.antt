use Rattle.gtfs_tables.proofs.OneOutcome.{one_fault}
use Rattle.gtfs_tables.proofs.outcome.one_fault.Goals as goal

pub returns : goal.returns
returns c = one_fault
