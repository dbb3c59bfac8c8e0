use Rattle.gtfs_tables.proofs.OneOutcome.{no_fault}
use Rattle.gtfs_tables.proofs.outcome.joined_without_fault.Goals as goal

pub returns : goal.returns
returns c = no_fault
