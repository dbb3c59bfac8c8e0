use Rattle.gtfs_tables.proofs.OneOutcome.{first_time_fault}
use Rattle.gtfs_tables.proofs.outcome.refused_for_first_time_fault.Goals as goal

pub returns : goal.returns
returns c = first_time_fault
