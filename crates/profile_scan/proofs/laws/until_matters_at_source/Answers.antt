use Rattle.profile_scan.proofs.Ends.{until_matters_at_source}
use Rattle.profile_scan.proofs.laws.until_matters_at_source.Goals as goal

pub returns : goal.returns
returns c = until_matters_at_source
