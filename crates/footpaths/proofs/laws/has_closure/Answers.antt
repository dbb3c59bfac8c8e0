use Rattle.footpaths.proofs.ExistenceLemmas as existence
use Rattle.footpaths.proofs.laws.has_closure.Goals as goal

pub returns : goal.returns
returns c = existence.has_closure
