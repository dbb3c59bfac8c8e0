use Rattle.footpaths.proofs.LawLemmas as law
use Rattle.footpaths.proofs.laws.one_closure.Goals as goal

pub returns : goal.returns
returns c = law.one_closure
