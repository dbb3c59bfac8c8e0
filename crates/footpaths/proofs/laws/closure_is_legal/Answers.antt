use Rattle.footpaths.proofs.LawLemmas as law
use Rattle.footpaths.proofs.laws.closure_is_legal.Goals as goal

pub returns : goal.returns
returns c = law.legal_closure
