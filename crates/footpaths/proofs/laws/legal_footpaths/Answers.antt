use Rattle.footpaths.proofs.LawLemmas as law
use Rattle.footpaths.proofs.laws.legal_footpaths.Goals as goal

pub returns-clause-has : goal.returns-clause-has
returns-clause-has c = law.footpaths_of_legal

pub returns-clause-takes : goal.returns-clause-takes
returns-clause-takes c = law.legal_with
