use Rattle.footpaths.proofs.LawLemmas as law
use Rattle.footpaths.proofs.laws.closed_stays.Goals as goal

pub returns : goal.returns
returns c = law.closed_stays
