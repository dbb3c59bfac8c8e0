use Rattle.footpaths.proofs.LawLemmas.{more_pairs, pairs_of_closure, longer_in, longer_of}
use Rattle.footpaths.proofs.laws.faults_of_closure.Goals as goal

pub returns-clause-many : goal.returns-clause-many
returns-clause-many c = λ listed closure most is. (more_pairs listed closure most is, pairs_of_closure listed closure most is)

pub returns-clause-long : goal.returns-clause-long
returns-clause-long c = λ listed closure longest is. (longer_in listed closure longest is, longer_of listed closure longest is)
