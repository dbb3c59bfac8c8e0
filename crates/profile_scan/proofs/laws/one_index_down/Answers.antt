use Rattle.profile_scan.proofs.StepLemmas.{one_index_down}
use Rattle.profile_scan.proofs.laws.one_index_down.Goals as goal

pub returns : goal.returns
returns g c = one_index_down (g.C.Criterion.rules c.args._criterion.now) (g.met.C.Criterion.laws c.args._criterion.now)
