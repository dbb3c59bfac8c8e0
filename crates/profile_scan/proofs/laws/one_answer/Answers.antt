use Rattle.profile_scan.proofs.Answer.{one_answer}
use Rattle.profile_scan.proofs.laws.one_answer.Goals as goal

pub returns : goal.returns
returns g c = one_answer (g.C.Criterion.rules c.args._criterion.now) (g.met.C.Criterion.laws c.args._criterion.now)
