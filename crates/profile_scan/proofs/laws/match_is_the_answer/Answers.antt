use Rattle.profile_scan.proofs.Answer.{match_is_the_answer}
use Rattle.profile_scan.proofs.laws.match_is_the_answer.Goals as goal

pub returns : goal.returns
returns g c = match_is_the_answer (g.C.Criterion.rules c.args._criterion.now) (g.met.C.Criterion.laws c.args._criterion.now)
