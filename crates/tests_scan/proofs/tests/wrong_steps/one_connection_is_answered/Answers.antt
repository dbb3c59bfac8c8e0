use Rattle.tests_scan.proofs.Refutations.{scan_answers}
use Rattle.tests_scan.proofs.tests.wrong_steps.one_connection_is_answered.Goals as goal

pub returns : goal.returns
returns g c = scan_answers (g.C.Criterion.rules c.args._criterion.now) (g.met.C.Criterion.laws c.args._criterion.now)
