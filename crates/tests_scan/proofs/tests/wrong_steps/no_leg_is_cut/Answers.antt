use Rattle.tests_scan.proofs.Refutations.{leg_by_leg_is_wrong}
use Rattle.tests_scan.proofs.tests.wrong_steps.no_leg_is_cut.Goals as goal

pub returns : goal.returns
returns c = leg_by_leg_is_wrong
