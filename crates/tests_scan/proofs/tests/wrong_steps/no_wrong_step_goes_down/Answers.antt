use Rattle.tests_scan.proofs.Refutations.{bag_cut_is_wrong, loop_start_is_wrong, no_change_is_wrong}
use Rattle.tests_scan.proofs.LabelsForgotten.{forgotten_labels_are_wrong}
use Rattle.tests_scan.proofs.tests.wrong_steps.no_wrong_step_goes_down.Goals as goal

pub returns-clause-bag_cut : goal.returns-clause-bag_cut
returns-clause-bag_cut g c = bag_cut_is_wrong (g.C.Criterion.rules c.args._criterion.now) (g.met.C.Criterion.laws c.args._criterion.now)

pub returns-clause-loop_start : goal.returns-clause-loop_start
returns-clause-loop_start g c = loop_start_is_wrong (g.C.Criterion.rules c.args._criterion.now) (g.met.C.Criterion.laws c.args._criterion.now)

pub returns-clause-no_change : goal.returns-clause-no_change
returns-clause-no_change g c = no_change_is_wrong (g.C.Criterion.rules c.args._criterion.now) (g.met.C.Criterion.laws c.args._criterion.now)

pub returns-clause-labels_forgotten : goal.returns-clause-labels_forgotten
returns-clause-labels_forgotten g c = forgotten_labels_are_wrong (g.C.Criterion.rules c.args._criterion.now) (g.met.C.Criterion.laws c.args._criterion.now)
