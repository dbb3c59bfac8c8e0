use Rattle.tests_scan.proofs.ExampleAnswers.{the_first_trip_counts}
use Rattle.tests_scan.proofs.tests.wrong_steps.late_departures_dominate_nothing.Goals as goal

pub returns : goal.returns
returns g c = the_first_trip_counts (g.C.Criterion.rules c.args._criterion.now) c.a_start_on_foot_counts.ensures.earlier
