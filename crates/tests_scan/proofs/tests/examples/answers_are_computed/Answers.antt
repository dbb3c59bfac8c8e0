use Rattle.std.proofs.Common.{refl}
use Rattle.tests_scan.proofs.ExampleAnswers.{one_point, nothing_before_eight}
use Rattle.tests_scan.proofs.tests.examples.answers_are_computed.Goals as goal

pub returns-clause-one : goal.returns-clause-one
returns-clause-one c = one_point _ (record { arrives = λ time. refl; rides = λ v. refl; walks = λ secs v. refl; compares = λ v w. refl })

pub returns-clause-none : goal.returns-clause-none
returns-clause-none c = nothing_before_eight _
