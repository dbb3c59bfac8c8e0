use Rattle.std.proofs.Common.{arith, refl}
use Rattle.image_layout.specs.Spelling.{image_in}
use Rattle.image_layout.proofs.laws.which_layouts.Goals as goal

pub returns-clause-written : goal.returns-clause-written
unfolding image_in
returns-clause-written c = λ t n can. record { can_be = can; layout = refl; first = λ same. absurd (omega (arith, same)); spelled = refl }

pub returns-clause-first : goal.returns-clause-first
unfolding image_in
returns-clause-first c = λ t n can are_first. record { can_be = can; layout = refl; first = λ same. are_first; spelled = refl }

pub returns-clause-first_alone : goal.returns-clause-first_alone
unfolding image_in
returns-clause-first_alone c = λ t n is. is.first refl
