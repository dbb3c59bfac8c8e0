use Rattle.csa_program.proofs.Shown.{held_of_two, shown_of_two}
use Rattle.csa_program.proofs.laws.shown_in_parts.Goals as goal

pub returns-clause-text : goal.returns-clause-text
returns-clause-text c = shown_of_two

pub returns-clause-held : goal.returns-clause-held
returns-clause-held c = held_of_two
