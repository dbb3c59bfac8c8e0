use Rattle.session.proofs.profiles.question_of.Goals as goal

pub returns : goal.returns
returns c = rw c.deref-to.ensures.value at (rw c.deref-from.ensures.value at c.question_between.ensures)
