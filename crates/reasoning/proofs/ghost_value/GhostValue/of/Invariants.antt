use Rattle.reasoning.proofs.ghost_value.GhostValue.of.Given as goal

abbrev pub ghost-at : goal.ghost-at
ghost-at g a = a.first.now
