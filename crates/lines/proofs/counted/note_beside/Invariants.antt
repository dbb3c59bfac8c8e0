use Rattle.lines.proofs.counted.note_beside.Given as goal

abbrev pub ghost-at : goal.ghost-at
ghost-at g a = (a.first.now, a.second.now.value)
