use Rattle.profile_scan.proofs.answering.timetable_of.Given as goal

abbrev pub ghost-at : goal.ghost-at
ghost-at g a = g.S.ConnSource.timetable a.first.now
