use Rattle.feed_files.proofs.folder.ReadPermits.none.Given as goal

abbrev pub ghost-at : goal.ghost-at
ghost-at a = 0
