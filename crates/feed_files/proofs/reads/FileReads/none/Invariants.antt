use Rattle.std.proofs.Common.{[]}
use Rattle.feed_files.proofs.reads.FileReads.none.Given as goal

abbrev pub ghost-at : goal.ghost-at
ghost-at a = []
