use Rattle.std.proofs.Common.{◌+◌}
use Rattle.feed_files.proofs.folder.ReadPermits.next.Given as goal

abbrev pub ghost-at : goal.ghost-at
ghost-at a = a.first.now.value + 1
