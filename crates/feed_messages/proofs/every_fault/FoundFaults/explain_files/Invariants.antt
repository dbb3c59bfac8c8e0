-- The files of the tables that are left are asked for as those of all tables would be from here on.
use Rattle.std.proofs.Common.{length}
use Rattle.feed_files.specs.Reads.{all_tables}
use Rattle.feed_messages.specs.Asking.{AreAskedFor}
use Rattle.feed_messages.proofs.every_fault.FoundFaults.explain_files.Given as goal

abbrev pub invariant-loop-left : goal.invariant-loop-left
invariant-loop-left g l = (end : _) → AreAskedFor g.F.FeedFiles.words l.left l.files end → AreAskedFor g.F.FeedFiles.words all_tables l.fn.files end

abbrev pub decreases-loop-left : goal.decreases-loop-left
decreases-loop-left g l = length l.left
