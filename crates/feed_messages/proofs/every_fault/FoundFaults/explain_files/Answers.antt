use Rattle.feed_messages.proofs.AskingLemmas.{first_asked, none_asked}
use Rattle.feed_messages.proofs.every_fault.FoundFaults.explain_files.Goals as goal

pub returns-then-is_none : goal.returns-then-is_none
returns-then-is_none g c = c.loop-left.invariant c.explain_file.new.files
    (first_asked g.F.FeedFiles.words c.loop-left.left.now _ _ _ _ c.in-len1-up.len_at_least c.explain_file.ensures (none_asked g.F.FeedFiles.words _ _))

pub loop-left-preserved : goal.loop-left-preserved
loop-left-preserved g c = λ end more.
    c.loop-left.invariant end (first_asked g.F.FeedFiles.words c.loop-left.left.now _ _ _ end c.in-len1-up.len_at_least c.explain_file.ensures more)

pub returns : goal.returns
returns g c = c.loop-left.invariant c.loop-left.files (none_asked g.F.FeedFiles.words c.loop-left.left.now _)
