use Rattle.std.proofs.Common.{take}
use Rattle.std.specs.Fmt.{HasWritten, IsPlainFormatter}
use Rattle.feed_loads.specs.Lines.{counts_text}
use Rattle.feed_loads.proofs.refusal.ShelfCountsDisplay.fmt.Given as goal

abbrev pub invariant-loop-count : goal.invariant-loop-count
invariant-loop-count g l =
    IsPlainFormatter l.initial.f → HasWritten g.W.Write.write_str_gives l.initial.f (counts_text (take l.count-index l.count-items)) l.f
