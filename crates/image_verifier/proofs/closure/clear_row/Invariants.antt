use Rattle.std.proofs.Common.{◌+◌}
use Rattle.image_layout.specs.Fields.{foot_index_of}
use Rattle.image_verifier.specs.ClosureFaults.{HasSecs}
use Rattle.image_verifier.proofs.closure.clear_row.Given as goal

abbrev pub invariant-loop-k : goal.invariant-loop-k
invariant-loop-k l = HasSecs l.words l.k (foot_index_of l.words (l.into + 1)) l.secs
