use Rattle.image_layout.specs.Fields.{foot_index_of}
use Rattle.image_verifier.specs.ClosureFaults.{HasSecs}
use Rattle.image_verifier.proofs.closure.enter_row.Given as goal

abbrev pub invariant-loop-k : goal.invariant-loop-k
invariant-loop-k l = HasSecs l.words (foot_index_of l.words l.into) l.k l.secs
