use Rattle.std.proofs.Common.{◌+◌, arith}
use Rattle.image_layout.specs.Fields.{foot_index_of}
use Rattle.image_verifier.proofs.ClosureLemmas.{HasSecs-less, no_entries}
use Rattle.image_verifier.proofs.closure.clear_row.Goals as goal

pub loop-k-preserved : goal.loop-k-preserved
loop-k-preserved c =
    rw c.foot_from_at.ensures
    (HasSecs-less c.args.words.now c.args.into c.loop-k.k c.loop-k.secs (c.requires.ranges c.args.into c.requires.into)
    (omega arith) (omega arith) c.loop-k.invariant)

pub returns : goal.returns
returns c = no_entries c.args.words.now c.loop-k.k (foot_index_of c.args.words.now (c.args.into + 1)) c.loop-k.secs (omega arith) c.loop-k.invariant
