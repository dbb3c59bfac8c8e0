use Rattle.std.proofs.Common.{arith}
use Rattle.image_layout.specs.Fields.{foot_index_of}
use Rattle.image_verifier.proofs.ClosureLemmas.{HasSecs-none, HasSecs-more}
use Rattle.image_verifier.proofs.closure.enter_row.Goals as goal

pub loop-k-init : goal.loop-k-init
loop-k-init c = rw c.foot_index_at-k.ensures (HasSecs-none c.args.words.now (foot_index_of c.args.words.now c.args.into) c.args.secs.now c.requires.empty)

pub loop-k-preserved : goal.loop-k-preserved
loop-k-preserved c =
    rw (c.foot_from_at.ensures, c.foot_secs_at.ensures)
    (HasSecs-more c.args.words.now c.args.into c.loop-k.k c.loop-k.secs (c.requires.ranges c.args.into c.requires.into)
    (omega arith) (omega arith) c.loop-k.invariant)
