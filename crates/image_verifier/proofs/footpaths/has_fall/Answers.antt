use Rattle.std.proofs.Common.{◌+◌, arith, sym}
use Rattle.image_verifier.specs.FootFaults.{is_fall}
use Rattle.timetable.proofs.FirstLemmas.{any_between-found}
use Rattle.image_verifier.proofs.footpaths.has_fall.Goals as goal

pub returns-then-is_fall : goal.returns-then-is_fall
returns-then-is_fall c = sym (any_between-found (is_fall c.args.words.now) (c.args.start + 1) c.args.end c.loop-k.k
    (omega arith) (omega arith) (sym c.if-is_fall.ensures))
