use Rattle.std.proofs.Common.{arith, sym}
use Rattle.image_verifier.specs.FootFaults.{is_from}
use Rattle.timetable.proofs.FirstLemmas.{any_between-found}
use Rattle.image_verifier.proofs.footpaths.has_footpath_from.Goals as goal

pub returns-then-is_from : goal.returns-then-is_from
returns-then-is_from c = sym (any_between-found (is_from c.args.words.now c.args.stop) c.args.start c.args.end
    c.loop-k.k (omega arith) (omega arith) (sym c.if-is_from.ensures))
