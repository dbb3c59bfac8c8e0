use Rattle.std.proofs.Common.{arith, sym}
use Rattle.image_verifier.specs.FootFaults.{is_bad_footpath}
use Rattle.timetable.proofs.FirstLemmas.{any_between-found}
use Rattle.image_verifier.proofs.footpaths.has_bad_footpath.Goals as goal

pub returns-then-is_bad_footpath : goal.returns-then-is_bad_footpath
returns-then-is_bad_footpath c = sym (any_between-found (is_bad_footpath c.args.words.now) c.args.start c.args.end
    c.loop-k.k (omega arith) (omega arith) (sym c.if-is_bad_footpath.ensures))
