use Rattle.std.proofs.Common.{◌≡◌, ◌++◌, take}
use Rattle.fronts.specs.Front.{front}
use Rattle.fronts.specs.Putting.{left_by}
use Rattle.fronts.proofs.keeping.keep_front.Given as goal

abbrev pub invariant-loop-k : goal.invariant-loop-k
invariant-loop-k g l =
    let points = front l.arena.entries.now l.arena.items.now l.index in
    l.kept.items ≡ l.initial.kept.items ++ left_by (g.C.Criterion.rules l.criterion) points (take l.k l.others)
