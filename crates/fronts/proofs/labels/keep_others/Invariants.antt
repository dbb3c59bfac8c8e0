use Rattle.std.proofs.Common.{◌≡◌, take}
use Rattle.fronts.specs.Offered.{others}
use Rattle.fronts.proofs.labels.keep_others.Given as goal

abbrev pub invariant-loop-k : goal.invariant-loop-k
invariant-loop-k g l = l.kept.items ≡ others (g.C.Criterion.rules l.criterion) l.value (take l.k l.labels)
