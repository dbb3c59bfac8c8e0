use Rattle.std.proofs.Common.{◌≡◌, ◌-◌, ◌++◌, take, drop}
use Rattle.fronts.specs.Putting.{left_by}
use Rattle.fronts.proofs.putting.leave_front.Given as goal

abbrev pub invariant-loop-k : goal.invariant-loop-k
invariant-loop-k g l = l.items.items ≡ l.initial.items.items
    ++ left_by (g.C.Criterion.rules l.criterion) l.points (take (l.k - l.begin) (drop l.begin l.initial.items.items))
