use Rattle.std.proofs.Common.{◌≡◌, take}
use Rattle.std.specs.List.{list_any}
use Rattle.fronts.proofs.valued.some_no_worse.Given as goal

abbrev pub invariant-loop-point : goal.invariant-loop-point
invariant-loop-point g l = l.any ≡ list_any (λ p. (g.C.Criterion.rules l.criterion).no_worse (g.T.HasValue.value_of p) l.value) (take l.point-index l.points)
