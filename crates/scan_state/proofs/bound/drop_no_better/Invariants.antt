use Rattle.std.proofs.Common.{not}
use Rattle.std.proofs.lemmas.List.Filters.{FiltersInPlace}
use Rattle.scan_state.proofs.bound.drop_no_better.Given as goal

abbrev pub invariant-loop-i : goal.invariant-loop-i
invariant-loop-i g l = FiltersInPlace (λ b. not ((g.C.Criterion.rules l.criterion).no_worse l.value b)) l.fn.values.items l.values.items l.kept l.i
