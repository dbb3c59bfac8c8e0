use Rattle.std.proofs.Common.{◌≡◌, ◌≤◌, length, take}
use Rattle.scan_state.specs.Adding.{label_points}
use Rattle.scan_state.specs.Bound.{carried_on}
use Rattle.scan_state.proofs.riding.ride_labels.Given as goal

abbrev pub invariant-loop-k : goal.invariant-loop-k
invariant-loop-k g l = (l.count ≤ length l.ridden.items)
    × (take l.count l.ridden.items ≡ carried_on (g.C.Criterion.rules l.criterion) l.bound (take l.k (label_points l.labels)))
