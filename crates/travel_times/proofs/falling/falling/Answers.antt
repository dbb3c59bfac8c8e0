use Rattle.std.proofs.Common.{arith}
use Rattle.travel_times.proofs.FallingLemmas.{falling_closed, falling_none}
use Rattle.travel_times.proofs.falling.falling.Goals as goal

pub returns-then-count-eq0-clause-sum : goal.returns-then-count-eq0-clause-sum
returns-then-count-eq0-clause-sum c = falling_none c.args.top c.args.count c.min-count.result c.min-count.ensures c.if-count-eq0.true

pub returns-clause-sum : goal.returns-clause-sum
returns-clause-sum c =
    let other = c.if-count-eq0.false in
    falling_closed c.args.top c.args.count c.min-count.result c.min-count.ensures (omega (arith, other))
