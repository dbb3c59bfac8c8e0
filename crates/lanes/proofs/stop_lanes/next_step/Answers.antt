use Rattle.std.proofs.Common.{arith}
use Rattle.lanes.proofs.StepLemmas.{steps_long}
use Rattle.lanes.proofs.stop_lanes.next_step.Goals as goal

pub returns : goal.returns
returns c =
    let few = c.if-count.false in
    let long = steps_long c.args.steps.now in
    (omega (arith, few), omega (arith, long))

pub returns-then-count : goal.returns-then-count
returns-then-count c =
    let many = c.if-count.true in
    let long = steps_long c.args.steps.now in
    omega (arith, many, long)
