use Rattle.std.proofs.Common.{arith}
use Rattle.journeys.proofs.WalkLemmas.{walk_secs_done}
use Rattle.journeys.proofs.walks.walk_secs.Goals as goal

pub returns : goal.returns
returns c =
    let done = walk_secs_done c.args.walk.now c.loop-footpath.footpath-index (omega arith) in
    omega (arith, done)
