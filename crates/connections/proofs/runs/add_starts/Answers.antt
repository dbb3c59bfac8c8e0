use Rattle.std.proofs.Common.{◌≡◌, rules}
use Rattle.connections.proofs.RepeatSteps.{pushed_more, pushed_none}
use Rattle.connections.proofs.runs.add_starts.Goals as goal

pub loop-position-init : goal.loop-position-init
loop-position-init c = pushed_none c.args.day c.args.trip c.args.runs.now.items

pub loop-position-preserved : goal.loop-position-preserved
loop-position-preserved c =
    let number : c.in-Ok.repeat ≡ c.loop-position.position = search rules in
    pushed_more c.args.day c.args.trip c.in-Ok.repeat c.args.starts.now c.loop-position.position 0 c.args.runs.now.items c.loop-position.runs.items
    c.push.new.self.items c.loop-position-test.true number c.loop-position.invariant c.in_ok-push.ensures.items
