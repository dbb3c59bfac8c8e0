use Rattle.connections.specs.Hops.{zero_of}
use Rattle.connections.proofs.HopSteps.{hops_more, hops_none}
use Rattle.connections.proofs.hops.add_hops.Goals as goal

pub loop-position-init : goal.loop-position-init
loop-position-init c = hops_none c.args.clock.day.base (zero_of c.args.clock) c.args.rows.now c.args.run c.args.connections.now.items

pub loop-position-preserved : goal.loop-position-preserved
loop-position-preserved c =
    hops_more c.args.clock.day.base (zero_of c.args.clock) c.args.rows.now c.args.run c.loop-position.position
    c.args.connections.now.items c.loop-position.connections.items
    c.push.new.self.items c.connection-hop.result c.loop-position.invariant c.connection-hop.ensures c.in_ok-push.ensures.items
