use Rattle.std.proofs.Common.{◌∙◌, ◌+◌, map, ap, List, length}
use Rattle.std.proofs.lemmas.List.{length_push, take_all}
use Rattle.gtfs_tables.specs.declared.tables.Trip.{Trip}
use Rattle.connections.specs.Runs.{runs_on}
use Rattle.connections.proofs.ActiveSteps.{runs_among}
use Rattle.connections.proofs.RunSteps.{running_more}
use Rattle.connections.proofs.runs.running_on.Goals as goal

pub loop-position-preserved : goal.loop-position-preserved
loop-position-preserved c =
    let trip = c.index-trips-position.result in
    let lt = c.loop-position-test.true in
    let was = c.loop-position.invariant in
    record {
      len = ap length c.in_ok-push.ensures.items ∙ length_push c.loop-position.running.items c.is_running.result ∙ ap (λ n. n + 1) was.len;
      marked = λ feed day names named are.
          running_more feed day c.args.trips.now c.loop-position.running.items c.push.new.self.items c.loop-position.position trip c.is_running.result
          (was.marked feed day names named are) lt c.index-trips-position.is
          (runs_among feed names day c.args.trips.now c.args.indices.now c.args.active.now c.loop-position.position trip 0 c.is_running.result
          named are lt c.index-trips-position.is c.is_running.ensures) c.in_ok-push.ensures.items;
    }

pub returns-clause-marked : goal.returns-clause-marked
returns-clause-marked c feed day names named are =
    c.loop-position.invariant.marked feed day names named are
    ∙ ap (λ (ts : List Trip). map (runs_on feed day) ts) (take_all c.loop-position.position c.args.trips.now c.loop-position-test.false)
