use Rattle.std.proofs.Common.{None, get_or}
use Rattle.std.proofs.lemmas.List.{get_or_default}
use Rattle.connections.specs.declared.runs.Run.{Run}
use Rattle.connections.proofs.ReadyLemmas.{hops_step}
use Rattle.connections.proofs.listing.count_connections.Goals as goal

pub loop-run-preserved : goal.loop-run-preserved
loop-run-preserved c =
    let none : Run = record { day = record { year = 0; month = 0; day = 0 }; trip = 0; repeat = 0; start = None } in
    let run : Run = get_or c.args.runs.now c.loop-run.run-index none in
    hops_step c.args.trips.now c.args.runs.now c.loop-run.run-index run c.index-trips-run.result c.loop-run.count c.saturating_add-count.result
    18446744073709551615 c.loop-run-test.true
    (get_or_default c.args.runs.now c.loop-run.run-index none run c.loop-run-test.true) (c.requires c.loop-run.run-index none c.loop-run-test.true)
    c.index-trips-run.is c.loop-run.invariant c.saturating_add-count.ensures
