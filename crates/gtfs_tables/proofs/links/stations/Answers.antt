use Rattle.std.proofs.Common.{arith}
use Rattle.std.proofs.lemmas.Grind.{common_steps}
use Rattle.reasoning.proofs.FirstLemmas.{first_below-start}
use Rattle.gtfs_rows.specs.declared.fault.Table.TheVariants.{Stops}
use Rattle.gtfs_tables.specs.Names.{held_at}
use Rattle.gtfs_tables.specs.Rows.{parent_fault}
use Rattle.gtfs_tables.proofs.FirstLemmas.{row_fine, row_wrong}
use Rattle.gtfs_tables.proofs.links.stations.Goals as goal

pub loop-index-init : goal.loop-index-init
loop-index-init c = record { fine = first_below-start _; found = c.in-Ok.ensures.items }

pub loop-index-preserved : goal.loop-index-preserved
loop-index-preserved c = record {
  fine = row_fine Stops (parent_fault (held_at c.args.names.now)) c.args.stops.now c.loop-index.index
      c.index-stops-index.result (omega arith) c.index-stops-index.is c.in-Ok-station.ensures.fine
      c.loop-index.invariant.fine;
  found = grind (arith, common_steps, c.in-Ok-station.ensures.ok);
}

pub returns-in-Err-clause-err : goal.returns-in-Err-clause-err
returns-in-Err-clause-err c = λ _.
    rw c.fault_at.ensures (row_wrong Stops (parent_fault (held_at c.args.names.now)) c.args.stops.now c.loop-index.index
    c.index-stops-index.result c.in-Err.kind (omega arith) c.index-stops-index.is c.in-Err.ensures.err
    c.loop-index.invariant.fine)
