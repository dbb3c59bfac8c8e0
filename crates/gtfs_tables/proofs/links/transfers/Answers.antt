use Rattle.std.proofs.Common.{◌≡◌, ◌++◌, arith}
use Rattle.std.specs.Prelude.{option_to_list}
use Rattle.std.proofs.lemmas.Grind.{common_steps}
use Rattle.reasoning.proofs.FirstLemmas.{first_below-start}
use Rattle.gtfs_rows.specs.declared.fault.Table.TheVariants.{Transfers}
use Rattle.gtfs_tables.specs.Names.{held_at}
use Rattle.gtfs_tables.specs.Rows.{transfer_fault}
use Rattle.gtfs_tables.proofs.FirstLemmas.{row_fine, row_wrong}
use Rattle.gtfs_tables.proofs.RowLemmas.{kept_next}
use Rattle.gtfs_tables.proofs.links.transfers.Goals as goal
use Rattle.gtfs_tables.proofs.links.transfers.Goals.{in-Some+else-is_err, in_default}

pub loop-index-init : goal.loop-index-init
loop-index-init c = record { fine = first_below-start _; kept = rw c.new-kept.ensures.items tt }

pub loop-index-preserved : goal.loop-index-preserved
loop-index-preserved c =
    let made : c.match-found.kept.items ≡ c.loop-index.kept.items ++ option_to_list c.in-Ok.found =
    elim c.match-found.branch [
      | in-Some+else-is_err w ↦ grind (arith, common_steps)
      | in_default w ↦
          grind (arith, common_steps)
    ] in
    record {
      fine = row_fine Transfers (transfer_fault (held_at c.args.names.now)) c.args.rows.now c.loop-index.index
          c.index-rows-index.result (omega arith) c.index-rows-index.is c.in-Ok.ensures.fine
          c.loop-index.invariant.fine;
      kept = kept_next (held_at c.args.names.now) c.args.rows.now c.loop-index.index c.index-rows-index.result
          c.loop-index.kept.items c.match-found.kept.items c.in-Ok.found (omega arith) c.index-rows-index.is
          c.in-Ok.ensures.kept c.in-Ok.ensures.ok made c.loop-index.invariant.kept;
    }

pub returns-in-Err-clause-err : goal.returns-in-Err-clause-err
returns-in-Err-clause-err c = λ _.
    rw c.fault_at.ensures (row_wrong Transfers (transfer_fault (held_at c.args.names.now)) c.args.rows.now
    c.loop-index.index c.index-rows-index.result c.in-Err.kind (omega arith) c.index-rows-index.is
    c.in-Err.ensures.err c.loop-index.invariant.fine)
