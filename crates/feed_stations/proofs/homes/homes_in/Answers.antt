use Rattle.std.proofs.Common.{◌≡◌, ◌∙◌, ◌++◌, ◌∷◌, [], arith}
use Rattle.std.proofs.lemmas.Grind.{common_steps}
use Rattle.reasoning.proofs.FirstLemmas.{first_below-start}
use Rattle.gtfs_rows.specs.declared.fault.Table.TheVariants.{Stops}
use Rattle.gtfs_tables.proofs.FirstLemmas.{row_fine, row_wrong}
use Rattle.feed_stations.specs.Homes.{orphan_fault, station_named}
use Rattle.feed_stations.proofs.Named.{home_as_found, homes_more, homes_none, orphan_as_found}
use Rattle.feed_stations.proofs.homes.homes_in.Goals as goal

pub loop-row_index-init : goal.loop-row_index-init
loop-row_index-init c = record {
  fine = first_below-start _;
  homes = homes_none (station_named c.args.rows.now) c.args.rows.now _ c.in-Ok-with_capacity.ensures.items;
}

pub loop-row_index-preserved : goal.loop-row_index-preserved
loop-row_index-preserved c =
    let grown : c.push.new.self.items ≡ c.loop-row_index.homes.items ++ c.in-Ok-home_of.home ∷ [] = grind (arith, common_steps) in
    record {
      fine = row_fine Stops (orphan_fault (station_named c.args.rows.now)) c.args.rows.now c.loop-row_index.row_index c.index-rows-row_index.result
          (omega arith)
          c.index-rows-row_index.is (orphan_as_found _ _ c.in-Ok.ensures.holds c.index-rows-row_index.result _ c.in-Ok-home_of.ensures.fine)
          c.loop-row_index.invariant.fine;
      homes = homes_more (station_named c.args.rows.now) c.args.rows.now c.loop-row_index.row_index c.index-rows-row_index.result c.loop-row_index.homes.items
          c.push.new.self.items c.in-Ok-home_of.home (omega arith) c.index-rows-row_index.is grown
          (home_as_found _ _ c.in-Ok.ensures.holds c.loop-row_index.row_index c.index-rows-row_index.result c.in-Ok-home_of.home c.in-Ok-home_of.ensures.home)
          c.loop-row_index.invariant.homes;
    }

pub returns-in-Err-clause-err : goal.returns-in-Err-clause-err
returns-in-Err-clause-err c = λ _.
    rw c.fault_at.ensures (row_wrong Stops (orphan_fault (station_named c.args.rows.now)) c.args.rows.now c.loop-row_index.row_index
    c.index-rows-row_index.result
    c.in-Err.kind (omega arith) c.index-rows-row_index.is (orphan_as_found _ _ c.in-Ok.ensures.holds c.index-rows-row_index.result _ c.in-Err.ensures.err)
    c.loop-row_index.invariant.fine)
