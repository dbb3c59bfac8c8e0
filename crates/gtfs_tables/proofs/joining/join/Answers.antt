use Rattle.std.proofs.Common.{arith, length, rules}
use Rattle.std.specs.Option.{option_or}
use Rattle.reasoning.proofs.FirstLemmas.{option_or-some}
use Rattle.gtfs_rows.specs.declared.fault.Table.TheVariants as kinds
use Rattle.gtfs_tables.specs.Feeds.{naming_fault, rows_by, trip_fault}
use Rattle.gtfs_tables.specs.First.{first_below, first_fault_of}
use Rattle.gtfs_tables.specs.Names.{stop_named, trip_named}
use Rattle.gtfs_tables.specs.Rows.{transfer_fault}
use Rattle.gtfs_tables.proofs.joining.join.Goals as goal

pub overflow_cast-most : goal.overflow_cast-most
overflow_cast-most c = search rules

pub returns-then-len-most-clause-err : goal.returns-then-len-most-clause-err
returns-then-len-most-clause-err c = λ other. absurd (other c.out_of_memory.ensures)

pub link-requires-clause-stops : goal.link-requires-clause-stops
link-requires-clause-stops c = omega arith

pub link-requires-clause-trips : goal.link-requires-clause-trips
link-requires-clause-trips c = omega arith

pub feed_of-requires : goal.feed_of-requires
feed_of-requires c = c.in-Ok.ensures.ok

pub returns-in-Ok-clause-ok : goal.returns-in-Ok-clause-ok
returns-in-Ok-clause-ok c = c.feed_of.ensures.ok

pub returns-in-Ok-clause-err : goal.returns-in-Ok-clause-err
returns-in-Ok-clause-err c = c.feed_of.ensures.err

pub returns-in-Err-clause-err : goal.returns-in-Err-clause-err
returns-in-Err-clause-err c = λ other.
    let wrong = c.in-Err.ensures.err other in
    record {
      sort_keys = wrong.sort_keys;
      in_order = wrong.in_order;
      first = option_or-some (naming_fault (stop_named c.args.tables.stops.items) (trip_named c.args.tables.trips.items)
          c.args.tables) (option_or (first_below
          (trip_fault c.args.strict wrong.sort_keys (rows_by (stop_named c.args.tables.stops.items)
          (trip_named c.args.tables.trips.items) c.args.tables wrong.sort_keys)) (length c.args.tables.trips.items))
          (first_fault_of kinds.Transfers (transfer_fault (stop_named c.args.tables.stops.items))
          c.args.tables.transfers.items)) c.in-Err.fault wrong.first;
    }

pub returns-in-Ok-clause-hash : goal.returns-in-Ok-clause-hash
returns-in-Ok-clause-hash c = c.feed_of.ensures.hash
