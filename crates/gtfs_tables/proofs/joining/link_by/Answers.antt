use Rattle.std.proofs.Common.{◌≡◌, ◌∙◌, List, None, Some, ap, arith, map, refl, subst, sym}
use Rattle.std.specs.Prelude.{IfErr, IfOk, ◌≢◌, filter}
use Rattle.std.specs.List.{AllZip}
use Rattle.reasoning.proofs.FirstLemmas.{option_or-some}
use Rattle.gtfs_rows.specs.declared.fault.Table.TheVariants as kinds
use Rattle.gtfs_rows.specs.declared.fault.TableFault.{TableFault}
use Rattle.gtfs_rows.specs.declared.rows.TransferRow.{TransferRow}
use Rattle.gtfs_tables.specs.Feeds.{IsNamingFault, naming_fault, stop_time_fault, trips_by}
use Rattle.gtfs_tables.specs.First.{first_fault_of, no_memory}
use Rattle.gtfs_tables.specs.Names.{held_at}
use Rattle.gtfs_tables.specs.Order.{IsInOrder, sort_keys_in}
use Rattle.gtfs_tables.specs.Rows.{IsTransferOf, frequency_of, is_kept, is_repeated, parent_fault, station_of, transfer_fault}
use Rattle.gtfs_tables.proofs.JoinLemmas.{frequencies_as_given, of_none, of_three, of_two, flex_as_given, order_as_given, stops_as_given, times_as_given}
use Rattle.gtfs_tables.proofs.joining.link_by.Goals.{In-Ok-judged, In-Ok-order_of_rows, In-Ok-stations}
use Rattle.gtfs_tables.proofs.joining.link_by.Goals as goal

ordered : (c : goal.In-Ok-order_of_rows) → IsInOrder (trips_by (held_at c.args.indices.now) c.args.tables.now) c.args.tables.now.stop_times.rows.items
    (sort_keys_in (trips_by (held_at c.args.indices.now) c.args.tables.now) c.in-Ok-order_of_rows.order c.args.tables.now.stop_times.rows.items)
ordered c = order_as_given (held_at c.args.indices.now) c.args.tables.now c.deref.result.now c.deref-2.result.now c.in-Ok-order_of_rows.order
    c.deref.ensures.value (c.deref-2.ensures.value ∙ c.in-Ok.ensures) c.in-Ok-order_of_rows.ensures.order

naming : (c : goal.In-Ok-order_of_rows) (fault : TableFault)
    → naming_fault (held_at c.args.names.now) (held_at c.args.indices.now) c.args.tables.now ≡ Some fault
    → IsNamingFault (held_at c.args.names.now) (held_at c.args.indices.now) c.args.tables.now fault
naming c fault first = record {
  sort_keys = sort_keys_in (trips_by (held_at c.args.indices.now) c.args.tables.now) c.in-Ok-order_of_rows.order c.args.tables.now.stop_times.rows.items;
  in_order = ordered c;
  first = first;
}

stops_fine : (c : goal.In-Ok-stations) → first_fault_of kinds.Stops (parent_fault (held_at c.args.names.now)) c.args.tables.now.stops.items ≡ None
stops_fine c = stops_as_given (held_at c.args.names.now) c.deref-3.result.now c.args.tables.now.stops.items None c.deref-3.ensures.value
    c.in-Ok-stations.ensures.fine

times_fine : (c : goal.In-Ok-judged) → first_fault_of kinds.StopTimes (stop_time_fault (held_at c.args.names.now) (held_at c.args.indices.now)
    c.args.tables.now) c.args.tables.now.stop_times.rows.items ≡ None
times_fine c = times_as_given (held_at c.args.names.now) (held_at c.args.indices.now) c.args.tables.now c.deref-4.result.now None
    (c.deref-4.ensures.value ∙ c.in-Ok.ensures) c.in-Ok-judged.ensures.fine

pub judged_times-judged-requires : goal.judged_times-judged-requires
judged_times-judged-requires c = λ none. rw c.deref.ensures.value at (c.in-Ok-order_of_rows.ensures.stops none)

pub returns-in_default-clause-err : goal.returns-in_default-clause-err
returns-in_default-clause-err c = λ other. absurd (other c.out_of_memory.ensures)

pub returns-in_default-order_of_rows-clause-err : goal.returns-in_default-order_of_rows-clause-err
returns-in_default-order_of_rows-clause-err c = λ other. absurd (other c.out_of_memory-in_default-order_of_rows.ensures)

pub returns-in-Err-clause-err : goal.returns-in-Err-clause-err
returns-in-Err-clause-err c = λ other. naming (goal.at.returns-in-Err-clause-err c).In-Ok-order_of_rows c.in-Err.fault
    (option_or-some _ _ c.in-Err.fault (stops_as_given (held_at c.args.names.now) c.deref-3.result.now c.args.tables.now.stops.items
    (Some c.in-Err.fault) c.deref-3.ensures.value (c.in-Err.ensures.err other)))

pub returns-in-Err-judged-clause-err : goal.returns-in-Err-judged-clause-err
returns-in-Err-judged-clause-err c = λ other.
    let from = goal.at.returns-in-Err-judged-clause-err c in
    naming from.In-Ok-order_of_rows c.in-Err-judged.fault (of_two _ _ _ c.in-Err-judged.fault (stops_fine from.In-Ok-stations)
    (times_as_given (held_at c.args.names.now) (held_at c.args.indices.now) c.args.tables.now c.deref-4.result.now (Some c.in-Err-judged.fault)
    (c.deref-4.ensures.value ∙ c.in-Ok.ensures) (c.in-Err-judged.ensures.err other)))

pub returns-in-Err-repeating-clause-err : goal.returns-in-Err-repeating-clause-err
returns-in-Err-repeating-clause-err c = λ other.
    let from = goal.at.returns-in-Err-repeating-clause-err c in
    naming from.In-Ok-order_of_rows c.in-Err-repeating.fault (of_three _ _ _ c.in-Err-repeating.fault (stops_fine from.In-Ok-stations)
    (times_fine from.In-Ok-judged) (frequencies_as_given (held_at c.args.indices.now) c.deref-5.result.now c.args.tables.now.frequencies.items
    (Some c.in-Err-repeating.fault) c.deref-5.ensures.value (c.in-Err-repeating.ensures.err other)))

pub returns-in_default-linked_frequencies-clause-err : goal.returns-in_default-linked_frequencies-clause-err
returns-in_default-linked_frequencies-clause-err c = λ other. absurd (other c.out_of_memory-in_default-linked_frequencies.ensures)

pub returns-clause-ok : goal.returns-clause-ok
returns-clause-ok c = record {
  in_order = ordered (goal.at.returns-clause-ok c).In-Ok-order_of_rows;
  fine = of_none _ _ _ (stops_fine (goal.at.returns-clause-ok c).In-Ok-stations) (times_fine (goal.at.returns-clause-ok c).In-Ok-judged)
      (frequencies_as_given (held_at c.args.indices.now) c.deref-5.result.now c.args.tables.now.frequencies.items None c.deref-5.ensures.value
      c.in-Ok-repeating.ensures.fine);
  stations = c.in-Ok-stations.ensures.ok ∙ ap (map (station_of (held_at c.args.names.now))) c.deref-3.ensures.value;
  trips = c.in-Ok.ensures;
  stops = c.in-Ok-judged.ensures.stops;
  flex = flex_as_given c.args.tables.now.stop_times.rows.items (trips_by (held_at c.args.indices.now) c.args.tables.now) c.deref-4.result.now
      c.in-Ok-judged.judged.1.items c.in-Ok-judged.judged.1.items (sym (c.deref-4.ensures.value ∙ c.in-Ok.ensures)) refl
      c.in-Ok-judged.ensures.flex;
  repeats = λ i lt. c.in-Ok-repeating.ensures.ok i (omega arith) ∙ ap (λ rows. is_repeated (held_at c.args.indices.now) rows i) c.deref-5.ensures.value;
  frequencies = c.in-Ok-linked_frequencies.ensures ∙ ap (λ rows. map (frequency_of (held_at c.args.indices.now)) rows) c.deref-6.ensures.value;
  transfers_fine = subst (λ (rows : List TransferRow). IfOk c.transfers-transfers.result
      (λ kept. first_fault_of kinds.Transfers (transfer_fault (held_at c.args.names.now)) rows ≡ None)) c.deref-7.ensures.value
      c.transfers-transfers.ensures.fine;
  transfers = subst (λ (rows : List TransferRow). IfOk c.transfers-transfers.result
      (λ kept. AllZip (IsTransferOf (held_at c.args.names.now)) (filter is_kept rows) kept.items)) c.deref-7.ensures.value c.transfers-transfers.ensures.ok;
  transfers_wrong = subst (λ (rows : List TransferRow). IfErr c.transfers-transfers.result
      (λ fault. fault ≢ no_memory → first_fault_of kinds.Transfers (transfer_fault (held_at c.args.names.now)) rows ≡ Some fault))
      c.deref-7.ensures.value c.transfers-transfers.ensures.err;
}
