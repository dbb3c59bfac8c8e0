use Rattle.std.proofs.Common.{◌∙◌, List, Option, ap, inl, inr, refl, subst, sym, ℕ}
use Rattle.std.specs.Prelude.{IsSortedBy, count_by, filter, not}
use Rattle.std.specs.Global.{Vec}
use Rattle.std.specs.List.{AllZip}
use Rattle.gtfs_tables.specs.Feeds.{trips_by}
use Rattle.gtfs_tables.specs.Names.{stop_named, trip_named}
use Rattle.gtfs_tables.specs.Order.{comes_before, sort_keys_in}
use Rattle.gtfs_tables.specs.Rows.{IsTransferOf, is_kept}
use Rattle.gtfs_tables.specs.declared.tables.Frequency.{Frequency}
use Rattle.gtfs_tables.proofs.JoinLemmas.{flex_as_given, none_first, of_ok, rows_are, transfer_first, trip_first, trips_are}
use Rattle.gtfs_tables.proofs.JoinedLemmas.{joined_names, joined_trips}
use Rattle.gtfs_tables.proofs.joining.feed_of.Goals as goal

pub made_of-requires-clause-flex : goal.made_of-requires-clause-flex
made_of-requires-clause-flex c = flex_as_given c.args.tables.stop_times.rows.items c.args.links.names.trips.items
    (trips_by (trip_named c.args.tables.trips.items) c.args.tables) c.args.links.names.flex.items c.args.links.names.flex.items
    c.requires.trips refl c.requires.flex

pub made_of-requires-clause-rising : goal.made_of-requires-clause-rising
made_of-requires-clause-rising c = subst
    (λ (ts : List (Option ℕ)). IsSortedBy comes_before (sort_keys_in ts c.args.links.order c.args.tables.stop_times.rows.items)) (sym c.requires.trips)
    c.requires.in_order.rising

pub returns-clause-err : goal.returns-clause-err
returns-clause-err c = λ other. elim (c.in-Err.ensures.err other) [
  | inl trips ↦ trip_first c.args.strict c.args.tables c.args.links c.requires c.in-Err.fault trips
  | inr transfers ↦ transfer_first c.args.strict c.args.tables c.args.links c.requires c.in-Err.fault transfers.0 transfers.1 other
]

pub returns-in-Ok-clause-ok : goal.returns-in-Ok-clause-ok
returns-in-Ok-clause-ok c = record {
  sort_keys = sort_keys_in (trips_by (trip_named c.args.tables.trips.items) c.args.tables) c.args.links.order c.args.tables.stop_times.rows.items;
  in_order = c.requires.in_order;
  faultless = none_first c.args.strict c.args.tables c.args.links c.requires c.in-Ok.made.transfers c.in-Ok.ensures.fine c.in-Ok.ensures.transfers;
  feed_is = record {
    stops = c.in-Ok.ensures.stops (stop_named c.args.tables.stops.items) c.requires.stations;
    trips = trips_are c.args.strict c.args.tables c.args.links c.requires c.in-Ok.made.trips.items c.in-Ok.ensures.trips;
    stop_times = c.in-Ok.ensures.rows ∙ rows_are c.args.strict c.args.tables c.args.links c.requires;
    frequencies = ap (λ (kept : Vec Frequency). kept.items) c.in-Ok.ensures.frequencies ∙ c.requires.frequencies;
    transfers = of_ok c.args.links.transfers c.in-Ok.made.transfers (λ kept. AllZip (IsTransferOf (stop_named c.args.tables.stops.items))
        (filter is_kept c.args.tables.transfers.items) kept.items) c.in-Ok.ensures.transfers c.requires.transfers;
    skipped = c.skipped_in-skipped.ensures ∙ ap (count_by (λ row. not (is_kept row))) c.deref.ensures.value;
    calendar = refl;
    calendar_dates = refl;
  };
}

pub returns-in-Ok-clause-hash : goal.returns-in-Ok-clause-hash
returns-in-Ok-clause-hash c = c.hasher-hash.ensures

-- the trips of what was made are runnable, and its transfers name its stops
pub invariant_of-result : goal.invariant_of-result
invariant_of-result c =
    let stops = c.in-Ok.ensures.stops (stop_named c.args.tables.stops.items) c.requires.stations in
    record {
      runnable = joined_trips c.args.strict c.args.tables
          (sort_keys_in (trips_by (trip_named c.args.tables.trips.items) c.args.tables) c.args.links.order c.args.tables.stop_times.rows.items)
          c.in-Ok.made.stops.items c.in-Ok.made.stop_times.items c.in-Ok.made.trips.items
          (none_first c.args.strict c.args.tables c.args.links c.requires c.in-Ok.made.transfers c.in-Ok.ensures.fine c.in-Ok.ensures.transfers)
          stops
          (c.in-Ok.ensures.rows ∙ rows_are c.args.strict c.args.tables c.args.links c.requires)
          (trips_are c.args.strict c.args.tables c.args.links c.requires c.in-Ok.made.trips.items c.in-Ok.ensures.trips);
      named = joined_names c.args.tables c.in-Ok.made.stops.items c.in-Ok.made.transfers.items stops
          (of_ok c.args.links.transfers c.in-Ok.made.transfers (λ kept. AllZip (IsTransferOf (stop_named c.args.tables.stops.items))
          (filter is_kept c.args.tables.transfers.items) kept.items) c.in-Ok.ensures.transfers c.requires.transfers);
    }
