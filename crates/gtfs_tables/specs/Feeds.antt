-- The feed of the tables, or their first fault.
use Rattle.std.specs.Prelude.{◌≡◌, ◌≢◌, ◌+◌, ◌<◌, not, false, IfOk, IfErr, ℕ, List, [], ◌∷◌, length, map, filter}
use Rattle.std.specs.Prelude.{count_by, option_map, Option, Some, None, Bool}
use Rattle.std.specs.List.{AllZip, slice_index_or}
use Rattle.std.specs.Option.{option_or}
use Rattle.std.specs.String.{string_bytes}
use Rattle.gtfs_rows.specs.Tables.{is_stop}
use Rattle.gtfs_rows.specs.declared.fault.FaultKind.{FaultKind}
use Rattle.gtfs_rows.specs.declared.fault.Table.TheVariants as tables
use Rattle.gtfs_rows.specs.declared.fault.TableFault.{TableFault}
use Rattle.gtfs_rows.specs.declared.rows.StopRow.{StopRow}
use Rattle.gtfs_rows.specs.declared.rows.StopTimeRow.{StopTimeRow}
use Rattle.gtfs_rows.specs.declared.rows.TripRow.{TripRow}
use Rattle.gtfs_tables.specs.First.{first_below, first_fault_of, no_memory}
use Rattle.gtfs_tables.specs.Names.{stop_named, trip_named}
use Rattle.gtfs_tables.specs.Order.{IsInOrder, first_row_of, of_trip, row_of, sort_keys_in}
use Rattle.gtfs_tables.specs.Rows.{IsTransferOf, frequency_fault, frequency_of, is_flex_id, is_kept, is_repeated}
use Rattle.gtfs_tables.specs.Rows.{linked_fault, linked_row, parent_fault, station_of, transfer_fault}
use Rattle.gtfs_tables.specs.Times.{first_wrong, is_flex}
use Rattle.gtfs_tables.specs.declared.joining.Links.{Links}
use Rattle.gtfs_tables.specs.declared.names.StopIdTarget.{StopIdTarget}
use Rattle.gtfs_tables.specs.declared.order.RowOrder.{RowOrder}
use Rattle.gtfs_tables.specs.declared.order.SortKey.{SortKey}
use Rattle.gtfs_tables.specs.declared.tables.Feed.{Feed}
use Rattle.gtfs_tables.specs.declared.tables.Stop.{Stop}
use Rattle.gtfs_tables.specs.declared.tables.Tables.{Tables}
use Rattle.gtfs_tables.specs.declared.tables.Trip.{Trip}

-- In this file `named` gives what an id of stops.txt names, and `placed` the index of the trip that an id of trips.txt names.

-- what the trip_ids and the stop_ids of stop_times.txt name
abbrev pub trips_by : (List ℕ → Option ℕ) → Tables → List (Option ℕ)
trips_by placed t = map (λ id. placed (string_bytes id)) t.stop_times.trips.keys

abbrev pub stops_by : (List ℕ → Option StopIdTarget) → Tables → List (Option StopIdTarget)
stops_by named t = map (λ id. named (string_bytes id)) t.stop_times.stops.keys

-- the rows of stop_times.txt in order, each id replaced by what it names
abbrev pub link_by : (List ℕ → Option StopIdTarget) → (List ℕ → Option ℕ) → Tables → StopTimeRow → StopTimeRow
link_by named placed t row = linked_row (trips_by placed t) (stops_by named t) (is_flex_id t.stop_times.rows.items row.trip) row

abbrev pub rows_by : (List ℕ → Option StopIdTarget) → (List ℕ → Option ℕ) → Tables → List SortKey → List StopTimeRow
rows_by named placed t sort_keys = map (λ sort_key. link_by named placed t (row_of t.stop_times.rows.items sort_key.number)) sort_keys

-- the same rows, given lists of what the ids name and an order
abbrev pub linked_by : List (Option ℕ) → List (Option StopIdTarget) → RowOrder → List StopTimeRow → List StopTimeRow
linked_by trips stops order rows =
    map (λ sort_key. linked_row trips stops (is_flex_id rows (row_of rows sort_key.number).trip) (row_of rows sort_key.number)) (sort_keys_in trips order rows)

-- ---- the faults, in the order in which they are judged

-- what is wrong with the ids of a row of stop_times.txt
abbrev pub stop_time_fault : (List ℕ → Option StopIdTarget) → (List ℕ → Option ℕ) → Tables → StopTimeRow → Option FaultKind
stop_time_fault named placed t row = linked_fault (trips_by placed t) (stops_by named t) (is_flex_id t.stop_times.rows.items row.trip) row

-- the first fault of an id: of the parents of stops, then of stop times, then of frequencies
abbrev pub naming_fault : (List ℕ → Option StopIdTarget) → (List ℕ → Option ℕ) → Tables → Option TableFault
naming_fault named placed t =
    option_or (first_fault_of tables.Stops (parent_fault named) t.stops.items)
    (option_or (first_fault_of tables.StopTimes (stop_time_fault named placed t) t.stop_times.rows.items)
    (first_fault_of tables.Frequencies (frequency_fault placed) t.frequencies.items))

-- the fault of a trip's row, with the number of its record
abbrev pub fault_of_row : List SortKey → ℕ × FaultKind → TableFault
fault_of_row sort_keys wrong = record { file = tables.StopTimes; row = slice_index_or (map (λ sort_key. sort_key.number) sort_keys) wrong.0 0; kind = wrong.1 }

-- the first fault in the rows of the trip of an index
abbrev pub trip_fault : Bool → List SortKey → List StopTimeRow → ℕ → Option TableFault
trip_fault strict sort_keys rows t = option_map (fault_of_row (of_trip sort_keys t sort_keys)) (first_wrong strict (of_trip sort_keys t rows))

-- the first fault: of an id, then of the times of trips, then of transfers
abbrev pub first_fault : (List ℕ → Option StopIdTarget) → (List ℕ → Option ℕ) → Bool → Tables → List SortKey → Option TableFault
first_fault named placed strict t sort_keys =
    option_or (naming_fault named placed t)
    (option_or (first_below (trip_fault strict sort_keys (rows_by named placed t sort_keys)) (length t.trips.items))
    (first_fault_of tables.Transfers (transfer_fault named) t.transfers.items))

-- ---- the feed

-- a stop, with its station if it has one
abbrev pub feed_stop : (List ℕ → Option StopIdTarget) → StopRow → Stop
feed_stop named row = record { id = row.id; station = station_of named row }

-- the trip of an index, and the trips from an index on
abbrev pub feed_trip : List SortKey → List StopTimeRow → (ℕ → Bool) → ℕ → TripRow → Trip
feed_trip sort_keys rows repeats t row = record {
  id = row.id;
  service = row.service;
  first = first_row_of sort_keys t;
  end = first_row_of sort_keys (t + 1);
  repeats = repeats t;
  flex = is_flex (of_trip sort_keys t rows);
}

abbrev pub feed_trips : List SortKey → List StopTimeRow → (ℕ → Bool) → ℕ → List TripRow → List Trip
feed_trips sort_keys rows repeats t [] = []
feed_trips sort_keys rows repeats t (row ∷ rest) = feed_trip sort_keys rows repeats t row ∷ feed_trips sort_keys rows repeats (t + 1) rest

-- the feed of tables whose ids name these: its stops, trips, rows in order, frequencies and transfers, how many transfers were skipped,
-- and the two calendars unchanged
pub record IsFeed (named : List ℕ → Option StopIdTarget) (placed : List ℕ → Option ℕ) (t : Tables) (sort_keys : List SortKey) (feed : Feed) : Type 0 where
  pub stops : feed.stops.items ≡ map (feed_stop named) (filter is_stop t.stops.items)
  pub trips : feed.trips.items ≡ feed_trips sort_keys (rows_by named placed t sort_keys) (is_repeated placed t.frequencies.items) 0 t.trips.items
  pub stop_times : feed.stop_times.items ≡ rows_by named placed t sort_keys
  pub frequencies : feed.frequencies.items ≡ map (frequency_of placed) t.frequencies.items
  pub transfers : AllZip (IsTransferOf named) (filter is_kept t.transfers.items) feed.transfers.items
  pub skipped : feed.skipped ≡ count_by (λ row. not (is_kept row)) t.transfers.items
  pub calendar : feed.calendar ≡ t.calendar
  pub calendar_dates : feed.calendar_dates ≡ t.calendar_dates

-- the tables have no fault, and are joined to this feed; an id stands for the first row that has it
pub record IsJoined (strict : Bool) (t : Tables) (feed : Feed) : Type 0 where
  pub sort_keys : List SortKey
  pub in_order : IsInOrder (trips_by (trip_named t.trips.items) t) t.stop_times.rows.items sort_keys
  pub faultless : first_fault (stop_named t.stops.items) (trip_named t.trips.items) strict t sort_keys ≡ None
  pub feed_is : IsFeed (stop_named t.stops.items) (trip_named t.trips.items) t sort_keys feed

-- the tables' first fault
pub record IsFirstFault (strict : Bool) (t : Tables) (fault : TableFault) : Type 0 where
  pub sort_keys : List SortKey
  pub in_order : IsInOrder (trips_by (trip_named t.trips.items) t) t.stop_times.rows.items sort_keys
  pub first : first_fault (stop_named t.stops.items) (trip_named t.trips.items) strict t sort_keys ≡ Some fault

-- ---- the tables once their ids are replaced

-- the ids are looked up without a fault, except that a fault of the transfers is kept until the trips are judged
pub record IsLinked (named : List ℕ → Option StopIdTarget) (placed : List ℕ → Option ℕ) (t : Tables) (links : Links) : Type 0 where
  pub in_order : IsInOrder (trips_by placed t) t.stop_times.rows.items (sort_keys_in (trips_by placed t) links.order t.stop_times.rows.items)
  pub fine : naming_fault named placed t ≡ None
  pub stations : links.stations.items ≡ map (station_of named) t.stops.items
  pub trips : links.names.trips.items ≡ trips_by placed t
  pub stops : links.names.stops.items ≡ stops_by named t
  pub flex : (id : ℕ) → id < length (trips_by placed t) → slice_index_or links.names.flex.items id false ≡ is_flex_id t.stop_times.rows.items id
  pub repeats : (i : ℕ) → i < length t.trips.items → slice_index_or links.repeats.items i false ≡ is_repeated placed t.frequencies.items i
  pub frequencies : links.frequencies.items ≡ map (frequency_of placed) t.frequencies.items
  pub transfers_fine : IfOk links.transfers (λ kept. first_fault_of tables.Transfers (transfer_fault named) t.transfers.items ≡ None)
  pub transfers : IfOk links.transfers (λ kept. AllZip (IsTransferOf named) (filter is_kept t.transfers.items) kept.items)
  pub transfers_wrong : IfErr links.transfers (λ fault. fault ≢ no_memory
      → first_fault_of tables.Transfers (transfer_fault named) t.transfers.items ≡ Some fault)

-- the first fault of an id
pub record IsNamingFault (named : List ℕ → Option StopIdTarget) (placed : List ℕ → Option ℕ) (t : Tables) (fault : TableFault) : Type 0 where
  pub sort_keys : List SortKey
  pub in_order : IsInOrder (trips_by placed t) t.stop_times.rows.items sort_keys
  pub first : naming_fault named placed t ≡ Some fault
