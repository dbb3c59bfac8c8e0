-- The eight files of a feed: their columns, the values that their records spell, what can be wrong with them, and the rows
-- that their bytes hold.
use Rattle.std.specs.Prelude.{◌≡◌, ◌≢◌, ◌<◌, ◌≤◌, ◌==◌, ◌&&◌, ◌⊎◌, not, if◌then◌else◌, ℕ, List, [], ◌∷◌, ◌++◌, length, map, slice_index_or, option_map, Option}
use Rattle.std.specs.Prelude.{Some, None, Bool, String, true, false, codes, count_by}
use Rattle.std.specs.List.{AllZip, list_any}
use Rattle.std.specs.Str.{bytes_eq, is_utf8}
use Rattle.std.specs.String.{string_bytes}
use Rattle.std.specs.declared.alloc.Global.{Global}
use Rattle.gtfs_rows.specs.Source.{IsReading, Record, last_of, left_of, table_records}
use Rattle.gtfs_rows.specs.Cells.{ColumnIndices, cell, has_required, indices_of}
use Rattle.gtfs_rows.specs.Faults.{Judge, fault_if, fault_unless, first_fault, length_first, or_fault}
use Rattle.gtfs_rows.specs.Ids.{StandsAt, first_given, first_seen}
use Rattle.gtfs_rows.specs.Values.{day_of, number_of, time_of}
use Rattle.gtfs_rows.specs.declared.fault.FaultKind.{FaultKind}
use Rattle.gtfs_rows.specs.declared.fault.FaultKind.TheVariants as kinds
use Rattle.gtfs_rows.specs.declared.fault.Table.{Table}
use Rattle.gtfs_rows.specs.declared.fault.Table.TheVariants as tables
use Rattle.gtfs_rows.specs.declared.fault.TableFault.{TableFault}
use Rattle.gtfs_rows.specs.declared.columns.Key.{Key}
use Rattle.gtfs_rows.specs.declared.columns.Key.TheVariants as keys
use Rattle.gtfs_rows.specs.declared.records.Records.{Records}
use Rattle.gtfs_rows.specs.declared.rows.AgencyRow.{AgencyRow}
use Rattle.gtfs_rows.specs.declared.rows.CalendarDateRow.{CalendarDateRow}
use Rattle.gtfs_rows.specs.declared.rows.CalendarRow.{CalendarRow}
use Rattle.gtfs_rows.specs.declared.rows.Exception.{Exception}
use Rattle.gtfs_rows.specs.declared.rows.Exception.TheVariants as exceptions
use Rattle.gtfs_rows.specs.declared.rows.FrequencyRow.{FrequencyRow}
use Rattle.gtfs_rows.specs.declared.rows.Location.{Location}
use Rattle.gtfs_rows.specs.declared.rows.Location.TheVariants as locations
use Rattle.gtfs_rows.specs.declared.rows.StopRow.{StopRow}
use Rattle.gtfs_rows.specs.declared.rows.StopTimeRow.{StopTimeRow}
use Rattle.gtfs_rows.specs.declared.rows.TransferKind.{TransferKind}
use Rattle.gtfs_rows.specs.declared.rows.TransferKind.TheVariants as transfers
use Rattle.gtfs_rows.specs.declared.rows.TransferRow.{TransferRow}
use Rattle.gtfs_rows.specs.declared.rows.TripRow.{TripRow}
use Rattle.gtfs_rows.specs.declared.stop_times.StopTimes.{StopTimes}

-- a record's value in the k-th of a table's columns, counted from 0
abbrev pub value : ColumnIndices → ℕ → Record → List ℕ
value indices k r = cell (slice_index_or indices k None) r

-- what is said of the record that was read last
abbrev pub of_last : {X : Type 0} → (ColumnIndices → Record → X) → Records → X
of_last said records = said records.indices.items (last_of records)

-- the value of the record that was read last in the k-th of its table's columns
abbrev pub shown : Records → ℕ → List ℕ
shown records k = value records.indices.items k (last_of records)

-- a record's key: the text of its key column, or the texts of both joined; or the text that all records share; blank if the table has none
abbrev pub key_text : Key → ColumnIndices → Record → List ℕ
key_text keys.Nothing indices r = []
key_text (keys.Column k) indices r = value indices k r
key_text (keys.Columns j k) indices r = value indices j r ++ value indices k r
key_text (keys.Shared k) indices r = value indices k r

-- what is wrong with a record's key: an earlier record has it, or the text that all share differs from the first record's
abbrev pub key_fault : Key → ColumnIndices → Judge
key_fault keys.Nothing indices before r = None
key_fault (keys.Shared k) indices [] r = None
key_fault (keys.Shared k) indices (first ∷ rest) r = fault_if (not (bytes_eq (value indices k r) (value indices k first))) kinds.ZonesDiffer
key_fault key indices before r = fault_if (list_any (bytes_eq (key_text key indices r)) (map (key_text key indices) before)) kinds.IdTwice

-- the keys of the records, or the text that they all share
abbrev pub texts_kept : Key → ColumnIndices → List Record → List (List ℕ)
texts_kept keys.Nothing indices records = []
texts_kept (keys.Shared k) indices [] = []
texts_kept (keys.Shared k) indices (first ∷ rest) = value indices k first ∷ []
texts_kept key indices records = map (key_text key indices) records

-- the set holds them, in this order
abbrev pub AreKept : Key → ColumnIndices → List Record → List (String Global) → Type 0
AreKept key indices records keys = map string_bytes keys ≡ texts_kept key indices records

-- ---- agency.txt: the time zone, which all records share

-- the row has the time zone of the record
pub record SpellsAgency (indices : ColumnIndices) (r : Record) (row : AgencyRow) : Type 0 where
  pub zone : string_bytes row.zone ≡ value indices 0 r

-- ---- stops.txt: id, location_type, parent_station

-- the kind of place that a location_type stands for: a stop unless it is a number from 1 to 4
abbrev pub location_of : Option ℕ → Location
location_of None = locations.Stop
location_of (Some n) = if n == 1 then locations.Station else
    (if n == 2 then locations.Entrance else (if n == 3 then locations.Node else
    (if n == 4 then locations.BoardingArea else locations.Stop)))

-- the row has the record's id, the kind of place, and the parent_station, blank if there is none
pub record SpellsStop (indices : ColumnIndices) (r : Record) (row : StopRow) : Type 0 where
  pub id : string_bytes row.id ≡ value indices 0 r
  pub location : row.location ≡ location_of (number_of (value indices 1 r))
  pub parent : string_bytes row.parent ≡ value indices 2 r

-- ---- trips.txt: service_id, trip_id

-- the row has the record's ids of the service and of the trip
pub record SpellsTrip (indices : ColumnIndices) (r : Record) (row : TripRow) : Type 0 where
  pub service : string_bytes row.service ≡ value indices 0 r
  pub id : string_bytes row.id ≡ value indices 1 r

-- ---- stop_times.txt: trip_id, arrival_time, departure_time, stop_id, stop_sequence, pickup_type, drop_off_type

-- the time of a text; none if it is blank or isn't a time
abbrev pub given_time : List ℕ → Option ℕ
given_time [] = None
given_time (b ∷ rest) = time_of (b ∷ rest)

-- the text is neither blank nor a time
abbrev pub time_fault : List ℕ → Option FaultKind
time_fault [] = None
time_fault (b ∷ rest) = fault_unless (time_of (b ∷ rest)) kinds.BadTime

-- what is wrong with a record: its arrival_time, then its departure_time, then its stop_sequence
abbrev pub stop_time_fault : ColumnIndices → Record → Option FaultKind
stop_time_fault indices r =
    or_fault (time_fault (value indices 1 r)) (or_fault (time_fault (value indices 2 r)) (fault_unless (number_of (value indices 4 r)) kinds.BadNumber))

-- passengers may board, or alight, unless the type is 1
abbrev pub is_available : Option ℕ → Bool
is_available None = true
is_available (Some n) = not (n == 1)

-- the index is that of the stop_id; none if the stop_id is blank
abbrev pub IsStopId : List (List ℕ) → Option ℕ → List ℕ → Type 0
IsStopId stops None text = text ≡ []
IsStopId stops (Some k) text = (text ≢ []) × StandsAt stops k text

-- the row has the values of the record; its trip and its stop are indices of the ids
pub record SpellsStopTime (trips stops : List (List ℕ)) (indices : ColumnIndices) (r : Record) (row : StopTimeRow) : Type 0 where
  pub trip : StandsAt trips row.trip (value indices 0 r)
  pub arrival : row.arrival ≡ given_time (value indices 1 r)
  pub departure : row.departure ≡ given_time (value indices 2 r)
  pub stop : IsStopId stops row.stop (value indices 3 r)
  pub sequence : number_of (value indices 4 r) ≡ Some row.sequence
  pub board : row.board ≡ is_available (number_of (value indices 5 r))
  pub alight : row.alight ≡ is_available (number_of (value indices 6 r))

-- the records spell the rows, and the ids are the trip_ids of the records, and their stop_ids that aren't blank: each
-- once, in the order in which they are first seen
pub record AreStopTimes (indices : ColumnIndices) (records : List Record) (t : StopTimes) : Type 0 where
  pub trips : map string_bytes t.trips.keys ≡ first_seen (map (value indices 0) records)
  pub stops : map string_bytes t.stops.keys ≡ first_given (map (value indices 3) records)
  pub rows : AllZip (SpellsStopTime (map string_bytes t.trips.keys) (map string_bytes t.stops.keys) indices) records t.rows.items

-- ---- calendar.txt: service_id, monday to sunday, start_date, end_date

-- whether a service runs: not if the number is 0, it does if it is 1; none for any other
abbrev pub flag_of : Option ℕ → Option Bool
flag_of None = None
flag_of (Some n) = if n == 0 then Some false else (if n == 1 then Some true else None)

-- all the values, if none is missing
abbrev pub all_some : {X : Type 0} → List (Option X) → Option (List X)
all_some [] = Some []
all_some (None ∷ rest) = None
all_some (Some x ∷ rest) = option_map (λ xs. x ∷ xs) (all_some rest)

-- whether a service runs on the weekday of the k-th column
abbrev pub weekday : ColumnIndices → Record → ℕ → Option Bool
weekday indices r k = flag_of (number_of (value indices k r))

-- whether a service runs on each weekday, Monday first; none if one of the seven columns is neither 0 nor 1
abbrev pub weekdays_of : ColumnIndices → Record → Option (List Bool)
weekdays_of indices r = all_some (map (weekday indices r) (1 ∷ 2 ∷ 3 ∷ 4 ∷ 5 ∷ 6 ∷ 7 ∷ []))

-- what is wrong with a record: its weekdays, then its start_date, then its end_date
abbrev pub calendar_fault : ColumnIndices → Record → Option FaultKind
calendar_fault indices r =
    or_fault (fault_unless (weekdays_of indices r) kinds.BadNumber)
    (or_fault (fault_unless (day_of (value indices 8 r)) kinds.BadDate) (fault_unless (day_of (value indices 9 r)) kinds.BadDate))

-- the row has the id of the service, the weekdays on which it runs, and its first and its last date
pub record SpellsCalendar (indices : ColumnIndices) (r : Record) (row : CalendarRow) : Type 0 where
  pub service : string_bytes row.service ≡ value indices 0 r
  pub weekdays : weekdays_of indices r ≡ Some row.weekdays
  pub start : day_of (value indices 8 r) ≡ Some row.start
  pub end : day_of (value indices 9 r) ≡ Some row.end

-- ---- calendar_dates.txt: service_id, date, exception_type

-- what an exception_type means: 1 adds the day, 2 removes it; none for any other
abbrev pub exception_of : Option ℕ → Option Exception
exception_of None = None
exception_of (Some n) = if n == 1 then Some exceptions.Added else (if n == 2 then Some exceptions.Removed else None)

-- what is wrong with a record: its date, then its exception_type
abbrev pub calendar_date_fault : ColumnIndices → Record → Option FaultKind
calendar_date_fault indices r =
    or_fault (fault_unless (day_of (value indices 1 r)) kinds.BadDate) (fault_unless (exception_of (number_of (value indices 2 r))) kinds.BadNumber)

-- the row has the id of the service, the date, and whether the date is added or removed
pub record SpellsCalendarDate (indices : ColumnIndices) (r : Record) (row : CalendarDateRow) : Type 0 where
  pub service : string_bytes row.service ≡ value indices 0 r
  pub day : day_of (value indices 1 r) ≡ Some row.day
  pub exception : exception_of (number_of (value indices 2 r)) ≡ Some row.exception

-- ---- transfers.txt: from_stop_id, to_stop_id, transfer_type, min_transfer_time, and the routes and trips

-- the text has no bytes
abbrev pub is_blank : List ℕ → Bool
is_blank text = length text == 0

-- the kind of transfer of this transfer_type: skipped if it isn't a number from 0 to 3
abbrev pub transfer_by : Option ℕ → TransferKind
transfer_by None = transfers.Skipped
transfer_by (Some n) = if n == 0 then transfers.Recommended else
    (if n == 1 then transfers.Timed else (if n == 2 then transfers.Minimum else
    (if n == 3 then transfers.Impossible else transfers.Skipped)))

-- the kind of transfer of a record: skipped if it names a route or a trip; a blank transfer_type counts as 0
abbrev pub transfer_of : ColumnIndices → Record → TransferKind
transfer_of indices r =
    if is_blank (value indices 4 r) && is_blank (value indices 5 r) && is_blank (value indices 6 r) && is_blank (value indices 7 r)
    then (if is_blank (value indices 2 r) then transfers.Recommended else transfer_by (number_of (value indices 2 r)))
    else transfers.Skipped

-- the row has the ids of both ends, the kind of transfer, and the min_transfer_time, if it is a number
pub record SpellsTransfer (indices : ColumnIndices) (r : Record) (row : TransferRow) : Type 0 where
  pub from : string_bytes row.from ≡ value indices 0 r
  pub to : string_bytes row.to ≡ value indices 1 r
  pub kind : row.kind ≡ transfer_of indices r
  pub seconds : row.seconds ≡ number_of (value indices 3 r)

-- ---- frequencies.txt: trip_id, start_time, end_time, headway_secs

-- what is wrong with a headway: it isn't a number, or it is 0
abbrev pub headway_fault : Option ℕ → Option FaultKind
headway_fault None = Some kinds.BadNumber
headway_fault (Some n) = fault_if (n == 0) kinds.BadHeadway

-- what is wrong with a record: its start_time, then its end_time, then its headway_secs
abbrev pub frequency_row_fault : ColumnIndices → Record → Option FaultKind
frequency_row_fault indices r =
    or_fault (fault_unless (time_of (value indices 1 r)) kinds.BadTime)
    (or_fault (fault_unless (time_of (value indices 2 r)) kinds.BadTime) (headway_fault (number_of (value indices 3 r))))

-- the row has the id of the trip, the start and the end in seconds, and the seconds from one start to the next
pub record SpellsFrequency (indices : ColumnIndices) (r : Record) (row : FrequencyRow) : Type 0 where
  pub trip : string_bytes row.trip ≡ value indices 0 r
  pub start : time_of (value indices 1 r) ≡ Some row.start
  pub end : time_of (value indices 2 r) ≡ Some row.end
  pub headway : number_of (value indices 3 r) ≡ Some row.headway

-- ---- any table

-- what is wrong with the values of a record of this table, if anything
abbrev pub values_of : Table → ColumnIndices → Record → Option FaultKind
values_of tables.StopTimes = stop_time_fault
values_of tables.Calendar = calendar_fault
values_of tables.CalendarDates = calendar_date_fault
values_of tables.Frequencies = frequency_row_fault
values_of _ = λ indices r. None

-- the columns of each file that are read
abbrev pub columns_of : Table → List (List ℕ)
columns_of tables.Agency = codes "agency_timezone" ∷ []
columns_of tables.Stops = codes "stop_id" ∷ codes "location_type" ∷ codes "parent_station" ∷ []
columns_of tables.Trips = codes "service_id" ∷ codes "trip_id" ∷ []
columns_of tables.StopTimes = codes "trip_id" ∷ codes "arrival_time" ∷ codes "departure_time" ∷ codes "stop_id"
    ∷ codes "stop_sequence" ∷ codes "pickup_type" ∷ codes "drop_off_type" ∷ []
columns_of tables.Calendar = codes "service_id" ∷ codes "monday" ∷ codes "tuesday" ∷ codes "wednesday"
    ∷ codes "thursday" ∷ codes "friday" ∷ codes "saturday" ∷ codes "sunday" ∷ codes "start_date" ∷ codes "end_date" ∷ []
columns_of tables.CalendarDates = codes "service_id" ∷ codes "date" ∷ codes "exception_type" ∷ []
columns_of tables.Transfers = codes "from_stop_id" ∷ codes "to_stop_id" ∷ codes "transfer_type"
    ∷ codes "min_transfer_time" ∷ codes "from_route_id" ∷ codes "to_route_id" ∷ codes "from_trip_id"
    ∷ codes "to_trip_id" ∷ []
columns_of tables.Frequencies = codes "trip_id" ∷ codes "start_time" ∷ codes "end_time" ∷ codes "headway_secs" ∷ []

-- how many of the columns are required; they come first
abbrev pub required_of : Table → ℕ
required_of tables.Agency = 1
required_of tables.Stops = 1
required_of tables.Trips = 2
required_of tables.StopTimes = 5
required_of tables.Calendar = 10
required_of tables.CalendarDates = 3
required_of tables.Transfers = 2
required_of tables.Frequencies = 4

-- which columns must be different in each record, or the same in all
abbrev pub key_of : Table → Key
key_of tables.Agency = keys.Shared 0
key_of tables.Stops = keys.Column 0
key_of tables.Trips = keys.Column 1
key_of tables.Calendar = keys.Column 0
key_of tables.CalendarDates = keys.Columns 0 1
key_of _ = keys.Nothing

-- what is wrong with a record: its values are judged before its key
abbrev pub judge_of : Table → ColumnIndices → Judge
judge_of table indices before r = or_fault (values_of table indices r) (key_fault (key_of table) indices before r)

-- the first fault of a table with these records, the header first, and the number of the record; 0 stands for the file
abbrev pub fault_in : Table → List Record → Option (ℕ × FaultKind)
fault_in table [] = Some (0, kinds.MissingColumn)
fault_in table (header ∷ records) =
    if has_required (required_of table) (indices_of (columns_of table) header)
    then first_fault (length_first (length header) (judge_of table (indices_of (columns_of table) header))) [] records
    else Some (0, kinds.MissingColumn)

-- the first fault of a file's bytes: the whole file must be UTF-8, then the required columns must be there, then the
-- records are judged in order
abbrev pub fault_of : Table → List ℕ → Option (ℕ × FaultKind)
fault_of table bytes = if is_utf8 bytes then fault_in table (table_records bytes) else Some (0, kinds.BadUtf8)

abbrev pub IsFaultOf : Table → List ℕ → ℕ → FaultKind → Type 0
IsFaultOf table bytes n kind = fault_of table bytes ≡ Some (n, kind)

-- the table holds the records behind the header
abbrev pub HoldsRecords : {T : Type 0} → Table → (ColumnIndices → List Record → T → Type 0) → List Record → T → Type 0
HoldsRecords table holds [] t = ⊥
HoldsRecords table holds (header ∷ records) t = holds (indices_of (columns_of table) header) records t

-- the bytes have no fault, and the table holds their records
abbrev pub HoldsFile : {T : Type 0} → Table → (ColumnIndices → List Record → T → Type 0) → List ℕ → T → Type 0
HoldsFile table holds bytes t = (fault_of table bytes ≡ None) × HoldsRecords table holds (table_records bytes) t

-- the bytes have no fault, and each record spells the row of the same index
abbrev pub HoldsRows : {R : Type 0} → Table → (ColumnIndices → Record → R → Type 0) → List ℕ → List R → Type 0
HoldsRows table spells bytes rows = HoldsFile table (λ indices records t. AllZip (spells indices) records t) bytes rows

-- the fault is that of the bytes of the table's file, unless memory ran out
abbrev pub IsRefusal : Table → List ℕ → TableFault → Type 0
IsRefusal table bytes fault = (fault.file ≡ table) × (fault.kind ≢ kinds.OutOfMemory → IsFaultOf table bytes fault.row fault.kind)

-- how the records behind the header that was read are judged
abbrev pub judge_by : Table → Records → Judge
judge_by table r = length_first r.width (judge_of table r.indices.items)

-- the bytes are UTF-8, their header was read last, as the only record, and has the required columns; its records are left
pub record IsOpened (table : Table) (bytes : List ℕ) (r : Records) : Type 0 where
  pub text : is_utf8 bytes ≡ true
  pub reading : IsReading r
  pub records : table_records bytes ≡ last_of r ∷ left_of r
  pub indices : r.indices.items ≡ indices_of (columns_of table) (last_of r)
  pub there : has_required (required_of table) r.indices.items ≡ true
  pub width : r.width ≡ length (last_of r)
  pub count : r.count ≡ 1
  pub lines : r.lines ≡ bytes

-- for each file: the bytes have no fault, and their records spell these rows, in order; those of stop_times.txt with the ids that they name
abbrev pub HoldsAgencies : List ℕ → List AgencyRow → Type 0
HoldsAgencies = HoldsRows tables.Agency SpellsAgency

abbrev pub HoldsStops : List ℕ → List StopRow → Type 0
HoldsStops = HoldsRows tables.Stops SpellsStop

abbrev pub HoldsTrips : List ℕ → List TripRow → Type 0
HoldsTrips = HoldsRows tables.Trips SpellsTrip

abbrev pub HoldsStopTimes : List ℕ → StopTimes → Type 0
HoldsStopTimes = HoldsFile tables.StopTimes AreStopTimes

abbrev pub HoldsCalendar : List ℕ → List CalendarRow → Type 0
HoldsCalendar = HoldsRows tables.Calendar SpellsCalendar

abbrev pub HoldsCalendarDates : List ℕ → List CalendarDateRow → Type 0
HoldsCalendarDates = HoldsRows tables.CalendarDates SpellsCalendarDate

abbrev pub HoldsTransfers : List ℕ → List TransferRow → Type 0
HoldsTransfers = HoldsRows tables.Transfers SpellsTransfer

abbrev pub HoldsFrequencies : List ℕ → List FrequencyRow → Type 0
HoldsFrequencies = HoldsRows tables.Frequencies SpellsFrequency

-- the kind of place is a stop
abbrev pub is_stop_at : Location → Bool
is_stop_at locations.Stop = true
is_stop_at _ = false

-- the row of stops.txt stands for a stop
abbrev pub is_stop : StopRow → Bool
is_stop row = is_stop_at row.location

-- the bytes hold the rows, and no more of them count than the limit allows
abbrev pub HoldsWithin : {R : Type 0} → (List ℕ → List R → Type 0) → (List R → ℕ) → ℕ → List ℕ → List R → Type 0
HoldsWithin Holds count limit bytes rows = Holds bytes rows × (count rows ≤ limit)

-- the first fault of the bytes; or, if they have none but more rows count than the limit allows, TooMany at record 0, the file
abbrev pub IsFaultWithin : {R : Type 0} → Table → (List ℕ → List R → Type 0) → (List R → ℕ) → ℕ → List ℕ → ℕ → FaultKind → Type 0
IsFaultWithin {R} table Holds count limit bytes n kind =
    IsFaultOf table bytes n kind
    ⊎ ((n ≡ 0) × (kind ≡ kinds.TooMany) × ((rows : List R) × Holds bytes rows × (limit < count rows)))

-- of the rows of stops.txt, those that stand for stops count
abbrev pub HoldsStopsWithin : ℕ → List ℕ → List StopRow → Type 0
HoldsStopsWithin = HoldsWithin HoldsStops (count_by is_stop)

-- all rows of trips.txt count
abbrev pub HoldsTripsWithin : ℕ → List ℕ → List TripRow → Type 0
HoldsTripsWithin = HoldsWithin HoldsTrips length

-- the first fault of stops.txt, or TooMany if there are more stops than the limit
abbrev pub IsStopsFault : ℕ → List ℕ → ℕ → FaultKind → Type 0
IsStopsFault = IsFaultWithin tables.Stops HoldsStops (count_by is_stop)

-- the first fault of trips.txt, or TooMany if there are more trips than the limit
abbrev pub IsTripsFault : ℕ → List ℕ → ℕ → FaultKind → Type 0
IsTripsFault = IsFaultWithin tables.Trips HoldsTrips length
