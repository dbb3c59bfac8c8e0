-- The tables of a feed's files, and the first thing that is wrong with them.
use Rattle.std.specs.Prelude.{◌≡◌, ◌≢◌, ◌∷◌, ℕ, List, [], Option, Some, None, ⊤}
use Rattle.gtfs_rows.specs.Tables.{HoldsAgencies, HoldsCalendar, HoldsCalendarDates, HoldsFrequencies, HoldsStopTimes, HoldsStopsWithin, HoldsTransfers}
use Rattle.gtfs_rows.specs.Tables.{HoldsTripsWithin, IsFaultOf, IsStopsFault, IsTripsFault}
use Rattle.feed_files.specs.Files.{Holds}
use Rattle.feed_files.specs.Outcome.{RefusedOrFailed}
use Rattle.feed_files.specs.declared.reading.ReadFault.{ReadFault}
use Rattle.gtfs_rows.specs.FaultNumber.{file_name}
use Rattle.gtfs_rows.specs.declared.fault.FaultKind.{FaultKind}
use Rattle.gtfs_rows.specs.declared.fault.FaultKind.TheVariants as kinds
use Rattle.gtfs_rows.specs.declared.fault.Table.{Table}
use Rattle.gtfs_rows.specs.declared.fault.Table.TheVariants as tables
use Rattle.gtfs_rows.specs.declared.rows.AgencyRow.{AgencyRow}
use Rattle.gtfs_rows.specs.declared.stop_times.StopTimes.{StopTimes}
use Rattle.gtfs_rows.specs.declared.rows.CalendarRow.{CalendarRow}
use Rattle.gtfs_rows.specs.declared.rows.CalendarDateRow.{CalendarDateRow}
use Rattle.gtfs_rows.specs.declared.rows.StopRow.{StopRow}
use Rattle.gtfs_rows.specs.declared.rows.TripRow.{TripRow}
use Rattle.gtfs_tables.specs.declared.tables.Tables.{Tables}
use Rattle.gtfs_rows.specs.declared.limited.TheConstants.{MAX_STOPS, MAX_TRIPS}

-- what the file of each table holds, none if there is no such file
abbrev pub Content : Type 0
Content = Table → Option (List ℕ)

-- a feed's files are known to hold this
abbrev pub Tells : Holds → Content → Type 0
Tells holds content = (table : Table) → holds (file_name table) ≡ Some (content table)

-- the tables whose files are read before a table's
abbrev pub earlier : Table → List Table
earlier tables.Agency = []
earlier tables.Stops = tables.Agency ∷ []
earlier tables.Trips = tables.Agency ∷ tables.Stops ∷ []
earlier tables.StopTimes = tables.Agency ∷ tables.Stops ∷ tables.Trips ∷ []
earlier tables.Calendar = tables.Agency ∷ tables.Stops ∷ tables.Trips ∷ tables.StopTimes ∷ []
earlier tables.CalendarDates = tables.Agency ∷ tables.Stops ∷ tables.Trips ∷ tables.StopTimes ∷ tables.Calendar ∷ []
earlier tables.Transfers = tables.Agency ∷ tables.Stops ∷ tables.Trips ∷ tables.StopTimes ∷ tables.Calendar ∷ tables.CalendarDates ∷ []
earlier tables.Frequencies = tables.Agency ∷ tables.Stops ∷ tables.Trips ∷ tables.StopTimes ∷ tables.Calendar ∷ tables.CalendarDates ∷ tables.Transfers ∷ []

-- this holds of the bytes of a required file, and of those of a file that may be missing
abbrev pub Required : (List ℕ → Type 0) → Option (List ℕ) → Type 0
Required Is None = ⊥
Required Is (Some bytes) = Is bytes

abbrev pub Optional : Type 0 → (List ℕ → Type 0) → Option (List ℕ) → Type 0
Optional missing Is None = missing
Optional missing Is (Some bytes) = Is bytes

-- the rows of the required files
pub record HoldsRequired (content : Content) (agencies : List AgencyRow) (stops : List StopRow) (trips : List TripRow) (stop_times : StopTimes) : Type 0 where
  pub agency_txt : Required (λ bytes. HoldsAgencies bytes agencies) (content tables.Agency)
  pub stops_txt : Required (λ bytes. HoldsStopsWithin MAX_STOPS bytes stops) (content tables.Stops)
  pub trips_txt : Required (λ bytes. HoldsTripsWithin MAX_TRIPS bytes trips) (content tables.Trips)
  pub stop_times_txt : Required (λ bytes. HoldsStopTimes bytes stop_times) (content tables.StopTimes)

-- the rows of the two calendars, at least one of which is there
pub record HoldsCalendars (content : Content) (calendar : List CalendarRow) (dates : List CalendarDateRow) : Type 0 where
  pub calendar_txt : Optional (calendar ≡ []) (λ bytes. HoldsCalendar bytes calendar) (content tables.Calendar)
  pub calendar_dates_txt : Optional (dates ≡ []) (λ bytes. HoldsCalendarDates bytes dates) (content tables.CalendarDates)
  pub some_calendar : content tables.Calendar ≡ None → content tables.CalendarDates ≢ None

-- the tables are those that the files hold
pub record HoldsTables (content : Content) (t : Tables) : Type 0 where
  pub required : HoldsRequired content t.agencies.items t.stops.items t.trips.items t.stop_times
  pub calendars : HoldsCalendars content t.calendar.items t.calendar_dates.items
  pub transfers : Optional (t.transfers.items ≡ []) (λ bytes. HoldsTransfers bytes t.transfers.items) (content tables.Transfers)
  pub frequencies : Optional (t.frequencies.items ≡ []) (λ bytes. HoldsFrequencies bytes t.frequencies.items) (content tables.Frequencies)

-- the fault that a file is missing
abbrev pub IsMissing : ℕ → FaultKind → Type 0
IsMissing row kind = (row ≡ 0) × (kind ≡ kinds.MissingFile)

-- the fault of a required file, and of a file that may be missing
abbrev pub RequiredFault : (List ℕ → ℕ → FaultKind → Type 0) → Option (List ℕ) → ℕ → FaultKind → Type 0
RequiredFault IsFault None row kind = IsMissing row kind
RequiredFault IsFault (Some bytes) row kind = IsFault bytes row kind

abbrev pub OptionalFault : (List ℕ → ℕ → FaultKind → Type 0) → Option (List ℕ) → ℕ → FaultKind → Type 0
OptionalFault IsFault None row kind = ⊥
OptionalFault IsFault (Some bytes) row kind = IsFault bytes row kind

-- the fault of calendar.txt, which may be missing unless calendar_dates.txt is missing too; both were asked for then
abbrev pub CalendarFault : Option (List ℕ) → Option (List ℕ) → ℕ → FaultKind → Type 0
CalendarFault None dates row kind = (dates ≡ None) × IsMissing row kind
CalendarFault (Some bytes) dates row kind = IsFaultOf tables.Calendar bytes row kind

-- the table's file has this fault at the record of this number
abbrev pub FaultIn : Content → Table → ℕ → FaultKind → Type 0
FaultIn content tables.Agency = RequiredFault (IsFaultOf tables.Agency) (content tables.Agency)
FaultIn content tables.Stops = RequiredFault (IsStopsFault MAX_STOPS) (content tables.Stops)
FaultIn content tables.Trips = RequiredFault (IsTripsFault MAX_TRIPS) (content tables.Trips)
FaultIn content tables.StopTimes = RequiredFault (IsFaultOf tables.StopTimes) (content tables.StopTimes)
FaultIn content tables.Calendar = CalendarFault (content tables.Calendar) (content tables.CalendarDates)
FaultIn content tables.CalendarDates = OptionalFault (IsFaultOf tables.CalendarDates) (content tables.CalendarDates)
FaultIn content tables.Transfers = OptionalFault (IsFaultOf tables.Transfers) (content tables.Transfers)
FaultIn content tables.Frequencies = OptionalFault (IsFaultOf tables.Frequencies) (content tables.Frequencies)

-- the bytes of a file hold rows
abbrev pub HasRows : {R : Type 0} → (List ℕ → R → Type 0) → List ℕ → Type 0
HasRows {R} Holds bytes = (rows : R) × Holds bytes rows

-- nothing is wrong with a table's file; calendar_dates.txt may be missing if calendar.txt is there
abbrev pub IsFine : Content → Table → Type 0
IsFine content tables.Agency = Required (HasRows HoldsAgencies) (content tables.Agency)
IsFine content tables.Stops = Required (HasRows (HoldsStopsWithin MAX_STOPS)) (content tables.Stops)
IsFine content tables.Trips = Required (HasRows (HoldsTripsWithin MAX_TRIPS)) (content tables.Trips)
IsFine content tables.StopTimes = Required (HasRows HoldsStopTimes) (content tables.StopTimes)
IsFine content tables.Calendar = Optional ⊤ (HasRows HoldsCalendar) (content tables.Calendar)
IsFine content tables.CalendarDates = Optional (content tables.Calendar ≢ None) (HasRows HoldsCalendarDates) (content tables.CalendarDates)
IsFine content tables.Transfers = Optional ⊤ (HasRows HoldsTransfers) (content tables.Transfers)
IsFine content tables.Frequencies = Optional ⊤ (HasRows HoldsFrequencies) (content tables.Frequencies)

abbrev pub AreFine : Content → List Table → Type 0
AreFine content [] = ⊤
AreFine content (table ∷ rest) = IsFine content table × AreFine content rest

-- nothing is wrong with the files that are read before a table's
abbrev pub FineBefore : Content → Table → Type 0
FineBefore content table = AreFine content (earlier table)

-- the rows that were read are those of the file; there are none if there is no file
abbrev pub IsHeld : {R : Type 0} → (List ℕ → R → Type 0) → Option (List ℕ) → Option R → Type 0
IsHeld Is None None = ⊤
IsHeld Is None (Some rows) = ⊥
IsHeld Is (Some bytes) None = ⊥
IsHeld Is (Some bytes) (Some rows) = Is bytes rows

-- why one file's rows can't be read: memory ran out, the file has this fault, or its read failed
abbrev pub NoRows : Table → (ℕ → FaultKind → Type 0) → ReadFault → Type 0
NoRows table IsFault = RefusedOrFailed (λ fault. (fault.file ≡ table)
    × (fault.kind ≢ kinds.OutOfMemory → IsFault fault.row fault.kind)) (λ failed. failed ≡ table)

-- why a feed's tables can't be read, while nothing is wrong with the files before: memory ran out, the file has this fault, or its read failed
abbrev pub NoTables : Content → ReadFault → Type 0
NoTables content = RefusedOrFailed (λ fault. FineBefore content fault.file
    × (fault.kind ≢ kinds.OutOfMemory → FaultIn content fault.file fault.row fault.kind)) (FineBefore content)
