-- Facts on why a feed's tables can't be read.
use Rattle.std.proofs.Common.{◌≡◌, ◌≢◌, ◌∷◌, ◌++◌, [], ℕ, List, Option, None, Some, Vec, ap, refl, subst, sym}
use Rattle.std.specs.declared.alloc.Global.{Global}
use Rattle.std.specs.Prelude.{⊤}
use Rattle.gtfs_rows.specs.declared.fault.FaultKind.{FaultKind}
use Rattle.gtfs_rows.specs.declared.fault.Table.{Table}
use Rattle.gtfs_rows.specs.declared.fault.TableFault.{TableFault}
use Rattle.gtfs_rows.specs.declared.fault.FaultKind.TheVariants as kinds
use Rattle.gtfs_rows.specs.declared.fault.Table.TheVariants as tables
use Rattle.feed_files.specs.declared.reading.ReadFault.{ReadFault}
use Rattle.feed_files.specs.declared.reading.ReadFault.TheVariants as faults
use Rattle.gtfs_rows.specs.Tables.{HoldsAgencies, HoldsCalendar, HoldsCalendarDates, HoldsStopTimes, HoldsStopsWithin, HoldsTripsWithin, IsFaultOf}
use Rattle.gtfs_rows.specs.declared.limited.TheConstants.{MAX_STOPS, MAX_TRIPS}
use Rattle.gtfs_rows.specs.declared.rows.AgencyRow.{AgencyRow}
use Rattle.gtfs_rows.specs.declared.rows.CalendarDateRow.{CalendarDateRow}
use Rattle.gtfs_rows.specs.declared.rows.CalendarRow.{CalendarRow}
use Rattle.gtfs_rows.specs.declared.rows.StopRow.{StopRow}
use Rattle.gtfs_rows.specs.declared.rows.TripRow.{TripRow}
use Rattle.gtfs_rows.specs.declared.stop_times.StopTimes.{StopTimes}
use Rattle.feed_files.specs.Reading.{AreFine, CalendarFault, Content, FaultIn, FineBefore, HasRows, HoldsCalendars}
use Rattle.feed_files.specs.Reading.{HoldsRequired, IsFine, IsHeld, NoRows, NoTables, Optional}
use Rattle.feed_files.specs.Reading.{OptionalFault, Required, RequiredFault, earlier}

-- what stops the reading of one file stops that of the feed
pub no_tables : (content : Content) (table : Table) (IsFault : ℕ → FaultKind → Type 0) (fault : ReadFault)
    → ((row : ℕ) (kind : FaultKind) → IsFault row kind → FaultIn content table row kind)
    → FineBefore content table → NoRows table IsFault fault → NoTables content fault
no_tables content table IsFault (faults.Table fault) h fine (same, e) = (
  subst (FineBefore content) (sym same) fine,
  λ ne. subst (λ t. FaultIn content t fault.row fault.kind) (sym same) (h fault.row fault.kind (e ne)),
)
no_tables content table IsFault (faults.FileFailed failed) h fine e = subst (FineBefore content) (sym e) fine

-- a fault of a file's bytes is one of the file
pub no_rows_weaker : (table : Table) (P Q : ℕ → FaultKind → Type 0) (fault : ReadFault) → ((row : ℕ) (kind : FaultKind) → P row kind → Q row kind)
    → NoRows table P fault → NoRows table Q fault
no_rows_weaker table P Q (faults.Table fault) h (same, e) = (same, λ ne. h fault.row fault.kind (e ne))
no_rows_weaker table P Q (faults.FileFailed failed) h e = e

pub required_fault : (IsFault : List ℕ → ℕ → FaultKind → Type 0) (bytes : Option (List ℕ)) (row : ℕ) (kind : FaultKind)
    → OptionalFault IsFault bytes row kind → RequiredFault IsFault bytes row kind
required_fault IsFault None row kind h = elim h [ ]
required_fault IsFault (Some bytes) row kind h = h

-- rows that were had can be had, whatever they are kept in
pub required_rows : {R S : Type 0} (view : R → S) (Holds : List ℕ → S → Type 0) (bytes : Option (List ℕ)) (rows : R)
    → Required (λ held. Holds held (view rows)) bytes → Required (HasRows Holds) bytes
required_rows view Holds None rows h = h
required_rows view Holds (Some bytes) rows h = (view rows, h)

pub held_rows : {R S : Type 0} (view : R → S) (Holds : List ℕ → S → Type 0) (bytes : Option (List ℕ)) (rows : Option R)
    → IsHeld (λ held had. Holds held (view had)) bytes rows → Optional ⊤ (HasRows Holds) bytes
held_rows view Holds None rows h = tt
held_rows view Holds (Some bytes) (Some rows) h = (view rows, h)
held_rows view Holds (Some bytes) None h = elim h [ ]

pub optional_rows : {R S : Type 0} (Missing Fine : Type 0) (view : R → S) (Holds : List ℕ → S → Type 0) (bytes : Option (List ℕ)) (rows : R)
    → (bytes ≡ None → Fine) → Optional Missing (λ held. Holds held (view rows)) bytes → Optional Fine (HasRows Holds) bytes
optional_rows Missing Fine view Holds None rows fine h = fine refl
optional_rows Missing Fine view Holds (Some bytes) rows fine h = (view rows, h)

-- a fault of calendar.txt where it is there
pub calendar_fault : (calendar dates : Option (List ℕ)) (row : ℕ) (kind : FaultKind)
    → OptionalFault (IsFaultOf tables.Calendar) calendar row kind → CalendarFault calendar dates row kind
calendar_fault None dates row kind h = elim h [ ]
calendar_fault (Some bytes) dates row kind h = h

-- one fine file more
pub fine_more : (content : Content) (tables : List Table) (next : Table) → AreFine content tables → IsFine content next → AreFine content (tables ++ next ∷ [])
fine_more content [] next fine h = (h, tt)
fine_more content (table ∷ rest) next (here, fine) h = (here, fine_more content rest next fine h)

-- both calendars are missing
pub calendars_missing : (content : Content) (fault : TableFault) → content tables.Calendar ≡ None → content tables.CalendarDates ≡ None
    → fault.file ≡ tables.Calendar → fault.row ≡ 0 → fault.kind ≡ kinds.MissingFile → FineBefore content tables.Calendar
    → NoTables content (faults.Table fault)
calendars_missing content fault calendar dates table row kind fine = (
  subst (FineBefore content) (sym table) fine,
  λ _. subst (λ t. FaultIn content t fault.row fault.kind) (sym table)
      (subst (λ c. CalendarFault c (content tables.CalendarDates) fault.row fault.kind) (sym calendar) (
        dates,
        (row, kind),
      )),
)

-- no rows were had where there is no file
pub no_file : {R : Type 0} (Holds : List ℕ → R → Type 0) (bytes : Option (List ℕ)) (rows : Option R) → IsHeld Holds bytes rows → rows ≡ None → bytes ≡ None
no_file Holds None rows h e = refl
no_file Holds (Some bytes) None h e = elim h [ ]
no_file Holds (Some bytes) (Some rows) h e = cc

-- the rows of the calendars that were read
pub items_of : {R : Type 0} → Option (Vec R Global) → List R
items_of None = []
items_of (Some rows) = rows.items

pub none_items : {R : Type 0} (had : Option (Vec R Global)) → had ≡ None → items_of had ≡ []
unfolding items_of
none_items had is = ap items_of is

pub some_items : {R : Type 0} (had : Option (Vec R Global)) (rows : Vec R Global) → had ≡ Some rows → items_of had ≡ rows.items
unfolding items_of
some_items had rows is = ap items_of is

pub some_there : {R : Type 0} (had : Option (Vec R Global)) (rows : Vec R Global) → had ≡ Some rows → had ≢ None
some_there had rows is = λ none. cc

held_items : {R : Type 0} (Holds : List ℕ → List R → Type 0) (bytes : Option (List ℕ)) (had : Option (Vec R Global)) (rows : List R)
    → IsHeld (λ held (vec : Vec R Global). Holds held vec.items) bytes had → items_of had ≡ rows → Optional (rows ≡ []) (λ held. Holds held rows) bytes
unfolding items_of
held_items Holds None None rows h e = sym e
held_items Holds None (Some vec) rows h e = elim h [ ]
held_items Holds (Some bytes) None rows h e = elim h [ ]
held_items Holds (Some bytes) (Some vec) rows h e = subst (Holds bytes) e h

some_held : {R : Type 0} (Holds : List ℕ → R → Type 0) (bytes : Option (List ℕ)) (had : Option R) → IsHeld Holds bytes had → had ≢ None → bytes ≢ None
some_held Holds None None h some = absurd (some refl)
some_held Holds None (Some rows) h some = elim h [ ]
some_held Holds (Some bytes) had h some = λ e. cc

pub calendars_held : (content : Content) (calendar : Option (Vec CalendarRow Global)) (dates : Option (Vec CalendarDateRow Global))
    (days : List CalendarRow) (changes : List CalendarDateRow)
    → IsHeld (λ bytes (rows : Vec CalendarRow Global). HoldsCalendar bytes rows.items) (content tables.Calendar) calendar
    → IsHeld (λ bytes (rows : Vec CalendarDateRow Global). HoldsCalendarDates bytes rows.items) (content tables.CalendarDates) dates
    → items_of calendar ≡ days → items_of dates ≡ changes → (calendar ≡ None → dates ≢ None) → HoldsCalendars content days changes
calendars_held content calendar dates days changes one two first second some = record {
  calendar_txt = held_items HoldsCalendar (content tables.Calendar) calendar days one first;
  calendar_dates_txt = held_items HoldsCalendarDates (content tables.CalendarDates) dates changes two second;
  some_calendar = λ none. some_dates calendar one none some;
}
  where
    some_dates : (had : Option (Vec CalendarRow Global))
        → IsHeld (λ bytes (rows : Vec CalendarRow Global). HoldsCalendar bytes rows.items) (content tables.Calendar) had
        → content tables.Calendar ≡ None → (had ≡ None → dates ≢ None) → content tables.CalendarDates ≢ None
    some_dates None h none some =
        some_held (λ bytes (rows : Vec CalendarDateRow Global). HoldsCalendarDates bytes rows.items) (content tables.CalendarDates) dates two (some refl)
    some_dates (Some rows) h none some =
        absurd (some_held (λ bytes (rows : Vec CalendarRow Global). HoldsCalendar bytes rows.items) (content tables.Calendar) (Some rows) h (λ e. cc) none)

-- the files that must be there are fine
pub required_fine : (content : Content) (agencies : List AgencyRow) (stops : List StopRow) (trips : List TripRow) (stop_times : StopTimes)
    → HoldsRequired content agencies stops trips stop_times → FineBefore content tables.Calendar
required_fine content agencies stops trips stop_times h = (
  required_rows (λ rows. rows) HoldsAgencies (content tables.Agency) agencies h.agency_txt,
  (
    required_rows (λ rows. rows) (HoldsStopsWithin MAX_STOPS) (content tables.Stops) stops h.stops_txt,
    (
      required_rows (λ rows. rows) (HoldsTripsWithin MAX_TRIPS) (content tables.Trips) trips h.trips_txt,
      (required_rows (λ rows. rows) HoldsStopTimes (content tables.StopTimes) stop_times h.stop_times_txt, tt),
    ),
  ),
)

-- and then the calendars
pub calendars_fine : (content : Content) (calendar : List CalendarRow) (dates : List CalendarDateRow)
    → FineBefore content tables.Calendar → HoldsCalendars content calendar dates → FineBefore content tables.Transfers
calendars_fine content calendar dates fine h =
    let first = optional_rows (calendar ≡ []) ⊤ (λ rows. rows) HoldsCalendar (content tables.Calendar) calendar (λ _. tt) h.calendar_txt in
    let second = optional_rows (dates ≡ []) (content tables.Calendar ≢ None) (λ rows. rows) HoldsCalendarDates
    (content tables.CalendarDates) dates (λ missing calendar. h.some_calendar calendar missing)
    h.calendar_dates_txt in
    fine_more content (earlier tables.CalendarDates) tables.CalendarDates (fine_more content (earlier tables.Calendar) tables.Calendar fine first) second
