-- The connections of a run, from each row to the next.
use Rattle.std.specs.Prelude.{◌≡◌, ◌+◌, ◌<◌, ◌⊎◌, ℕ, ℤ, pos, ◌+ℤ◌, ◌-ℤ◌, ◌<ℤ◌, ◌≤ℤ◌, List, length, slice_index_or, ◌++◌, Option, None, Some}
use Rattle.gtfs_rows.specs.declared.rows.StopTimeRow.{StopTimeRow}
use Rattle.timetable.specs.Legal.{At}
use Rattle.timetable.specs.declared.limits.TheConstants.{TIME_END}
use Rattle.timetable.specs.declared.network.Connection.{Connection}
use Rattle.connections.specs.Times.{arrives, departs}
use Rattle.connections.specs.declared.hops.RunClock.{RunClock}
use Rattle.connections.specs.declared.times.RowTimes.{RowTimes}

-- a time in seconds after `start` is `clock` seconds after the base, before the end of time
pub record IsClock (base start : ℤ) (time clock : ℕ) : Type 0 where
  pub in_time : clock < TIME_END
  pub same_instant : (base +ℤ pos clock) ≡ (start +ℤ pos time)

-- the time is before the base, or at the end of time or later
abbrev pub IsOutside : ℤ → ℤ → ℕ → Type 0
IsOutside base start time = ((start +ℤ pos time) <ℤ base) ⊎ ((base +ℤ pos TIME_END) ≤ℤ (start +ℤ pos time))

-- the arrival at a row counts, unless it is that of a repeat at its first row
abbrev pub IsUsed : Option ℕ → ℕ → Type 0
IsUsed None k = Unit {0}
IsUsed (Some s) k = 0 < k

-- all times of the rows that count are in range; `repeat` is the start of a repeat, none for any other run
pub record AreInside (base start : ℤ) (repeat : Option ℕ) (rows : List StopTimeRow) : Type 0 where
  pub arrivals : (k : ℕ) → k < length rows → IsUsed repeat k → (clock : ℕ) × IsClock base start (arrives rows k) clock
  pub departures : (k : ℕ) → k < length rows → (clock : ℕ) × IsClock base start (departs rows k) clock

-- a time of a row that counts is out of range
abbrev pub HasOutside : ℤ → ℤ → Option ℕ → List StopTimeRow → Type 0
HasOutside base start repeat rows = (k : ℕ) × (k < length rows)
    × ((IsUsed repeat k × IsOutside base start (arrives rows k)) ⊎ IsOutside base start (departs rows k))

-- the times of the row at a position are in range, as far as they count
pub record IsInside (base start : ℤ) (repeat : Option ℕ) (k : ℕ) (times : RowTimes) : Type 0 where
  pub arrival : IsUsed repeat k → (clock : ℕ) × IsClock base start times.arrival clock
  pub departure : (clock : ℕ) × IsClock base start times.departure clock

-- one of these times is out of range
abbrev pub LiesOutside : ℤ → ℤ → Option ℕ → ℕ → RowTimes → Type 0
LiesOutside base start repeat k times = (IsUsed repeat k × IsOutside base start times.arrival) ⊎ IsOutside base start times.departure

-- this holds for each of the rows
abbrev pub HaveClocks : ℤ → ℤ → Option ℕ → List RowTimes → Type 0
HaveClocks base start repeat times = (k : ℕ) (d : RowTimes) → k < length times → IsInside base start repeat k (slice_index_or times k d)

-- one of the rows has a time out of range
abbrev pub LackClocks : ℤ → ℤ → Option ℕ → List RowTimes → Type 0
LackClocks base start repeat times = (k : ℕ) × (d : RowTimes) × (k < length times) × LiesOutside base start repeat k (slice_index_or times k d)

-- how many seconds a repeat is later than the times of its rows, so that it departs from its first row at its start
abbrev pub shift_by : Option ℕ → ℕ → ℤ
shift_by None own = pos 0
shift_by (Some s) own = pos s -ℤ pos own

abbrev pub shift_of : Option ℕ → List StopTimeRow → ℤ
shift_of start rows = shift_by start (departs rows 0)

-- the instant from which the times of a run's rows count
abbrev pub zero_of : RunClock → ℤ
zero_of clock = clock.day.start +ℤ shift_by clock.start clock.own

-- c is the connection from the row at a position to the next, in the run of this number
pub record IsHop (base start : ℤ) (rows : List StopTimeRow) (run position : ℕ) (c : Connection) : Type 0 where
  pub row : StopTimeRow
  pub next : StopTimeRow
  pub is_row : At rows position row
  pub is_next : At rows (position + 1) next
  pub from : row.stop ≡ Some c.from
  pub to : next.stop ≡ Some c.to
  pub dep : IsClock base start (departs rows position) c.dep
  pub arr : IsClock base start (arrives rows (position + 1)) c.arr
  pub trip : c.trip ≡ run
  pub board : c.board ≡ row.board
  pub alight : c.alight ≡ next.alight

-- the connections of a run, in the order of its rows
pub record AreHops (base start : ℤ) (rows : List StopTimeRow) (run count : ℕ) (connections : List Connection) : Type 0 where
  pub same_length : length connections ≡ count
  pub hops : (p : ℕ) (d : Connection) → p < count → IsHop base start rows run p (slice_index_or connections p d)

-- the connections of a run were added
abbrev pub AddsHops : ℤ → ℤ → List StopTimeRow → ℕ → ℕ → List Connection → List Connection → Type 0
AddsHops base start rows run count old new = (added : List Connection) × (new ≡ old ++ added) × AreHops base start rows run count added
