-- The rows of the tables with each id replaced by what it names, and what is wrong with rows whose ids are wrong.
use Rattle.std.specs.Prelude.{◌≡◌, ◌==◌, ◌&&◌, ◌||◌, not, ℕ, List, option_and_then, Option, Some, None, Bool, true, false, if◌then◌else◌, is_none, unwrap_or}
use Rattle.std.specs.List.{list_any}
use Rattle.std.specs.String.{string_bytes}
pub use Rattle.reasoning.specs.Options.{is_that_number as is_place}
use Rattle.gtfs_rows.specs.Faults.{fault_unless, or_fault}
use Rattle.gtfs_rows.specs.Tables.{is_blank, is_stop}
use Rattle.gtfs_rows.specs.declared.fault.FaultKind.{FaultKind}
use Rattle.gtfs_rows.specs.declared.fault.FaultKind.TheVariants as kinds
use Rattle.gtfs_rows.specs.declared.rows.FrequencyRow.{FrequencyRow}
use Rattle.gtfs_rows.specs.declared.rows.StopRow.{StopRow}
use Rattle.gtfs_rows.specs.declared.rows.StopTimeRow.{StopTimeRow}
use Rattle.gtfs_rows.specs.declared.rows.TransferKind.{TransferKind}
use Rattle.gtfs_rows.specs.declared.rows.TransferKind.TheVariants as transfers
use Rattle.gtfs_rows.specs.declared.rows.TransferRow.{TransferRow}
use Rattle.gtfs_tables.specs.Names.{named_at}
use Rattle.gtfs_tables.specs.declared.names.StopIdTarget.{StopIdTarget}
use Rattle.gtfs_tables.specs.declared.names.StopIdTarget.TheVariants as names
use Rattle.gtfs_tables.specs.declared.tables.Frequency.{Frequency}
use Rattle.gtfs_tables.specs.declared.tables.TransferEnd.{TransferEnd}
use Rattle.gtfs_tables.specs.declared.tables.TransferEnd.TheVariants as ends
use Rattle.gtfs_tables.specs.declared.tables.Transfer.{Transfer}

-- In this file `named` gives what an id names.

-- ---- stops.txt: the parent of a stop, if it has one, is a station

-- the row stands for a stop and names a parent
abbrev pub has_parent : StopRow → Bool
has_parent row = is_stop row && not (is_blank (string_bytes row.parent))

-- the index of the station, if an id names one
abbrev pub station_index : Option StopIdTarget → Option ℕ
station_index (Some (names.Station index)) = Some index
station_index (Some (names.Stop number)) = None
station_index (Some names.Elsewhere) = None
station_index None = None

-- the index of a stop's station, if it has one
abbrev pub station_of : (List ℕ → Option StopIdTarget) → StopRow → Option ℕ
station_of named row = if has_parent row then station_index (named (string_bytes row.parent)) else None

-- the fault of a stop that names a parent that isn't a station
abbrev pub parent_fault : (List ℕ → Option StopIdTarget) → StopRow → Option FaultKind
parent_fault named row = if has_parent row then fault_unless (station_index (named (string_bytes row.parent))) kinds.UnknownId else None

-- ---- stop_times.txt: the trip is known, and so is the stop, unless the trip is a flex trip

-- some row with the trip_id has a blank stop_id
abbrev pub is_flex_id : List StopTimeRow → ℕ → Bool
is_flex_id rows id = list_any (λ row. is_none row.stop && (row.trip == id)) rows

-- some row has a blank stop_id
abbrev pub lack_stops : List StopTimeRow → Bool
lack_stops rows = list_any (λ row. is_none row.stop) rows

-- what a row's stop_id names
abbrev pub stop_of : List (Option StopIdTarget) → StopTimeRow → Option StopIdTarget
stop_of stops row = option_and_then (named_at stops) row.stop

-- what is wrong with a stop_id that names this, or nothing: it is unknown, or doesn't name a stop
abbrev pub stop_fault : Option StopIdTarget → Option FaultKind
stop_fault None = Some kinds.UnknownId
stop_fault (Some (names.Stop number)) = None
stop_fault (Some (names.Station index)) = Some kinds.NotAStop
stop_fault (Some names.Elsewhere) = Some kinds.NotAStop

-- the number, if a stop is named
abbrev pub stop_number : Option StopIdTarget → Option ℕ
stop_number (Some (names.Stop number)) = Some number
stop_number (Some (names.Station index)) = None
stop_number (Some names.Elsewhere) = None
stop_number None = None

-- what is wrong with a row: its trip is unknown, or else its stop is wrong and the trip isn't a flex trip
abbrev pub linked_fault : List (Option ℕ) → List (Option StopIdTarget) → Bool → StopTimeRow → Option FaultKind
linked_fault trips stops flex row =
    or_fault (fault_unless (named_at trips row.trip) kinds.UnknownId) (if flex then None else stop_fault (stop_of stops row))

-- a row with the index of its trip and the number of its stop; rows of flex trips get no stop
abbrev pub linked_row : List (Option ℕ) → List (Option StopIdTarget) → Bool → StopTimeRow → StopTimeRow
linked_row trips stops flex row =
    record row {
      trip = unwrap_or (named_at trips row.trip) 0;
      stop =
          if is_none (named_at trips row.trip) || flex then None else stop_number (stop_of stops row);
    }

-- ---- frequencies.txt: the trip is known

-- the fault of a row whose trip is unknown
abbrev pub frequency_fault : (List ℕ → Option ℕ) → FrequencyRow → Option FaultKind
frequency_fault named row = fault_unless (named (string_bytes row.trip)) kinds.UnknownId

-- a row with the index of its trip
abbrev pub frequency_of : (List ℕ → Option ℕ) → FrequencyRow → Frequency
frequency_of named row = record { trip = unwrap_or (named (string_bytes row.trip)) 0; start = row.start; end = row.end; headway = row.headway }

-- some row of frequencies.txt names the trip
abbrev pub is_repeated : (List ℕ → Option ℕ) → List FrequencyRow → ℕ → Bool
is_repeated named rows t = list_any (λ row. is_place (named (string_bytes row.trip)) t) rows

-- ---- transfers.txt: both ends are known, and are stops or stations, unless the row is skipped

-- every kind but skipped
abbrev pub is_kept_kind : TransferKind → Bool
is_kept_kind transfers.Skipped = false
is_kept_kind transfers.Recommended = true
is_kept_kind transfers.Timed = true
is_kept_kind transfers.Minimum = true
is_kept_kind transfers.Impossible = true

-- the row isn't skipped
abbrev pub is_kept : TransferRow → Bool
is_kept row = is_kept_kind row.kind

-- the fault of an end that is known, but is neither a stop nor a station
abbrev pub end_fault : Option StopIdTarget → Option FaultKind
end_fault (Some names.Elsewhere) = Some kinds.NotAStop
end_fault (Some (names.Stop number)) = None
end_fault (Some (names.Station index)) = None
end_fault None = None

-- what is wrong with two ends, in this order: the first or the second is unknown; the first or the second is neither a stop nor a station
abbrev pub ends_fault : Option StopIdTarget → Option StopIdTarget → Option FaultKind
ends_fault from to =
    or_fault (fault_unless from kinds.UnknownId) (or_fault (fault_unless to kinds.UnknownId) (or_fault (end_fault from) (end_fault to)))

-- what is wrong with a row that isn't skipped
abbrev pub transfer_fault : (List ℕ → Option StopIdTarget) → TransferRow → Option FaultKind
transfer_fault named row = if is_kept row then ends_fault (named (string_bytes row.from)) (named (string_bytes row.to)) else None

-- what an end of a transfer names
abbrev pub named_by : TransferEnd → StopIdTarget
named_by (ends.Stop number) = names.Stop number
named_by (ends.Station index) = names.Station index

-- the transfer of a row, with each id replaced by the stop or the station that it names
pub record IsTransferOf (named : List ℕ → Option StopIdTarget) (row : TransferRow) (transfer : Transfer) : Type 0 where
  pub from : named (string_bytes row.from) ≡ Some (named_by transfer.from)
  pub to : named (string_bytes row.to) ≡ Some (named_by transfer.to)
  pub kind : transfer.kind ≡ row.kind
  pub seconds : transfer.seconds ≡ row.seconds
