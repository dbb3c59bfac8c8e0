-- The first fault of a table's rows.
use Rattle.std.specs.Prelude.{ℕ, zero, suc, ◌+◌, List, [], ◌++◌, length, option_map, option_and_then, Option, Some, None, Bool, if◌then◌else◌}
use Rattle.std.specs.List.{slice_get}
use Rattle.std.specs.Option.{option_to_list}
unfoldable pub use Rattle.reasoning.specs.First.{first_below}
use Rattle.gtfs_rows.specs.declared.fault.FaultKind.{FaultKind}
use Rattle.gtfs_rows.specs.declared.fault.FaultKind.TheVariants as kinds
use Rattle.gtfs_rows.specs.declared.fault.Table.{Table}
use Rattle.gtfs_rows.specs.declared.fault.Table.TheVariants as tables
use Rattle.gtfs_rows.specs.declared.fault.TableFault.{TableFault}

-- the least index below n that passes
abbrev pub index_if : (ℕ → Bool) → ℕ → Option ℕ
index_if p k = if p k then Some k else None

abbrev pub first_index : (ℕ → Bool) → ℕ → Option ℕ
first_index p n = first_below (index_if p) n

-- the fault of the row at an index; records are numbered from 1
abbrev pub fault_at : Table → ℕ → FaultKind → TableFault
fault_at table index kind = record { file = table; row = index + 1; kind = kind }

-- memory ran out while tables were joined: stop_times.txt is named
abbrev pub no_memory : TableFault
no_memory = record { file = tables.StopTimes; row = 0; kind = kinds.OutOfMemory }

-- the fault of the row at an index, given how rows are judged
abbrev pub row_fault : {R : Type 0} → Table → (R → Option FaultKind) → List R → ℕ → Option TableFault
row_fault table judge rows k = option_map (fault_at table k) (option_and_then judge (slice_get rows k))

-- the fault of the first row that has one
abbrev pub first_fault_of : {R : Type 0} → Table → (R → Option FaultKind) → List R → Option TableFault
first_fault_of table judge rows = first_below (row_fault table judge rows) (length rows)

-- all values of `f` below n, in order
unfoldable pub all_below : {X : Type 0} → (ℕ → Option X) → ℕ → List X
all_below f zero = []
all_below f (suc n) = all_below f n ++ option_to_list (f n)
