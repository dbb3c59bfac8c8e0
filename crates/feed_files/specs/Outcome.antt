-- How the reading of files ends.
use Rattle.std.specs.Prelude.{ℕ, ◌++◌, ◌∷◌, List, [], Result, Ok, Err}
use Rattle.gtfs_rows.specs.FaultNumber.{file_name}
use Rattle.gtfs_rows.specs.declared.fault.Table.{Table}
use Rattle.gtfs_rows.specs.declared.fault.TableFault.{TableFault}
use Rattle.feed_files.specs.declared.reading.ReadFault.{ReadFault}
use Rattle.feed_files.specs.declared.reading.ReadFault.TheVariants as faults

-- either a table is refused for such a fault, or the file of such a table can't be read
abbrev pub RefusedOrFailed : (TableFault → Type 0) → (Table → Type 0) → ReadFault → Type 0
RefusedOrFailed Refused Failed (faults.Table fault) = Refused fault
RefusedOrFailed Refused Failed (faults.FileFailed table) = Failed table

-- the names of the files whose reads failed: those from before, and that of the file that the fault names
abbrev pub failed_by : {T : Type 0} → List (List ℕ) → Result T ReadFault → List (List ℕ)
failed_by before (Ok t) = before
failed_by before (Err (faults.Table fault)) = before
failed_by before (Err (faults.FileFailed table)) = before ++ file_name table ∷ []
