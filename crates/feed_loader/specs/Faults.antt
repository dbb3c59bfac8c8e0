-- The faults of the steps as faults of the load.
use Rattle.std.specs.Prelude.{ℕ, ◌++◌, ◌∷◌, List, [], Result, Ok, Err, codes}
use Rattle.gtfs_rows.specs.FaultNumber.{numbered_fault as numbered_kind, file_name}
use Rattle.service_days.specs.Faults.{numbered_fault as numbered_day_fault}
use Rattle.service_days.specs.declared.fault.DayFault.TheVariants.{DayOutOfRange}
use Rattle.footpaths.specs.FaultNumber.{numbered_fault as numbered_foot_fault}
use Rattle.image_verifier.specs.FaultNumber.{fault_name as image_name, fault_number as image_number}
use Rattle.gtfs_rows.specs.declared.fault.FaultKind.TheVariants as kinds
use Rattle.gtfs_rows.specs.declared.fault.Table.{Table}
use Rattle.feed_files.specs.declared.reading.ReadFault.{ReadFault}
use Rattle.feed_files.specs.declared.reading.ReadFault.TheVariants as reads
use Rattle.connections.specs.declared.fault.RunsFault.{RunsFault}
use Rattle.connections.specs.declared.fault.RunsFault.TheVariants as runs
use Rattle.feed_loader.specs.declared.fault.LoadFault.{LoadFault}
use Rattle.feed_loader.specs.declared.fault.LoadFault.TheVariants as faults

abbrev pub load_fault_of_read : ReadFault → LoadFault
load_fault_of_read (reads.Table fault) = faults.Table fault
load_fault_of_read (reads.FileFailed table) = faults.FileFailed table

abbrev pub load_fault_of_runs : RunsFault → LoadFault
load_fault_of_runs (runs.Table fault) = faults.Table fault
load_fault_of_runs (runs.Day fault) = faults.Day fault
load_fault_of_runs (runs.Range range) = faults.Range range

-- the fault TooMany of a table
abbrev pub too_many : Table → LoadFault
too_many table = faults.Table (record { file = table; row = 0; kind = kinds.TooMany })

-- the fault OutOfMemory of a table
abbrev pub out_of_memory : Table → LoadFault
out_of_memory table = faults.Table (record { file = table; row = 0; kind = kinds.OutOfMemory })

-- the names of the files whose reads failed: those from before, and that of the file that the fault names
abbrev pub failed_by : {T : Type 0} → List (List ℕ) → Result T LoadFault → List (List ℕ)
failed_by before (Ok t) = before
failed_by before (Err (faults.Table fault)) = before
failed_by before (Err (faults.Day fault)) = before
failed_by before (Err (faults.Range range)) = before
failed_by before (Err (faults.Footpaths fault)) = before
failed_by before (Err (faults.Image fault)) = before
failed_by before (Err (faults.FileFailed table)) = before ++ file_name table ∷ []

-- the number and the name of a fault
abbrev pub fault_number : LoadFault → ℕ
fault_number (faults.Table fault) = (numbered_kind fault.kind).0
fault_number (faults.Day fault) = (numbered_day_fault fault).0
fault_number (faults.Range range) = (numbered_day_fault DayOutOfRange).0
fault_number (faults.Footpaths fault) = (numbered_foot_fault fault).0
fault_number (faults.Image fault) = image_number fault
fault_number (faults.FileFailed table) = 101

abbrev pub fault_name : LoadFault → List ℕ
fault_name (faults.Table fault) = (numbered_kind fault.kind).1
fault_name (faults.Day fault) = (numbered_day_fault fault).1
fault_name (faults.Range range) = (numbered_day_fault DayOutOfRange).1
fault_name (faults.Footpaths fault) = (numbered_foot_fault fault).1
fault_name (faults.Image fault) = image_name fault
fault_name (faults.FileFailed table) = codes "FileFailed"
