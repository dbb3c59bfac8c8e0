-- The numbers and names of the faults.
use Rattle.std.specs.Prelude.{ℕ, List, codes}
use Rattle.service_days.specs.declared.fault.DayFault.{DayFault}
use Rattle.service_days.specs.declared.fault.DayFault.TheVariants.{BadZone, DayOutOfRange, OutOfMemory}

abbrev pub numbered_fault : DayFault → ℕ × List ℕ
numbered_fault BadZone = (21, codes "BadZone")
numbered_fault DayOutOfRange = (22, codes "DayOutOfRange")
numbered_fault OutOfMemory = (23, codes "OutOfMemory")
