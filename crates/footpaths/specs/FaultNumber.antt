-- The numbers and names of faults.
use Rattle.std.specs.Prelude.{ℕ, List, codes}
use Rattle.footpaths.specs.declared.fault.FootFault.{FootFault}
use Rattle.footpaths.specs.declared.fault.FootFault.TheVariants.{WalkTooLong, TooManyFootpaths, OutOfMemory}

abbrev pub numbered_fault : FootFault → ℕ × List ℕ
numbered_fault WalkTooLong = (41, codes "WalkTooLong")
numbered_fault TooManyFootpaths = (42, codes "TooManyFootpaths")
numbered_fault OutOfMemory = (43, codes "OutOfMemory")
