-- The numbers and names of faults.
use Rattle.std.specs.Prelude.{ℕ, List, codes}
use Rattle.image_verifier.specs.declared.fault.ImageFault.{ImageFault}
use Rattle.image_verifier.specs.declared.fault.ImageFault.TheVariants.{BadMagic, BadLayout, BadLength, StopRange}
use Rattle.image_verifier.specs.declared.fault.ImageFault.TheVariants.{TripRange, HopWithoutDuration, Unsorted}
use Rattle.image_verifier.specs.declared.fault.ImageFault.TheVariants.{TripBroken, TimeRange, BadFlags, FootRange}
use Rattle.image_verifier.specs.declared.fault.ImageFault.TheVariants.{FootUnsorted, NoLoop, NotClosed, BadNames}
use Rattle.image_verifier.specs.declared.fault.ImageFault.TheVariants.{OutOfMemory}

abbrev pub numbered_fault : ImageFault → ℕ × List ℕ
numbered_fault BadMagic = (61, codes "BadMagic")
numbered_fault BadLayout = (62, codes "BadLayout")
numbered_fault BadLength = (63, codes "BadLength")
numbered_fault (StopRange i) = (64, codes "StopRange")
numbered_fault (TripRange i) = (65, codes "TripRange")
numbered_fault (HopWithoutDuration i) = (66, codes "HopWithoutDuration")
numbered_fault (Unsorted i) = (67, codes "Unsorted")
numbered_fault (TripBroken i) = (68, codes "TripBroken")
numbered_fault (TimeRange i) = (69, codes "TimeRange")
numbered_fault (BadFlags i) = (70, codes "BadFlags")
numbered_fault (FootRange s) = (71, codes "FootRange")
numbered_fault (FootUnsorted s) = (72, codes "FootUnsorted")
numbered_fault (NoLoop s) = (73, codes "NoLoop")
numbered_fault (NotClosed a b c) = (74, codes "NotClosed")
numbered_fault (BadNames i) = (75, codes "BadNames")
numbered_fault OutOfMemory = (76, codes "OutOfMemory")

abbrev pub fault_number : ImageFault → ℕ
fault_number fault = (numbered_fault fault).0

abbrev pub fault_name : ImageFault → List ℕ
fault_name fault = (numbered_fault fault).1
