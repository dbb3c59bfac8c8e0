-- The numbers and names of faults.
use Rattle.std.specs.Prelude.{ℕ, List, codes}
use Rattle.shelves.specs.declared.faults.PinFault.{PinFault}
use Rattle.shelves.specs.declared.faults.PublishFault.{PublishFault}

abbrev pub numbered_pin_fault : PinFault → ℕ × List ℕ
numbered_pin_fault (PinFault.Moved newest) = (91, codes "Moved")
numbered_pin_fault PinFault.AlreadyPinned = (92, codes "AlreadyPinned")
numbered_pin_fault PinFault.NotPinned = (93, codes "NotPinned")
numbered_pin_fault PinFault.SeatLost = (97, codes "SeatLost")
numbered_pin_fault PinFault.OutOfMemory = (98, codes "OutOfMemory")

abbrev pub numbered_publish_fault : PublishFault → ℕ × List ℕ
numbered_publish_fault (PublishFault.ShelvesFull counts) = (94, codes "ShelvesFull")
numbered_publish_fault PublishFault.VersionsSpent = (95, codes "VersionsSpent")
numbered_publish_fault PublishFault.OutOfMemory = (96, codes "OutOfMemory")

abbrev pub pin_fault_number : PinFault → ℕ
pin_fault_number fault = (numbered_pin_fault fault).0

abbrev pub pin_fault_name : PinFault → List ℕ
pin_fault_name fault = (numbered_pin_fault fault).1

abbrev pub publish_fault_number : PublishFault → ℕ
publish_fault_number fault = (numbered_publish_fault fault).0

abbrev pub publish_fault_name : PublishFault → List ℕ
publish_fault_name fault = (numbered_publish_fault fault).1
