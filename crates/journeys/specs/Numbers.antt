-- The numbers and names of faults.
use Rattle.std.specs.Prelude.{ℕ, List, codes, Option, Some, None}
use Rattle.journeys.specs.declared.fault.JourneyFault.{JourneyFault}
use Rattle.journeys.specs.declared.fault.JourneyFault.TheVariants.{LegRange, TwoTrips, NoBoarding, NoAlighting, NoFootpath, WalkBroken, TooEarly}
use Rattle.journeys.specs.declared.fault.JourneyFault.TheVariants.{WrongEnds, OutsideWindow}
use Rattle.journeys.specs.declared.text_fault.TextFault.{TextFault}
use Rattle.journeys.specs.declared.text_fault.TextFault.TheVariants.{BadText, OutOfMemory}

abbrev pub number_of : JourneyFault → ℕ
number_of (LegRange i) = 81
number_of (TwoTrips i) = 82
number_of (NoBoarding i) = 83
number_of (NoAlighting i) = 84
number_of (WalkBroken i) = 85
number_of (TooEarly i) = 86
number_of WrongEnds = 87
number_of OutsideWindow = 88
number_of (NoFootpath i) = 89

abbrev pub name_of : JourneyFault → List ℕ
name_of (LegRange i) = codes "LegRange"
name_of (TwoTrips i) = codes "TwoTrips"
name_of (NoBoarding i) = codes "NoBoarding"
name_of (NoAlighting i) = codes "NoAlighting"
name_of (WalkBroken i) = codes "WalkBroken"
name_of (TooEarly i) = codes "TooEarly"
name_of WrongEnds = codes "WrongEnds"
name_of OutsideWindow = codes "OutsideWindow"
name_of (NoFootpath i) = codes "NoFootpath"

-- out of memory has no number of its own
abbrev pub text_number : TextFault → Option ℕ
text_number BadText = Some 80
text_number OutOfMemory = None

abbrev pub text_name : TextFault → List ℕ
text_name BadText = codes "BadText"
text_name OutOfMemory = codes "OutOfMemory"
