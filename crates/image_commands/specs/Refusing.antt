-- How the refusal of a command over an image is printed.
use Rattle.std.specs.Prelude.{ℕ, List, [], ◌++◌, codes}
use Rattle.image_layout.specs.FaultNumber.{numbered_fault as numbered_words_fault}
use Rattle.image_layout.specs.declared.words.WordsFault.{WordsFault}
use Rattle.image_verifier.specs.FaultNumber.{numbered_fault as numbered_image_fault}
use Rattle.image_verifier.specs.declared.fault.ImageFault.{ImageFault}
use Rattle.image_verifier.specs.declared.fault.ImageFault.TheVariants as images
use Rattle.journeys.specs.Numbers.{name_of, number_of}
use Rattle.journeys.specs.Texts.{number_text}
use Rattle.journeys.specs.declared.fault.JourneyFault.{JourneyFault}
use Rattle.journeys.specs.declared.fault.JourneyFault.TheVariants as journeys
use Rattle.timetable.specs.Queries.{numbered_fault as numbered_query_fault}
use Rattle.command_endings.specs.Refusing.{refusal_text}
use Rattle.image_commands.specs.declared.refusal.CommandRefusal.{CommandRefusal}
use Rattle.image_commands.specs.declared.refusal.CommandRefusal.TheVariants.{OddLength, Image, Query, BadText, Journey}

-- the number and the name of a refusal
abbrev pub numbered_refusal : CommandRefusal → ℕ × List ℕ
numbered_refusal OddLength = numbered_words_fault WordsFault.OddLength
numbered_refusal (Image fault) = numbered_image_fault fault
numbered_refusal (Query fault) = numbered_query_fault fault
numbered_refusal BadText = (80, codes "BadText")
numbered_refusal (Journey fault) = (number_of fault, name_of fault)

-- where an image is wrong: which connection, stop or name it is, or which three stops
abbrev pub image_positions : ImageFault → List ℕ
image_positions images.BadMagic = []
image_positions images.BadLayout = []
image_positions images.BadLength = []
image_positions (images.StopRange i) = number_text i
image_positions (images.TripRange i) = number_text i
image_positions (images.HopWithoutDuration i) = number_text i
image_positions (images.Unsorted i) = number_text i
image_positions (images.TripBroken i) = number_text i
image_positions (images.TimeRange i) = number_text i
image_positions (images.BadFlags i) = number_text i
image_positions (images.FootRange i) = number_text i
image_positions (images.FootUnsorted i) = number_text i
image_positions (images.NoLoop i) = number_text i
image_positions (images.NotClosed a b c) = number_text a ++ number_text b ++ number_text c
image_positions (images.BadNames i) = number_text i
image_positions images.OutOfMemory = []

-- where a journey is wrong: which leg or walk it is
abbrev pub journey_positions : JourneyFault → List ℕ
journey_positions (journeys.LegRange leg) = number_text leg
journey_positions (journeys.TwoTrips leg) = number_text leg
journey_positions (journeys.NoBoarding leg) = number_text leg
journey_positions (journeys.NoAlighting leg) = number_text leg
journey_positions (journeys.NoFootpath walk) = number_text walk
journey_positions (journeys.WalkBroken walk) = number_text walk
journey_positions (journeys.TooEarly leg) = number_text leg
journey_positions journeys.WrongEnds = []
journey_positions journeys.OutsideWindow = []

abbrev pub refusal_positions : CommandRefusal → List ℕ
refusal_positions OddLength = []
refusal_positions (Image fault) = image_positions fault
refusal_positions (Query fault) = []
refusal_positions BadText = []
refusal_positions (Journey fault) = journey_positions fault

-- the line of a refusal: its number, its name, and where something is wrong
abbrev pub refusal_line : CommandRefusal → List ℕ
refusal_line refusal = refusal_text (numbered_refusal refusal) (refusal_positions refusal)
