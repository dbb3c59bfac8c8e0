-- Journeys as texts.
use Rattle.std.specs.Prelude.{◌≡◌, ◌≢◌, ◌⊎◌, ℕ, ◌<◌, ◌≤◌, ◌^◌, List, [], ◌∷◌, ◌++◌, codes, decimal, drop, Option, Some, None, IfSome}
use Rattle.std.specs.List.{flat_map, AllByRecursion}
use Rattle.timetable.specs.declared.network.Footpath.{Footpath}
use Rattle.timetable.specs.declared.journey.Leg.{Leg}
use Rattle.timetable.specs.JourneyValue.{RideValue, JourneyValue}

-- a space and a number in decimal
abbrev pub number_text : ℕ → List ℕ
number_text n = 32 ∷ decimal n

-- a footpath's numbers: the stop that it leaves, the stop that it leads to, the seconds
abbrev pub footpath_text : Footpath → List ℕ
footpath_text f = number_text f.from ++ (number_text f.to ++ number_text f.secs)

-- items, each behind a space: a walk for each footpath, a ride for each leg
abbrev pub walk_text : Footpath → List ℕ
walk_text f = codes " walk" ++ footpath_text f

-- a leg's numbers: its first connection and its last
abbrev pub leg_text : Leg → List ℕ
leg_text leg = number_text leg.first ++ number_text leg.last

abbrev pub ride_text : RideValue → List ℕ
ride_text r = codes " ride" ++ (leg_text r.leg ++ flat_map walk_text r.walk)

abbrev pub start_text : Option Footpath → List ℕ
start_text None = []
start_text (Some f) = walk_text f

-- a journey's text: its items with one space between
abbrev pub text_of : JourneyValue → List ℕ
text_of j = drop 1 (start_text j.start ++ flat_map ride_text j.rides)

-- numbers that have 32 bits at most
abbrev pub IsFootpathOfWords : Footpath → Type 0
IsFootpathOfWords f = (f.from < 2 ^ 32) × (f.to < 2 ^ 32) × (f.secs < 2 ^ 32)

abbrev pub IsRideOfWords : RideValue → Type 0
IsRideOfWords r = (r.leg.first < 2 ^ 32) × (r.leg.last < 2 ^ 32) × AllByRecursion IsFootpathOfWords r.walk

-- a journey that has a text: it has rides, and all its numbers have 32 bits at most
pub record HasText (j : JourneyValue) : Type 0 where
  pub some : j.rides ≢ []
  pub start : IfSome j.start IsFootpathOfWords
  pub rides : AllByRecursion IsRideOfWords j.rides

-- a space, a digit or a colon, or a small letter
abbrev pub IsPlainByte : ℕ → Type 0
IsPlainByte byte = (byte ≡ 32) ⊎ ((48 ≤ byte) × (byte ≤ 58)) ⊎ ((97 ≤ byte) × (byte ≤ 122))
