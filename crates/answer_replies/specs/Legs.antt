-- The legs of a journey over an image, as a reply has them.
use Rattle.std.specs.Prelude.{◌++◌, ◌∷◌, ℕ, List, [], Option, Some, None, map, option_map, slice_get}
use Rattle.std.specs.List.{flat_map}
use Rattle.serde_json.specs.Data.{Data}
use Rattle.timetable.specs.JourneyValue.{JourneyValue, RideValue}
use Rattle.timetable.specs.NamesValue.{NamesValue, TripNameValue}
use Rattle.timetable.specs.declared.network.Connection.{Connection}
use Rattle.timetable.specs.declared.network.Footpath.{Footpath}
use Rattle.image_layout.specs.Image.{ImageValue}
use Rattle.image_facts.specs.Naming.{stop_bytes, trip_bytes}
use Rattle.session_texts.specs.Legs.{ridden, ride_data, walk_data, walked}

abbrev pub or_zero : Option ℕ → ℕ
or_zero None = 0
or_zero (Some n) = n

-- the service day of a trip, and which of that day's repeats it is; both 0 if there is no such trip
abbrev pub day_of : NamesValue → ℕ → ℕ
day_of names trip = or_zero (option_map (λ (t : TripNameValue). t.day) (slice_get names.trips trip))

abbrev pub repeat_of : NamesValue → ℕ → ℕ
repeat_of names trip = or_zero (option_map (λ (t : TripNameValue). t.repeat) (slice_get names.trips trip))

-- a walk between two stops, by their names
abbrev pub walk_leg : NamesValue → Footpath → Data
walk_leg names f = walk_data (walked (stop_bytes names f.from) (stop_bytes names f.to) f.secs)

-- a ride on the trip of its first connection: boarded where and when that departs, left where and when its last connection arrives
abbrev pub ride_leg : NamesValue → Connection → Connection → Data
ride_leg names first last =
    ride_data (ridden (trip_bytes names first.trip) (day_of names first.trip) (repeat_of names first.trip)
    (stop_bytes names first.from) first.dep (stop_bytes names last.to) last.arr)

-- the ride of a leg, if the image has its connections; it has those of each journey that counts
abbrev pub ride_between : NamesValue → Option Connection → Option Connection → List Data
ride_between names (Some first) (Some last) = ride_leg names first last ∷ []
ride_between names (Some first) None = []
ride_between names None last = []

abbrev pub ride_legs : ImageValue → RideValue → List Data
ride_legs image ride =
    ride_between image.names (slice_get image.timetable.connections ride.leg.first) (slice_get image.timetable.connections ride.leg.last)
    ++ map (walk_leg image.names) ride.walk

abbrev pub start_legs : NamesValue → Option Footpath → List Data
start_legs names None = []
start_legs names (Some f) = walk_leg names f ∷ []

-- each walk and each ride of the journey, in order
abbrev pub legs_data : ImageValue → JourneyValue → List Data
legs_data image journey = start_legs image.names journey.start ++ flat_map (ride_legs image) journey.rides
