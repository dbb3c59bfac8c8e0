-- The first fault of a journey for a query: of its legs, then of its walks, then of the times at which legs depart, then of where the journey begins and ends,
-- and last of when.
use Rattle.std.specs.Prelude.{ℕ, ◌+◌, ◌-◌, ◌<◌, Bool, true, false, not, ◌||◌, ◌&&◌, ◌==◌, nat_lt, nat_le, List, [], ◌∷◌, length, slice_index_or}
use Rattle.std.specs.Prelude.{Option, Some, None, if◌then◌else◌}
use Rattle.std.specs.List.{list_any, list_all}
use Rattle.std.specs.Option.{option_or}
use Rattle.reasoning.specs.First.{first_below, first_between}
use Rattle.timetable.specs.declared.network.Footpath.{Footpath}
use Rattle.timetable.specs.declared.journey.Leg.{Leg}
use Rattle.timetable.specs.declared.query.Query.{Query}
use Rattle.timetable.specs.TimetableValue.{TimetableValue}
use Rattle.timetable.specs.JourneyValue.{RideValue, JourneyValue}
use Rattle.timetable.specs.Journeys.{IsLeg, connection_at, start_secs, stop_after, time_after}
use Rattle.journeys.specs.declared.fault.JourneyFault.{JourneyFault}
use Rattle.journeys.specs.declared.fault.JourneyFault.TheVariants.{LegRange, TwoTrips, NoBoarding, NoAlighting, NoFootpath, WalkBroken, TooEarly}
use Rattle.journeys.specs.declared.fault.JourneyFault.TheVariants.{WrongEnds, OutsideWindow}

-- the ride at an index past the last
abbrev pub no_ride : RideValue
no_ride = record { leg = record { first = 0; last = 0 }; walk = [] }

-- ride i: leg i and the walk after it
abbrev pub ride_at : List RideValue → ℕ → RideValue
ride_at rides i = slice_index_or rides i no_ride

-- where and when leg i departs
abbrev pub leg_stop : TimetableValue → List RideValue → ℕ → ℕ
leg_stop t rides i = (connection_at t (ride_at rides i).leg.first).from

abbrev pub leg_time : TimetableValue → List RideValue → ℕ → ℕ
leg_time t rides i = (connection_at t (ride_at rides i).leg.first).dep

-- where leg i ends
abbrev pub leg_end : TimetableValue → List RideValue → ℕ → ℕ
leg_end t rides i = (connection_at t (ride_at rides i).leg.last).to

-- what is wrong with leg i
unfoldable pub leg_fault : TimetableValue → ℕ → Leg → Option JourneyFault
leg_fault t i leg =
    if nat_lt leg.last leg.first || nat_le (length t.connections) leg.last then Some (LegRange i)
    else (if not ((connection_at t leg.first).trip == (connection_at t leg.last).trip) then Some (TwoTrips i)
    else (if not (connection_at t leg.first).board then Some (NoBoarding i)
    else (if not (connection_at t leg.last).alight then Some (NoAlighting i)
    else None)))

-- the first fault of the legs; a journey has at least one
unfoldable pub legs_fault : TimetableValue → List RideValue → Option JourneyFault
legs_fault t rides =
    if length rides == 0 then Some (LegRange 0)
    else first_below (λ i. leg_fault t i (ride_at rides i).leg) (length rides)

-- each leg is one of the timetable
abbrev pub AreLegs : TimetableValue → List RideValue → Type 0
AreLegs t rides = (i : ℕ) → i < length rides → IsLeg t (ride_at rides i).leg

abbrev pub is_same : Footpath → Footpath → Bool
is_same f g = f.from == g.from && (f.to == g.to && f.secs == g.secs)

-- the timetable has the footpath, with these seconds
unfoldable pub has_footpath : TimetableValue → Footpath → Bool
has_footpath t f = list_any (λ g. is_same g f) t.footpaths

-- the stop that footpaths, end to end, lead to from a stop; None if they don't join
abbrev pub led_to : ℕ → List Footpath → Option ℕ
led_to stop [] = Some stop
led_to stop (f ∷ fs) = if f.from == stop then led_to f.to fs else None

-- what is wrong with walk i: it has a footpath that the timetable doesn't have, or it is broken. Walk 0 is the start; any other walk i comes after leg i - 1
abbrev pub walk_fault : TimetableValue → ℕ → List Footpath → Bool → Option JourneyFault
walk_fault t i walk broken =
    if not (list_all (has_footpath t) walk) then Some (NoFootpath i)
    else (if broken then Some (WalkBroken i)
    else None)

-- what is wrong with a start, which has to lead to another stop, where the first leg departs
abbrev pub start_fault : TimetableValue → Option Footpath → ℕ → Option JourneyFault
start_fault t None stop = None
start_fault t (Some f) stop = walk_fault t 0 (f ∷ []) (f.from == f.to || not (f.to == stop))

abbrev pub is_elsewhere : Option ℕ → ℕ → Bool
is_elsewhere None goal = true
is_elsewhere (Some stop) goal = not (stop == goal)

abbrev pub is_nowhere : Option ℕ → Bool
is_nowhere None = true
is_nowhere (Some stop) = false

-- whether the walk after leg i is broken. Between two legs it needs a footpath and has to lead to where the next leg departs; the last one may be empty and
-- lead anywhere
unfoldable pub is_broken : TimetableValue → List RideValue → ℕ → Bool
is_broken t rides i =
    if nat_lt (i + 1) (length rides) then length (ride_at rides i).walk == 0 || is_elsewhere (led_to (leg_end t rides i) (ride_at rides i).walk)
    (leg_stop t rides (i + 1))
    else is_nowhere (led_to (leg_end t rides i) (ride_at rides i).walk)

unfoldable pub walk_after_fault : TimetableValue → List RideValue → ℕ → Option JourneyFault
walk_after_fault t rides i = walk_fault t (i + 1) (ride_at rides i).walk (is_broken t rides i)

-- the first fault of the walks
unfoldable pub walks_fault : TimetableValue → Option Footpath → List RideValue → Option JourneyFault
walks_fault t start rides = option_or (start_fault t start (leg_stop t rides 0)) (first_below (walk_after_fault t rides) (length rides))

-- leg i departs before the previous ride is over
unfoldable pub early_fault : TimetableValue → List RideValue → ℕ → Option JourneyFault
early_fault t rides i =
    if nat_lt (leg_time t rides i) (time_after t (ride_at rides (i - 1))) then Some (TooEarly i)
    else None

-- the first leg that departs too early, which leg 0 never does
unfoldable pub times_fault : TimetableValue → List RideValue → Option JourneyFault
times_fault t rides = first_between (early_fault t rides) 1 (length rides)

-- where a journey begins
abbrev pub begin_of : Option Footpath → ℕ → ℕ
begin_of None stop = stop
begin_of (Some f) stop = f.from

-- where the last ride ends, and when it is over
abbrev pub end_of : TimetableValue → List RideValue → ℕ
end_of t rides = stop_after t (ride_at rides (length rides - 1))

abbrev pub over_at : TimetableValue → List RideValue → ℕ
over_at t rides = time_after t (ride_at rides (length rides - 1))

-- the journey doesn't begin at the source, or doesn't end at the target
unfoldable pub ends_fault : TimetableValue → Query → Option Footpath → List RideValue → Option JourneyFault
ends_fault t q start rides =
    if not (begin_of start (leg_stop t rides 0) == q.source) || not (end_of t rides == q.target) then Some WrongEnds
    else None

-- the journey departs earlier or later than the query allows, or is over too late. (The start's seconds are added, not subtracted: so a departure before second
-- 0 is too early for every query.)
unfoldable pub window_fault : TimetableValue → Query → Option Footpath → List RideValue → Option JourneyFault
window_fault t q start rides =
    if nat_lt (leg_time t rides 0) (q.from + start_secs start) || nat_lt (q.until + start_secs start) (leg_time t rides 0) || nat_lt q.by
    (over_at t rides) then Some OutsideWindow
    else None

-- the first fault of legs and walks, and of where the journey begins and ends
unfoldable pub path_fault : TimetableValue → Query → Option Footpath → List RideValue → Option JourneyFault
path_fault t q start rides =
    option_or (legs_fault t rides)
    (option_or (walks_fault t start rides)
    (option_or (times_fault t rides)
    (ends_fault t q start rides)))

-- the first fault of all
unfoldable pub first_fault : TimetableValue → Query → JourneyValue → Option JourneyFault
first_fault t q j = option_or (path_fault t q j.start j.rides) (window_fault t q j.start j.rides)
