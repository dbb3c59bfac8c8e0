-- Legs, walks and journeys, and which journeys count for a query. (Legs and footpaths: the Connection Scan Algorithm; walks of several footpaths are our own.)
use Rattle.std.specs.Prelude.{◌≡◌, ◌≢◌, ℕ, ◌+◌, ◌<◌, ◌≤◌, true, false, List, [], ◌∷◌, length, Contains, slice_index_or, Option, Some, None}
use Rattle.timetable.specs.declared.network.Connection.{Connection}
use Rattle.timetable.specs.declared.network.Footpath.{Footpath}
use Rattle.timetable.specs.declared.journey.Leg.{Leg}
use Rattle.timetable.specs.declared.query.Query.{Query}
use Rattle.timetable.specs.TimetableValue.{TimetableValue}
use Rattle.timetable.specs.JourneyValue.{RideValue, JourneyValue}

-- the connection at an index past the end of the list: nobody can board or leave it
abbrev pub no_connection : Connection
no_connection = record { from = 0; to = 0; dep = 0; arr = 0; trip = 0; board = false; alight = false }

-- the connection at an index
abbrev pub connection_at : TimetableValue → ℕ → Connection
connection_at t i = slice_index_or t.connections i no_connection

-- connections of one trip, boarded at the first and left at the last
pub record IsLeg (t : TimetableValue) (leg : Leg) : Type 0 where
  pub rising : leg.first ≤ leg.last
  pub in_range : leg.last < length t.connections
  pub one_trip : (connection_at t leg.first).trip ≡ (connection_at t leg.last).trip
  pub boards : (connection_at t leg.first).board ≡ true
  pub alights : (connection_at t leg.last).alight ≡ true

-- footpaths of the timetable, end to end, from a stop
abbrev pub IsWalk : TimetableValue → ℕ → List Footpath → Type 0
IsWalk t stop [] = Unit {0}
IsWalk t stop (f ∷ fs) = Contains t.footpaths f × (f.from ≡ stop) × IsWalk t f.to fs

-- where a walk from a stop ends
abbrev pub walk_end : ℕ → List Footpath → ℕ
walk_end stop [] = stop
walk_end stop (f ∷ fs) = walk_end f.to fs

-- the time of a walk, in seconds
abbrev pub walk_secs : List Footpath → ℕ
walk_secs [] = 0
walk_secs (f ∷ fs) = f.secs + walk_secs fs

-- where and when a ride is over, including its walk
abbrev pub stop_after : TimetableValue → RideValue → ℕ
stop_after t ride = walk_end (connection_at t ride.leg.last).to ride.walk

abbrev pub time_after : TimetableValue → RideValue → ℕ
time_after t ride = (connection_at t ride.leg.last).arr + walk_secs ride.walk

-- these rides lead from `stop`, at `time`, to `goal`: each begins at the stop where the one before ended, no earlier than it ended; only the last walk may be
-- empty
abbrev pub Leads : TimetableValue → ℕ → ℕ → ℕ → List RideValue → Type 0
Leads t goal stop time [] = stop ≡ goal
Leads t goal stop time (ride ∷ rides) =
    IsLeg t ride.leg
    × ((connection_at t ride.leg.first).from ≡ stop)
    × (time ≤ (connection_at t ride.leg.first).dep)
    × IsWalk t (connection_at t ride.leg.last).to ride.walk
    × (rides ≢ [] → ride.walk ≢ [])
    × Leads t goal (stop_after t ride) (time_after t ride) rides

-- when the rides are over; without rides, `time`
abbrev pub final_time : TimetableValue → ℕ → List RideValue → ℕ
final_time t time [] = time
final_time t time (ride ∷ rides) = final_time t (time_after t ride) rides

-- a start is empty, or one footpath from the source to another stop
abbrev pub IsStart : TimetableValue → ℕ → Option Footpath → Type 0
IsStart t source None = Unit {0}
IsStart t source (Some f) = Contains t.footpaths f × (f.from ≡ source) × (f.to ≢ source)

-- where the start ends
abbrev pub start_end : ℕ → Option Footpath → ℕ
start_end source None = source
start_end source (Some f) = f.to

-- the time of a start, in seconds
abbrev pub start_secs : Option Footpath → ℕ
start_secs None = 0
start_secs (Some f) = f.secs

-- the departure of the first leg
abbrev pub first_departure : TimetableValue → List RideValue → ℕ
first_departure t [] = 0
first_departure t (ride ∷ rides) = (connection_at t ride.leg.first).dep

-- a journey from the source to the target
pub record IsJourney (t : TimetableValue) (source target : ℕ) (j : JourneyValue) : Type 0 where
  pub starts : IsStart t source j.start
  pub has_rides : j.rides ≢ []
  pub leads : Leads t target (start_end source j.start) 0 j.rides

-- the journey departs `start_secs` before its first leg; a journey that would have to depart before second 0 has no departure
abbrev pub DepartsAt : TimetableValue → ℕ → JourneyValue → Type 0
DepartsAt t departure j = departure + start_secs j.start ≡ first_departure t j.rides

-- when the journey is over
abbrev pub arrival : TimetableValue → JourneyValue → ℕ
arrival t j = final_time t 0 j.rides

-- a journey from the query's source to its target: it departs at `departure`, no earlier than `from` and no later than `until`, and arrives no later than `by`
pub record Counts (t : TimetableValue) (q : Query) (departure : ℕ) (j : JourneyValue) : Type 0 where
  pub journey : IsJourney t q.source q.target j
  pub departs : DepartsAt t departure j
  pub not_early : q.from ≤ departure
  pub not_late : departure ≤ q.until
  pub arrives : arrival t j ≤ q.by
