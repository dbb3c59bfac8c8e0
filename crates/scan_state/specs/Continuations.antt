-- How one may go on to a target over the later connections: from a stop, in a trip, or with a whole journey.
use Rattle.std.specs.Prelude.{◌≡◌, ◌≢◌, ℕ, ◌+◌, ◌<◌, ◌≤◌, true, List, [], ◌∷◌, length, Contains}
use Rattle.criteria.specs.Laws.{Rules}
use Rattle.timetable.specs.declared.network.Footpath.{Footpath}
use Rattle.timetable.specs.TimetableValue.{TimetableValue}
use Rattle.timetable.specs.JourneyValue.{RideValue, JourneyValue}
use Rattle.timetable.specs.Journeys.{connection_at, IsWalk, walk_end, walk_secs, Leads, final_time}
use Rattle.scan_state.specs.SetQuery.{SetQueryValue, CountsBetween}
use Rattle.scan_state.specs.Values.{walked, ridden}

-- from a stop: a walk, and rides after it
pub record Onward : Type 0 where
  pub walk : List Footpath
  pub rides : List RideValue

-- in a trip: the last connection on board, a walk, and rides after it
pub record Aboard : Type 0 where
  pub last : ℕ
  pub walk : List Footpath
  pub rides : List RideValue

-- there is a first leg, and it boards connection i or a later one
abbrev pub BoardsFrom : ℕ → List RideValue → Type 0
BoardsFrom i [] = ⊥
BoardsFrom i (ride ∷ rides) = i ≤ ride.leg.first

-- from the stop, at the time, one walks over one or more footpaths, boards connection i or a later one, and is at a target by the query's latest arrival
pub record IsOnward (t : TimetableValue) (q : SetQueryValue) (i stop time : ℕ) (x : Onward) : Type 0 where
  pub walks : x.walk ≢ []
  pub is_walk : IsWalk t stop x.walk
  pub boards : BoardsFrom i x.rides
  pub goal : ℕ
  pub is_goal : Contains q.targets goal
  pub leads : Leads t goal (walk_end stop x.walk) (time + walk_secs x.walk) x.rides
  pub arrives : final_time t 0 x.rides ≤ q.by

-- when the walk after the trip is over, and when the rides after it are
abbrev pub time_off : TimetableValue → Aboard → ℕ
time_off t x = (connection_at t x.last).arr + walk_secs x.walk

abbrev pub time_there : TimetableValue → Aboard → ℕ
time_there t x = final_time t (time_off t x) x.rides

-- in the trip, one stays up to connection i or a later one, gets off there, and is at a target by the query's latest arrival; before a further ride one walks
pub record IsAboard (t : TimetableValue) (q : SetQueryValue) (i trip : ℕ) (x : Aboard) : Type 0 where
  pub later : i ≤ x.last
  pub in_range : x.last < length t.connections
  pub on_trip : (connection_at t x.last).trip ≡ trip
  pub alights : (connection_at t x.last).alight ≡ true
  pub is_walk : IsWalk t (connection_at t x.last).to x.walk
  pub walks : x.rides ≢ [] → x.walk ≢ []
  pub goal : ℕ
  pub is_goal : Contains q.targets goal
  pub leads : Leads t goal (walk_end (connection_at t x.last).to x.walk) (time_off t x) x.rides
  pub arrives : time_there t x ≤ q.by

-- a journey that counts and boards connection i or a later one
pub record CountsFrom (t : TimetableValue) (q : SetQueryValue) (i departure : ℕ) (j : JourneyValue) : Type 0 where
  pub counts : CountsBetween t q departure j
  pub boards : BoardsFrom i j.rides

-- the values of ways to go on; in a trip, the value of what comes after leaving it, without the ride in it
abbrev pub onward_value : {V : Type 0} → Rules V → TimetableValue → Onward → V
onward_value rules t x = walked rules x.walk (ridden rules (final_time t 0 x.rides) x.rides)

abbrev pub aboard_value : {V : Type 0} → Rules V → TimetableValue → Aboard → V
aboard_value rules t x = walked rules x.walk (ridden rules (time_there t x) x.rides)
