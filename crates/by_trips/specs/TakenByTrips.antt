-- What is kept by arrival and trips, as a scan takes connections in.
use Rattle.std.specs.Prelude.{◌≡◌, ◌≤◌, ℕ, List, ◌++◌, map, Contains}
use Rattle.criteria.specs.Laws.{Admits}
use Rattle.criteria.specs.declared.arrival_trips.TimeTrips.{TimeTrips}
use Rattle.bags.specs.declared.point.Point.{Point}
use Rattle.fronts.specs.declared.labels.Label.{Label}
use Rattle.lanes.specs.Lanes.{trip_rules, IsBeaten}
use Rattle.lanes.specs.TripLanes.{front_labels, labels_at, trips_of}
use Rattle.lanes.specs.StopLanes.{stops_of}
use Rattle.lanes.specs.declared.words.Words.{Words}
use Rattle.scan_state.specs.Bound.{ExcludesMore}
use Rattle.scan_state.specs.Keeping.{AdmitsKept}
use Rattle.by_trips.specs.InLanes.{AreInLanes}
use Rattle.by_trips.specs.ByTrips.{AreByTrips, points_beyond, value_by_trips}
use Rattle.by_trips.specs.declared.by_trips.ByTrips.{ByTrips}
use Rattle.by_trips.specs.declared.in_lanes.InLanes.{InLanes}

-- points as labels: the departure is left out
abbrev pub point_labels : {V : Type 0} → List (Point V) → List (Label V)
point_labels points = map (λ p. record { value = p.value; tag = p.tag }) points

-- the labels of a trip: those in lanes, and then those beyond
abbrev pub labels_by_trips : ByTrips → ℕ → List (Label TimeTrips)
labels_by_trips kept trip = labels_at kept.lanes.trips trip ++ point_labels (points_beyond kept.beyond.labels.items trip)

-- labels of `trips` trips and points of `stops` stops, whose values are admitted; what the bound of their lanes outdoes, these values exclude
pub record AreUnderByTrips (stops trips : ℕ) (values : List TimeTrips) (kept : ByTrips) : Type 0 where
  pub are : AreByTrips stops trips values kept
  pub admitted : AdmitsKept trip_rules (value_by_trips kept)

-- a front has these values, but for those of more than eight trips, and no others
pub record IsFrontOf (values : List TimeTrips) (front : Words) : Type 0 where
  pub only : (l : Label TimeTrips) → Contains (front_labels front) l → Contains values l.value
  pub each : (b : TimeTrips) → Contains values b → b.trips ≤ 8 → IsBeaten (front_labels front) b

-- the bound of lanes may be made of these values: they are admitted, and exclude what older ones do
pub record CanRenew (values : List TimeTrips) (lanes : InLanes) : Type 0 where
  pub admitted : (b : TimeTrips) → Contains values b → Admits trip_rules b
  pub older : List TimeTrips
  pub are : AreInLanes (stops_of lanes.stops) (trips_of lanes.trips) older lanes
  pub excludes : ExcludesMore trip_rules older values

-- and nothing else changes
pub record RenewsBound (values : List TimeTrips) (old new : InLanes) : Type 0 where
  pub are : AreInLanes (stops_of old.stops) (trips_of old.trips) values new
  pub same : new ≡ record { trips = old.trips; stops = old.stops; exits = old.exits; bound = new.bound }
