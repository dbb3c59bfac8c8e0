-- What lists keep of trips and stops, and what of a connection they take in.
use Rattle.std.specs.Prelude.{◌≡◌, ◌<◌, ℕ, List, Contains, vec_len}
use Rattle.criteria.specs.Laws.{Rules, Admits, IsSecs}
use Rattle.bags.specs.declared.point.Point.{Point}
use Rattle.timetable.specs.declared.network.Footpath.{Footpath}
use Rattle.timetable.specs.TimetableValue.{TimetableValue}
use Rattle.fronts.specs.Labels.{AreLabels, AreStillLabels, HasTrip, trips_of}
use Rattle.fronts.specs.Lists.{steps_of}
use Rattle.fronts.specs.declared.entry.RiddenLabel.{RiddenLabel}
use Rattle.fronts.specs.declared.labels.Label.{Label}
use Rattle.scan_state.specs.Adding.{AreRidden, AreWalksInto, trip_points}
use Rattle.scan_state.specs.ScanRecords.{KeptValue}
use Rattle.scan_state.specs.ScanState.{AreStops, points_at}
use Rattle.scan_state.specs.SetQuery.{SetQueryValue, question}
use Rattle.scan_state.specs.Hops.{IsHop, IsHopOf}
use Rattle.scan_state.specs.Keeping.{AdmitsKept}
use Rattle.scan_state.specs.Parts.{AdmitsLabels}
use Rattle.scan_state.specs.declared.hop.Hop.{Hop}
use Rattle.scan_state.specs.declared.hop.ScanQuery.{ScanQuery}
use Rattle.scan_state.specs.declared.in_lists.InLists.{InLists}
use Rattle.scan_state.specs.declared.stops.Stops.{Stops}
use Rattle.scan_state.specs.declared.trips.Trips.{Trips}

abbrev pub kept_by : {K V : Type 0} → Trips K V → Stops K V → KeptValue V
kept_by trips stops = record {
  bag = points_at stops;
  labels = trip_points trips.labels;
  exits = trips.exits.items;
  steps = steps_of stops.lists;
}

abbrev pub value_in : {K V : Type 0} → InLists K V → KeptValue V
value_in lists = kept_by lists.trips lists.stops

-- lists for `stops` stops and `trips` trips, under a criterion
pub record AreLists {K V : Type 0} (rules_of : K → Rules V) (criterion : K) (stops trips : ℕ) (lists : InLists K V) : Type 0 where
  pub at_stops : AreStops rules_of criterion stops lists.stops
  pub long : trips_of lists.trips.labels ≡ trips
  pub labels : AreLabels (rules_of criterion) lists.trips.labels
  pub admitted : AdmitsKept (rules_of criterion) (value_in lists)

-- where the trip of a hop is left: the hop is within what the laws are about, and there is such a trip
pub record CanLeave {K V : Type 0} (rules : Rules V) (q : SetQueryValue) (here : Hop V) (trips : Trips K V) : Type 0 where
  pub hop : IsHop rules q here
  pub trip : HasTrip rules trips.labels here.connection.trip

-- and there is a list for the stop where the hop's connection ends
pub record CanChange {K V : Type 0} (rules_of : K → Rules V) (criterion : K) (q : SetQueryValue) (here : Hop V) (trips : Trips K V)
    (kept : Stops K V) : Type 0 where
  pub can : CanLeave (rules_of criterion) q here trips
  pub stop : here.connection.to < vec_len kept.heads
  pub stops : AreStops rules_of criterion (vec_len kept.heads) kept

-- trips take something in, whatever is kept of stops
pub record TripsTake {K V : Type 0} (rules : Rules V) (Takes : KeptValue V → KeptValue V → Type 0) (old new : Trips K V) : Type 0 where
  pub labels : AreStillLabels rules old.labels new.labels
  pub takes : (stops : Stops K V) → Takes (kept_by old stops) (kept_by new stops)

-- stops do, whatever is kept of trips
pub record StopsTake {K V : Type 0} (rules_of : K → Rules V) (criterion : K) (Takes : KeptValue V → KeptValue V → Type 0) (old new : Stops K V)
    : Type 0 where
  pub stops : AreStops rules_of criterion (vec_len old.heads) new
  pub takes : (trips : Trips K V) → Takes (kept_by trips old) (kept_by trips new)

-- stops take in what is offered by labels of which these are the ridden values; they stay
pub record BoardsRidden {K V : Type 0} (rules_of : K → Rules V) (criterion : K) (Takes : List (Point V) → KeptValue V → KeptValue V → Type 0)
    (old new : Stops K V) : Type 0 where
  pub stops : AreStops rules_of criterion (vec_len old.heads) new
  pub ridden : new.ridden.items ≡ old.ridden.items
  pub takes : (labels : List (Point V)) → AreRidden (rules_of criterion) labels old.ridden.items
      → (trips : Trips K V) → Takes labels (kept_by trips old) (kept_by trips new)

-- passengers may board with the ridden values after a footpath
pub record CanBoardAfter {K V : Type 0} (rules_of : K → Rules V) (criterion : K) (walk : Footpath) (kept : Stops K V) : Type 0 where
  pub secs : IsSecs walk.secs
  pub stop : walk.from < vec_len kept.heads
  pub stops : AreStops rules_of criterion (vec_len kept.heads) kept
  pub ridden : (r : RiddenLabel V) → Contains kept.ridden.items r → Admits (rules_of criterion) r.value

-- the same after each of the footpaths at the indices `begin..end`, which lead to the stop where the connection begins
pub record CanBoardAfterEach {K V : Type 0} (rules_of : K → Rules V) (criterion : K) (t : TimetableValue) (begin end : ℕ) (hop : Hop V)
    (kept : Stops K V) : Type 0 where
  pub walks : AreWalksInto t hop.connection.from begin end
  pub stops : AreStops rules_of criterion t.stops kept
  pub ridden : (r : RiddenLabel V) → Contains kept.ridden.items r → Admits (rules_of criterion) r.value

-- the same at a hop, with labels of its trip
pub record CanBoard {K V : Type 0} (rules_of : K → Rules V) (t : TimetableValue) (query : ScanQuery K) (here : Hop V) (of_trip : List (Label V))
    (kept : Stops K V) : Type 0 where
  pub hop : IsHopOf (rules_of query.criterion) t (question query.query) query.starts here
  pub stops : AreStops rules_of query.criterion t.stops kept
  pub labels : AdmitsLabels (rules_of query.criterion) of_trip
