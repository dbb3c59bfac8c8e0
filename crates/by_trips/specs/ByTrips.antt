-- What is kept of trips and stops by arrival and trips: in lanes, and beyond them.
use Rattle.std.specs.Prelude.{◌≡◌, ◌≢◌, ◌⊎◌, ℕ, ◌<◌, ◌≤◌, Bool, List, [], ◌∷◌, ◌++◌, length, Contains, Option, Some, None, slice_get}
use Rattle.criteria.specs.Laws.{Rules, Admits}
use Rattle.criteria.specs.declared.arrival_trips.TimeTrips.{TimeTrips}
use Rattle.bags.specs.Bag.{points_of}
use Rattle.bags.specs.Dominance.{Stands, Inserted}
use Rattle.bags.specs.declared.bag.Bag.{Bag}
use Rattle.bags.specs.declared.point.Point.{Point}
use Rattle.timetable.specs.declared.network.Footpath.{Footpath}
use Rattle.timetable.specs.TimetableValue.{TimetableValue}
use Rattle.fronts.specs.declared.entry.Boarding.{Boarding}
use Rattle.lanes.specs.Lanes.{trip_rules}
use Rattle.lanes.specs.TripLanes.{labels_at, trips_of}
use Rattle.lanes.specs.StopLanes.{points_at, steps_of, stops_of, tags_at}
use Rattle.scan_state.specs.SetQuery.{SetQueryValue}
use Rattle.scan_state.specs.Matching.{Spellings}
use Rattle.scan_state.specs.Continuations.{Aboard}
use Rattle.scan_state.specs.Steps.{Offer, boarded}
use Rattle.scan_state.specs.Bound.{Excludes}
use Rattle.scan_state.specs.Adding.{label_points, one_way, only_if}
use Rattle.scan_state.specs.ScanRecords.{KeptValue}
use Rattle.scan_state.specs.Hops.{IsHop, IsHopOf}
use Rattle.scan_state.specs.Keeping.{Leaves}
use Rattle.scan_state.specs.KeptParts.{BagsTake, boards_all}
use Rattle.by_trips.specs.InLanes.{AreInLanes, exits_in}
use Rattle.by_trips.specs.declared.by_trips.Beyond.{Beyond}
use Rattle.by_trips.specs.declared.by_trips.ByTrips.{ByTrips}
use Rattle.scan_state.specs.declared.hop.Hop.{Hop}
use Rattle.scan_state.specs.declared.starts.Starts.{Starts}

-- the points of a bag, if there is one
abbrev pub bag_points : {K V : Type 0} {c : _} → Option (Bag K V c) → List (Point V)
bag_points None = []
bag_points (Some bag) = points_of bag

-- the points of bag k
abbrev pub points_beyond : {K V : Type 0} {c : _} → List (Bag K V c) → ℕ → List (Point V)
points_beyond bags k = bag_points (slice_get bags k)

-- what is in lanes, and then what is beyond them
abbrev pub value_by_trips : ByTrips → KeptValue TimeTrips
value_by_trips kept = record {
  bag = λ stop. points_at kept.lanes.stops stop ++ points_beyond kept.beyond.points.items stop;
  labels = λ trip. label_points (labels_at kept.lanes.trips trip) ++ points_beyond kept.beyond.labels.items trip;
  exits = exits_in (tags_at kept.lanes.stops) kept.lanes.exits.items;
  steps = steps_of kept.lanes.stops;
}

-- there are no bags yet, or one for each trip and one for each stop
abbrev pub AreBeyond : ℕ → ℕ → Beyond → Type 0
AreBeyond stops trips beyond =
    ((beyond.labels.items ≡ []) × (beyond.points.items ≡ [])) ⊎ ((length beyond.labels.items ≡ trips) × (length beyond.points.items ≡ stops))

-- labels of `trips` trips and points of `stops` stops; what the bound of their lanes outdoes, these values exclude
pub record AreByTrips (stops trips : ℕ) (values : List TimeTrips) (kept : ByTrips) : Type 0 where
  pub in_lanes : AreInLanes stops trips values kept.lanes
  pub beyond : AreBeyond stops trips kept.beyond

-- a point is inserted into bag k, if it stands; other bags stay
pub record IsInsertedAt {K V : Type 0} {c : _} (rules : Rules V) (k : ℕ) (p : Point V) (stands : Bool) (old new : List (Bag K V c)) : Type 0 where
  pub long : length new ≡ length old
  pub stands_is : Stands rules (points_beyond old k) p stands
  pub inserted : Inserted rules (points_beyond old k) p stands (points_beyond new k)
  pub elsewhere : (m : ℕ) → m ≢ k → points_beyond new m ≡ points_beyond old m

-- there is a bag for each stop and each trip, with the points that there were
pub record IsFilled (stops trips : ℕ) (old new : Beyond) : Type 0 where
  pub trips_are : length new.labels.items ≡ trips
  pub stops_are : length new.points.items ≡ stops
  pub labels : (k : ℕ) → points_beyond new.labels.items k ≡ points_beyond old.labels.items k
  pub points : (k : ℕ) → points_beyond new.points.items k ≡ points_beyond old.points.items k

-- labels take something in; points stay, and bags are only added
pub record RelabelsByTrips (values : List TimeTrips) (Takes : KeptValue TimeTrips → KeptValue TimeTrips → Type 0) (old new : ByTrips) : Type 0 where
  pub are : AreByTrips (stops_of old.lanes.stops) (trips_of old.lanes.trips) values new
  pub stops : new.lanes.stops ≡ old.lanes.stops
  pub points : (stop : ℕ) → points_beyond new.beyond.points.items stop ≡ points_beyond old.beyond.points.items stop
  pub bags : length old.beyond.points.items ≤ length new.beyond.points.items
  pub takes : Takes (value_by_trips old) (value_by_trips new)

-- a hop's trip may be left, and its stop has points
pub record CanLeaveByTrips (q : SetQueryValue) (here : Hop TimeTrips) (kept : ByTrips) : Type 0 where
  pub hop : IsHop trip_rules q here
  pub are : AreByTrips (stops_of kept.lanes.stops) (trips_of kept.lanes.trips) here.bound.now kept
  pub trip : here.connection.trip < trips_of kept.lanes.trips
  pub stop : here.connection.to < stops_of kept.lanes.stops

-- it is left
pub record LeavesByTrips (q : SetQueryValue) (hop : Hop TimeTrips) (old new : ByTrips) : Type 0 where
  pub are : AreByTrips (stops_of old.lanes.stops) (trips_of old.lanes.trips) hop.bound.now new
  pub leaves : Leaves trip_rules q hop (value_by_trips old) (value_by_trips new)

-- passengers may board the connection of a hop
pub record CanBoardByTrips (t : TimetableValue) (query : SetQueryValue) (known : Starts) (here : Hop TimeTrips) (kept : ByTrips) : Type 0 where
  pub hop : IsHopOf trip_rules t query known here
  pub are : AreByTrips t.stops t.trips here.bound.now kept

-- there are bags, for so many stops and trips
pub record HasBags (stops trips : ℕ) (here : Hop TimeTrips) (kept : ByTrips) : Type 0 where
  pub are : AreInLanes stops trips here.bound.now kept.lanes
  pub values : (b : TimeTrips) → Contains here.bound.now b → Admits trip_rules b
  pub labels : length kept.beyond.labels.items ≡ trips
  pub points : length kept.beyond.points.items ≡ stops

-- passengers may board with labels of the hop's trip that are beyond lanes after a footpath
pub record CanBoardBeyond (here : Hop TimeTrips) (walk : Footpath) (kept : ByTrips) : Type 0 where
  pub has : HasBags (stops_of kept.lanes.stops) (trips_of kept.lanes.trips) here kept
  pub trip : here.connection.trip < trips_of kept.lanes.trips
  pub stop : walk.from < stops_of kept.lanes.stops

-- points of stops beyond lanes take something in; labels and the points in lanes stay
pub record BoardsBeyond (stops trips : ℕ) (hop : Hop TimeTrips) (Takes : KeptValue TimeTrips → KeptValue TimeTrips → Type 0) (old new : ByTrips)
    : Type 0 where
  pub has : HasBags stops trips hop new
  pub labels : new.beyond.labels ≡ old.beyond.labels
  pub trips_same : new.lanes.trips ≡ old.lanes.trips
  pub points : (stop : ℕ) → points_at new.lanes.stops stop ≡ points_at old.lanes.stops stop
  pub takes : Takes (value_by_trips old) (value_by_trips new)

-- what boarding with a label after a footpath offers to a stop: a point where the footpath begins
abbrev pub boarding_of : Footpath → Boarding → ℕ → Spellings → Point TimeTrips → Offer (Unit {0}) TimeTrips
boarding_of walk boarding stop tags label = only_if (walk.from ≡ stop) (one_way boarding.departure (trip_rules.ride label.value)
    (λ tag. (x : Aboard) → tags.earlier.aboard label.tag ≡ Some x
    → tags.later.onward tag ≡ Some (record { walk = walk ∷ []; rides = boarded boarding.first x })))

-- the points of each stop take that in, unless the bound excludes the label
abbrev pub boards_label : Hop TimeTrips → Footpath → Boarding → Point TimeTrips → KeptValue TimeTrips → KeptValue TimeTrips → Type 0
boards_label hop walk boarding label =
    BagsTake trip_rules (λ walks. slice_get walks boarding.walk ≡ Some walk) (λ _. Excludes trip_rules hop.bound.now label.value)
    (λ stop tags. boarding_of walk boarding stop tags label)

-- the points of each stop take in all boardings of a hop's connection, but for labels that the bound excludes
pub record BoardsByTrips (t : TimetableValue) (hop : Hop TimeTrips) (old new : ByTrips) : Type 0 where
  pub are : AreByTrips t.stops t.trips hop.bound.now new
  pub takes : boards_all trip_rules t hop ((value_by_trips old).labels hop.connection.trip) (value_by_trips old) (value_by_trips new)
