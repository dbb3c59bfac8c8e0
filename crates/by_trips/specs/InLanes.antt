-- What lanes keep of trips and stops.
use Rattle.std.specs.Prelude.{◌≡◌, ◌⊎◌, ℕ, ◌<◌, List, [], ◌∷◌, Bool, MatchBool, slice_get, Some, Contains}
use Rattle.criteria.specs.Laws.{Admits, NoWorse}
use Rattle.criteria.specs.declared.arrival_trips.TimeTrips.{TimeTrips}
use Rattle.timetable.specs.declared.network.Footpath.{Footpath}
use Rattle.timetable.specs.TimetableValue.{TimetableValue}
use Rattle.fronts.specs.declared.labels.Label.{Label}
use Rattle.lanes.specs.Lanes.{trip_rules, IsOutdone}
use Rattle.lanes.specs.LaneLists.{word_tag}
use Rattle.lanes.specs.TripLanes.{front_labels, labels_at, trips_of}
use Rattle.lanes.specs.StopLanes.{AreStopLanes, entries_of, front_at, points_at, steps_of, stops_of, tags_at}
use Rattle.scan_state.specs.SetQuery.{SetQueryValue}
use Rattle.scan_state.specs.Bound.{Excludes}
use Rattle.scan_state.specs.Adding.{AreWalksInto, changes_from, label_points}
use Rattle.scan_state.specs.ScanRecords.{KeptValue}
use Rattle.scan_state.specs.Hops.{IsHop, IsHopOf}
use Rattle.scan_state.specs.KeptParts.{LabelsTake, takes_changes}
use Rattle.scan_state.specs.declared.hop.Hop.{Hop}
use Rattle.by_trips.specs.declared.in_lanes.InLanes.{InLanes}
use Rattle.by_trips.specs.declared.in_lanes.LaneExit.{LaneExit}
use Rattle.by_trips.specs.declared.in_lanes.LaneExit.TheVariants.{Ends as EndsLane, Changes as ChangesLane, ChangesToStep as ToStep}
use Rattle.scan_state.specs.declared.scan_records.Exit.{Exit}
use Rattle.scan_state.specs.declared.scan_records.Exit.TheVariants.{Ends, Changes}
use Rattle.scan_state.specs.declared.starts.Starts.{Starts}

-- the exit of a label of k trips, given the tags of entries
abbrev pub exit_of : (ℕ → List ℕ) → LaneExit → ℕ → Exit
exit_of tags (EndsLane last walk) k = Ends last walk
exit_of tags (ChangesLane last entry) k = Changes last (word_tag (tags entry) k)
exit_of tags (ToStep last step) k = Changes last step

-- eight exits of each
abbrev pub exits_in : (ℕ → List ℕ) → List LaneExit → List Exit
exits_in tags [] = []
exits_in tags (x ∷ xs) =
    exit_of tags x 0 ∷ exit_of tags x 1 ∷ exit_of tags x 2 ∷ exit_of tags x 3 ∷ exit_of tags x 4 ∷ exit_of tags x 5 ∷ exit_of tags x 6
    ∷ exit_of tags x 7 ∷ exits_in tags xs

abbrev pub value_of : InLanes → KeptValue TimeTrips
value_of lanes = record {
  bag = points_at lanes.stops;
  labels = λ trip. label_points (labels_at lanes.trips trip);
  exits = exits_in (tags_at lanes.stops) lanes.exits.items;
  steps = steps_of lanes.stops;
}

-- an exit to change names an entry
abbrev pub LeadsWithin : ℕ → LaneExit → Type 0
LeadsWithin entries (EndsLane last walk) = Unit {0}
LeadsWithin entries (ChangesLane last entry) = entry < entries
LeadsWithin entries (ToStep last step) = Unit {0}

-- lanes for `stops` stops and `trips` trips; what their bound outdoes, these values exclude
pub record AreInLanes (stops trips : ℕ) (values : List TimeTrips) (lanes : InLanes) : Type 0 where
  pub at_stops : AreStopLanes lanes.stops
  pub stops_are : stops_of lanes.stops ≡ stops
  pub trips_are : trips_of lanes.trips ≡ trips
  pub exits : (k : ℕ) (x : LaneExit) → slice_get lanes.exits.items k ≡ Some x → LeadsWithin (entries_of lanes.stops) x
  pub excludes : (v : TimeTrips) → Admits trip_rules v → IsOutdone (front_labels lanes.bound) v → Excludes trip_rules values v

-- a hop's trip may be left, and its stop has points
pub record CanLeaveLanes (q : SetQueryValue) (here : Hop TimeTrips) (lanes : InLanes) : Type 0 where
  pub hop : IsHop trip_rules q here
  pub are : AreInLanes (stops_of lanes.stops) (trips_of lanes.trips) here.bound.now lanes
  pub trip : here.connection.trip < trips_of lanes.trips
  pub stop : here.connection.to < stops_of lanes.stops

-- labels take something in; stops stay
pub record LaneTakes (values : List TimeTrips) (Takes : KeptValue TimeTrips → KeptValue TimeTrips → Type 0) (old new : InLanes) : Type 0 where
  pub are : AreInLanes (stops_of old.stops) (trips_of old.trips) values new
  pub stops : new.stops ≡ old.stops
  pub takes : Takes (value_of old) (value_of new)

-- passengers may board with the labels of the hop's trip after a footpath
pub record CanBoardLanes (here : Hop TimeTrips) (walk : Footpath) (lanes : InLanes) : Type 0 where
  pub are : AreInLanes (stops_of lanes.stops) (trips_of lanes.trips) here.bound.now lanes
  pub trip : here.connection.trip < trips_of lanes.trips
  pub stop : walk.from < stops_of lanes.stops

-- the same after each of the footpaths at the indices `begin..end`, which lead to the stop where the connection begins
pub record CanBoardLanesEach (t : TimetableValue) (begin end : ℕ) (here : Hop TimeTrips) (lanes : InLanes) : Type 0 where
  pub walks : AreWalksInto t here.connection.from begin end
  pub are : AreInLanes t.stops t.trips here.bound.now lanes
  pub trip : here.connection.trip < t.trips

-- passengers may board the connection of a hop
pub record CanBoardHop (t : TimetableValue) (query : SetQueryValue) (known : Starts) (here : Hop TimeTrips) (lanes : InLanes) : Type 0 where
  pub hop : IsHopOf trip_rules t query known here
  pub are : AreInLanes t.stops t.trips here.bound.now lanes

-- points of stops take something in; trips stay
pub record LaneBoards (stops trips : ℕ) (values : List TimeTrips) (Takes : KeptValue TimeTrips → KeptValue TimeTrips → Type 0) (old new : InLanes)
    : Type 0 where
  pub are : AreInLanes stops trips values new
  pub trips_same : new.trips ≡ old.trips
  pub takes : Takes (value_of old) (value_of new)

-- one of some labels has eight trips, and is no worse than v
abbrev pub IsBeatenByEight : List (Label TimeTrips) → TimeTrips → Type 0
IsBeatenByEight labels v = (l : Label TimeTrips) × Contains labels l × (l.value.trips ≡ 8) × NoWorse trip_rules l.value v

abbrev pub changes_in_lanes : Hop TimeTrips → Bool → InLanes → InLanes → Type 0
changes_in_lanes hop changed old new =
    MatchBool changed (LaneTakes hop.bound.now (takes_changes trip_rules hop (points_at old.stops hop.connection.to)) old new) (new ≡ old)

-- changes are offered but for those that a value of eight trips outdoes, of the front of an entry
abbrev pub changes_but_eight : Hop TimeTrips → ℕ → InLanes → InLanes → Type 0
changes_but_eight hop entry old =
    LaneTakes hop.bound.now (LabelsTake trip_rules hop.connection.trip
    (λ p. Excludes trip_rules hop.bound.now p.value ⊎ IsBeatenByEight (front_at old.stops entry) p.value)
    (λ tags. changes_from tags hop.place hop.connection.arr (points_at old.stops hop.connection.to))) old
