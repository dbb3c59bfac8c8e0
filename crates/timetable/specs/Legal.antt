-- What makes a timetable legal. (Dibbelt, Pajor, Strasser, Wagner: Connection Scan Algorithm, ACM JEA 2018. Loops as change times and
-- hops of positive length are our own.)
use Rattle.std.specs.Prelude.{◌≡◌, ◌≢◌, ℕ, ◌+◌, ◌<◌, ◌≤◌, List, slice_get, Some}
use Rattle.timetable.specs.declared.network.Connection.{Connection}
use Rattle.timetable.specs.declared.network.Footpath.{Footpath}
use Rattle.timetable.specs.TimetableValue.{TimetableValue}

-- the list has `x` at index `i`
abbrev pub At : {X : Type 0} → List X → ℕ → X → Type 0
At xs i x = slice_get xs i ≡ Some x

-- the list has the footpath at some index
abbrev pub HasFootpath : List Footpath → ℕ → ℕ → ℕ → Type 0
HasFootpath paths from to secs = (i : ℕ) × At paths i (record { from = from; to = to; secs = secs })

-- `c`, at index `i`, is the connection just before `d`, at index `j`, of the same trip: the trip has none between them
pub record IsJustBefore (cs : List Connection) (i j : ℕ) (c d : Connection) : Type 0 where
  pub first : At cs i c
  pub second : At cs j d
  pub before : i < j
  pub same_trip : c.trip ≡ d.trip
  pub none_between : (k : ℕ) (e : Connection) → At cs k e → i < k → k < j → e.trip ≢ d.trip

-- the order of footpaths: by the stop that they lead to, then by the stop that they leave, each pair of stops once
abbrev pub IsOrderedBefore : Footpath → Footpath → Type 0
IsOrderedBefore d e = (d.to ≤ e.to) × (d.to ≡ e.to → d.from < e.from)

-- each footpath of the list comes before the next in this order
abbrev pub AreInOrder : List Footpath → Type 0
AreInOrder paths = (i : ℕ) (d e : Footpath) → At paths i d → At paths (i + 1) e → IsOrderedBefore d e

-- a legal timetable: whatever is proved of its journeys assumes this
pub record IsLegal (t : TimetableValue) : Type 0 where
  -- stops and trips are in range
  pub stops_in_range : (i : ℕ) (c : Connection) → At t.connections i c → (c.from < t.stops) × (c.to < t.stops)
  pub trips_in_range : (i : ℕ) (c : Connection) → At t.connections i c → c.trip < t.trips
  pub ends_in_range : (i : ℕ) (f : Footpath) → At t.footpaths i f → (f.from < t.stops) × (f.to < t.stops)
  -- each arrival is after its departure
  pub takes_time : (i : ℕ) (c : Connection) → At t.connections i c → c.dep < c.arr
  -- departures never fall along the list
  pub departures_never_fall : (i : ℕ) (c d : Connection) → At t.connections i c → At t.connections (i + 1) d → c.dep ≤ d.dep
  -- each connection of a trip starts where the one before it ended, and no earlier than that one arrived
  pub unbroken : (i j : ℕ) (c d : Connection) → IsJustBefore t.connections i j c d → (c.to ≡ d.from) × (c.arr ≤ d.dep)
  -- a finite set of footpaths is its one list in this order, so an ordered pair of stops has at most one
  pub in_order : AreInOrder t.footpaths
  -- each stop has a loop
  pub loops : (s : ℕ) → s < t.stops → (secs : ℕ) × HasFootpath t.footpaths s s secs
  -- for two footpaths end to end there is one that leads directly, and takes no longer
  pub closed : (a b c d1 d2 : ℕ) → HasFootpath t.footpaths a b d1 → HasFootpath t.footpaths b c d2 → (d : ℕ) × HasFootpath t.footpaths a c d × (d ≤ d1 + d2)
