-- What one connection adds to what a scan keeps.
use Rattle.std.specs.Prelude.{◌≡◌, ◌≢◌, ◌⊎◌, ℕ, ◌+◌, ◌-◌, ◌<◌, ◌≤◌, true, List, [], ◌∷◌, Contains, Option, Some}
use Rattle.criteria.specs.Laws.{Rules, Admits}
use Rattle.bags.specs.declared.point.Point.{Point}
use Rattle.timetable.specs.declared.network.Footpath.{Footpath}
use Rattle.timetable.specs.TimetableValue.{TimetableValue}
use Rattle.timetable.specs.JourneyValue.{RideValue}
use Rattle.timetable.specs.Journeys.{connection_at, IsStart, start_end, start_secs}
use Rattle.scan_state.specs.SetQuery.{SetQueryValue}
use Rattle.scan_state.specs.Values.{started}
use Rattle.scan_state.specs.Points.{Covers}
use Rattle.scan_state.specs.Continuations.{Onward, Aboard}
use Rattle.scan_state.specs.Matching.{Spelling, Spellings, Keeps, from_to, IsOutdone, ScanValue}

-- an offer to a list of points. Each element of A is something that could be offered; `is_open` says which are; the other fields give the point's departure,
-- value and possible tags
pub record Offer (A V : Type 0) : Type 1 where
  pub is_open : A → Type 0
  pub departure : A → ℕ
  pub value : A → V
  pub fits_tag : A → ℕ → Type 0

-- a point is among those offered
pub record IsOffered {A V : Type 0} (offer : Offer A V) (p : Point V) : Type 0 where
  pub way : A
  pub is_open : offer.is_open way
  pub departs : p.departure ≡ offer.departure way
  pub worth : p.value ≡ offer.value way
  pub fits : offer.fits_tag way p.tag

-- a list takes in an offer: each point was there before or is offered, what was covered stays covered, and all that is offered is covered
pub record TakesIn {A V : Type 0} (rules : Rules V) (offer : Offer A V) (old new : List (Point V)) : Type 0 where
  pub only : (p : Point V) → Contains new p → Contains old p ⊎ IsOffered offer p
  pub kept : (departure : ℕ) (v : V) → Admits rules v → Covers rules old departure v → Covers rules new departure v
  pub covered : (way : A) → offer.is_open way → Covers rules new (offer.departure way) (offer.value way)

-- a list takes in an offer, except that ways which are excused need not be covered
pub record TakesInBut {A V : Type 0} (rules : Rules V) (Excused : A → Type 0) (offer : Offer A V) (old new : List (Point V)) : Type 0 where
  pub only : (p : Point V) → Contains new p → Contains old p ⊎ IsOffered offer p
  pub kept : (departure : ℕ) (v : V) → Admits rules v → Covers rules old departure v → Covers rules new departure v
  pub covered : (way : A) → offer.is_open way → Covers rules new (offer.departure way) (offer.value way) ⊎ Excused way

-- how a passenger may leave a trip where a connection ends: at a target; a footpath before one; or to change, going on by a point of that stop
pub data Leaving (V : Type 0) : Type 0 where
  ends : Leaving V
  ends_after : Footpath → Leaving V
  changes : Point V → Leaving V

-- whether that way is open, given the points of the stop
abbrev pub MayLeave : {V : Type 0} → TimetableValue → SetQueryValue → ℕ → List (Point V) → Leaving V → Type 0
MayLeave t q i bag ends = Contains q.targets (connection_at t i).to × ((connection_at t i).arr ≤ q.by)
MayLeave t q i bag (ends_after f) =
    Contains t.footpaths f
    × (f.from ≡ (connection_at t i).to)
    × Contains q.targets f.to
    × (Contains q.targets (connection_at t i).to → ⊥)
    × ((connection_at t i).arr + f.secs ≤ q.by)
MayLeave t q i bag (changes p) = Contains bag p × ((connection_at t i).arr ≤ p.departure)

-- the value of a way to leave
abbrev pub leaving_value : {V : Type 0} → Rules V → TimetableValue → ℕ → Leaving V → V
leaving_value rules t i ends = rules.arrive (connection_at t i).arr
leaving_value rules t i (ends_after f) = rules.walk f.secs (rules.arrive ((connection_at t i).arr + f.secs))
leaving_value rules t i (changes p) = p.value

-- what the tag of a way to leave has to spell
abbrev pub LeavingTag : {V : Type 0} → Spellings → ℕ → Leaving V → ℕ → Type 0
LeavingTag tags i ends tag = tags.later.aboard tag ≡ Some (record { last = i; walk = []; rides = [] })
LeavingTag tags i (ends_after f) tag = tags.later.aboard tag ≡ Some (record { last = i; walk = f ∷ []; rides = [] })
LeavingTag tags i (changes p) tag =
    (x : Onward) → tags.earlier.onward p.tag ≡ Some x
    → tags.later.aboard tag ≡ Some (record { last = i; walk = x.walk; rides = x.rides })

-- offered to the labels of the connection's trip: each way to leave it, if passengers may get off
abbrev pub leavings : {V : Type 0} → Rules V → TimetableValue → SetQueryValue → Spellings → ℕ → List (Point V)
    → Offer (Leaving V) V
leavings rules t q tags i bag = record {
  is_open = λ way. ((connection_at t i).alight ≡ true) × MayLeave t q i bag way;
  departure = λ _. 0;
  value = leaving_value rules t i;
  fits_tag = LeavingTag tags i;
}

-- the ride that boards connection i and goes on as a label says, with the rides after it
abbrev pub boarded : ℕ → Aboard → List RideValue
boarded i x = record { leg = record { first = i; last = x.last }; walk = x.walk } ∷ x.rides

-- boarding a connection: a footpath to it, and a label of its trip
pub record Boarding (V : Type 0) : Type 0 where
  pub walk : Footpath
  pub label : Point V

-- one may board connection i from a stop in this way: passengers may get on there, and the footpath leads there from the stop and begins at time 0 or later
pub record MayBoard {V : Type 0} (t : TimetableValue) (i stop : ℕ) (labels : List (Point V))
    (way : Boarding V) : Type 0 where
  pub boards : (connection_at t i).board ≡ true
  pub is_footpath : Contains t.footpaths way.walk
  pub leaves : way.walk.from ≡ stop
  pub leads : way.walk.to ≡ (connection_at t i).from
  pub fits : way.walk.secs ≤ (connection_at t i).dep
  pub is_label : Contains labels way.label

-- offered to the points of a stop: for each label, boarding the connection with it after each footpath from the stop
abbrev pub boardings : {V : Type 0} → Rules V → TimetableValue → Spellings → ℕ → ℕ → List (Point V)
    → Offer (Boarding V) V
boardings rules t tags i stop labels = record {
  is_open = MayBoard t i stop labels;
  departure = λ way. (connection_at t i).dep - way.walk.secs;
  value = λ way. rules.walk way.walk.secs (rules.ride way.label.value);
  fits_tag = λ way tag. (x : Aboard) → tags.earlier.aboard way.label.tag ≡ Some x
      → tags.later.onward tag ≡ Some (record { walk = way.walk ∷ []; rides = boarded i x });
}

-- setting out from the source to board a connection: a start, and a label of its trip
pub record SettingOut (V : Type 0) : Type 0 where
  pub start : Option Footpath
  pub label : Point V

-- one may set out from a source by a start of some kind; this is the only part of a step that reads the query's `from` and `until`
pub record MaySetOutBy {V : Type 0} (IsOfKind : ℕ → Option Footpath → Type 0) (t : TimetableValue) (q : SetQueryValue) (i : ℕ)
    (labels : List (Point V))
    (way : SettingOut V) : Type 0 where
  pub boards : (connection_at t i).board ≡ true
  pub source : ℕ
  pub is_source : Contains q.sources source
  pub is_start : IsOfKind source way.start
  pub leads : start_end source way.start ≡ (connection_at t i).from
  pub fits : start_secs way.start ≤ (connection_at t i).dep
  pub not_early : q.from ≤ (connection_at t i).dep - start_secs way.start
  pub not_late : (connection_at t i).dep - start_secs way.start ≤ q.until
  pub is_label : Contains labels way.label

-- the start is none or one footpath to another stop, never a loop
abbrev pub MaySetOut : {V : Type 0} → TimetableValue → SetQueryValue → ℕ → List (Point V) → SettingOut V → Type 0
MaySetOut t q = MaySetOutBy (IsStart t) t q

-- offered to the points found: for each label, boarding the connection with it after each start
abbrev pub settings_out : {V : Type 0} → Rules V → TimetableValue → SetQueryValue → Spellings → ℕ → List (Point V)
    → Offer (SettingOut V) V
settings_out rules t q tags i labels = record {
  is_open = MaySetOut t q i labels;
  departure = λ way. (connection_at t i).dep - start_secs way.start;
  value = λ way. started rules way.start (rules.ride way.label.value);
  fits_tag = λ way tag. (x : Aboard) → tags.earlier.aboard way.label.tag ≡ Some x
      → tags.later.journey tag ≡ Some (record { start = way.start; rides = boarded i x });
}

-- only changing to a point whose value is excused is: to end never is
abbrev pub MayNotChange : {V : Type 0} → (V → Type 0) → Leaving V → Type 0
MayNotChange Excused ends = ⊥
MayNotChange Excused (ends_after f) = ⊥
MayNotChange Excused (changes p) = Excused p.value

-- a point found outdoes a value with the ride. Index i + 1 makes that point depart no earlier than connection i and those before it
abbrev pub IsOutdoneRidden : {V : Type 0} → Rules V → TimetableValue → List (Point V) → ℕ → V → Type 0
IsOutdoneRidden rules t found i v = IsOutdone rules t found (i + 1) (rules.ride v)

-- the step of one connection, from what a scan keeps of the later ones. First the labels of its trip take in the ways to leave the trip where the connection
-- ends; `between` is what tags spell then. Then all of the trip's labels, new and old, are offered to the points found and to every stop. Of what is outdone
-- nothing has to be taken in, except that it is offered to the points found
pub record IsStep {V : Type 0} (rules : Rules V) (t : TimetableValue) (q : SetQueryValue) (tags : Spellings) (i : ℕ)
    (old new : ScanValue V) : Type 0 where
  pub between : Spelling
  pub kept_first : Keeps tags.earlier between
  pub kept_then : Keeps between tags.later
  pub leaves : TakesInBut rules (MayNotChange (IsOutdoneRidden rules t old.found i))
      (leavings rules t q (from_to tags.earlier between) i (old.bag (connection_at t i).to))
      (old.labels (connection_at t i).trip) (new.labels (connection_at t i).trip)
  pub other_trips : (trip : ℕ) → trip ≢ (connection_at t i).trip → new.labels trip ≡ old.labels trip
  pub boards : (stop : ℕ) → stop < t.stops
      → TakesInBut rules (λ way. IsOutdoneRidden rules t new.found i way.label.value)
      (boardings rules t (from_to between tags.later) i stop (new.labels (connection_at t i).trip)) (old.bag stop) (new.bag stop)
  pub sets_out : TakesIn rules
      (settings_out rules t q (from_to between tags.later) i (new.labels (connection_at t i).trip)) old.found new.found
