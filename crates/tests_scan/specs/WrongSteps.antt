-- Definitions that are close to the right ones, but wrong: the laws tell them apart.
use Rattle.std.specs.Prelude.{◌≡◌, ◌≢◌, ℕ, ◌-◌, ◌<◌, ◌≤◌, true, List, [], ◌∷◌, Contains, Option, Some, None, All}
use Rattle.criteria.specs.Laws.{Rules}
use Rattle.bags.specs.declared.point.Point.{Point}
use Rattle.timetable.specs.declared.network.Footpath.{Footpath}
use Rattle.timetable.specs.JourneyValue.{RideValue, JourneyValue}
use Rattle.timetable.specs.Journeys.{connection_at}
use Rattle.timetable.specs.TimetableValue.{TimetableValue}
use Rattle.scan_state.specs.SetQuery.{SetQueryValue, CountsBetween}
use Rattle.scan_state.specs.Continuations.{Aboard}
use Rattle.scan_state.specs.Matching.{Spelling, Spellings, Keeps, from_to, ScanValue}
use Rattle.scan_state.specs.Steps.{Offer, TakesIn, leavings, boarded, Boarding, MayBoard, boardings, SettingOut, MaySetOutBy, settings_out}

-- a step that offers something else to the bags, or to the points found
pub record IsStepWith {V A B : Type 0} (rules : Rules V) (t : TimetableValue) (q : SetQueryValue) (tags : Spellings) (i : ℕ)
    (to_bag : Spellings → ℕ → List (Point V) → Offer A V) (to_found : Spellings → List (Point V)
    → Offer B V) (old new : ScanValue V) : Type 0 where
  pub between : Spelling
  pub kept_first : Keeps tags.earlier between
  pub kept_then : Keeps between tags.later
  pub leaves : TakesIn rules (leavings rules t q (from_to tags.earlier between) i (old.bag (connection_at t i).to))
      (old.labels (connection_at t i).trip) (new.labels (connection_at t i).trip)
  pub other_trips : (trip : ℕ) → trip ≢ (connection_at t i).trip → new.labels trip ≡ old.labels trip
  pub boards : (stop : ℕ) → stop < t.stops → TakesIn rules
      (to_bag (from_to between tags.later) stop (new.labels (connection_at t i).trip)) (old.bag stop) (new.bag stop)
  pub sets_out : TakesIn rules (to_found (from_to between tags.later) (new.labels (connection_at t i).trip)) old.found new.found

-- a source's bag is cut at the latest departure: passengers who come back to the source later can't leave it again
abbrev pub cut_boardings : {V : Type 0} → Rules V → TimetableValue → SetQueryValue → Spellings → ℕ → ℕ → List (Point V) → Offer (Boarding V) V
cut_boardings rules t q tags i stop labels = record (boardings rules t tags i stop labels) {
  is_open = λ way. MayBoard t i stop labels way × (Contains q.sources stop → (connection_at t i).dep - way.walk.secs ≤ q.until);
}

abbrev pub IsStepWithBagCut : {V : Type 0} → Rules V → TimetableValue → SetQueryValue → Spellings → ℕ → ScanValue V → ScanValue V → Type 0
IsStepWithBagCut rules t q tags i = IsStepWith rules t q tags i (λ now. cut_boardings rules t q now i) (λ now. settings_out rules t q now i)

-- any footpath from the source is taken as a start, even its loop
abbrev pub LeavesSource : TimetableValue → ℕ → Option Footpath → Type 0
LeavesSource t source None = Unit {0}
LeavesSource t source (Some f) = Contains t.footpaths f × (f.from ≡ source)

abbrev pub loop_starts : {V : Type 0} → Rules V → TimetableValue → SetQueryValue → Spellings → ℕ → List (Point V) → Offer (SettingOut V) V
loop_starts rules t q tags i labels = record (settings_out rules t q tags i labels) { is_open = MaySetOutBy (LeavesSource t) t q i labels }

abbrev pub IsStepWithLoopStart : {V : Type 0} → Rules V → TimetableValue → SetQueryValue → Spellings → ℕ → ScanValue V → ScanValue V → Type 0
IsStepWithLoopStart rules t q tags i = IsStepWith rules t q tags i (λ now. boardings rules t now i) (λ now. loop_starts rules t q now i)

-- passengers who leave a trip at a stop board the next one there at once, without the change time: a bag is also offered labels after no footpath
pub data Unchanged (V : Type 0) : Type 0 where
  on_foot : Boarding V → Unchanged V
  at_once : Point V → Unchanged V

module _ {V : Type 0} (rules : Rules V) (t : TimetableValue) (tags : Spellings) (i stop : ℕ) (labels : List (Point V)) where
  abbrev pub MayBoardAtOnce : Unchanged V → Type 0
  MayBoardAtOnce (on_foot way) = MayBoard t i stop labels way
  MayBoardAtOnce (at_once label) = ((connection_at t i).board ≡ true) × (stop ≡ (connection_at t i).from) × Contains labels label

  abbrev pub at_once_departure : Unchanged V → ℕ
  at_once_departure (on_foot way) = (connection_at t i).dep - way.walk.secs
  at_once_departure (at_once label) = (connection_at t i).dep

  abbrev pub at_once_value : Unchanged V → V
  at_once_value (on_foot way) = rules.walk way.walk.secs (rules.ride way.label.value)
  at_once_value (at_once label) = rules.ride label.value

  abbrev pub AtOnceTag : Unchanged V → ℕ → Type 0
  AtOnceTag (on_foot way) tag = (x : Aboard) → tags.earlier.aboard way.label.tag ≡ Some x
      → tags.later.onward tag ≡ Some (record { walk = way.walk ∷ []; rides = boarded i x })
  AtOnceTag (at_once label) tag = (x : Aboard) → tags.earlier.aboard label.tag ≡ Some x
      → tags.later.onward tag ≡ Some (record { walk = []; rides = boarded i x })

  abbrev pub at_once_boardings : Offer (Unchanged V) V
  at_once_boardings = record { is_open = MayBoardAtOnce; departure = at_once_departure; value = at_once_value; fits_tag = AtOnceTag }

abbrev pub IsStepWithoutChange : {V : Type 0} → Rules V → TimetableValue → SetQueryValue → Spellings → ℕ → ScanValue V → ScanValue V → Type 0
IsStepWithoutChange rules t q tags i = IsStepWith rules t q tags i (λ now. at_once_boardings rules t now i) (λ now. settings_out rules t q now i)

-- the labels that the trip had are forgotten: that passengers stay seated past the connection isn't known any more
pub record IsStepWithoutLabels {V : Type 0} (rules : Rules V) (t : TimetableValue) (q : SetQueryValue) (tags : Spellings) (i : ℕ)
    (old new : ScanValue V) : Type 0 where
  pub between : Spelling
  pub kept_first : Keeps tags.earlier between
  pub kept_then : Keeps between tags.later
  pub leaves : TakesIn rules (leavings rules t q (from_to tags.earlier between) i (old.bag (connection_at t i).to)) [] (new.labels (connection_at t i).trip)
  pub other_trips : (trip : ℕ) → trip ≢ (connection_at t i).trip → new.labels trip ≡ old.labels trip
  pub boards : (stop : ℕ) → stop < t.stops → TakesIn rules
      (boardings rules t (from_to between tags.later) i stop (new.labels (connection_at t i).trip)) (old.bag stop)
      (new.bag stop)
  pub sets_out : TakesIn rules (settings_out rules t q (from_to between tags.later) i (new.labels (connection_at t i).trip)) old.found new.found

-- each leg, and not only the journey, has to depart by the latest departure
pub record CountsLegByLeg (t : TimetableValue) (q : SetQueryValue) (departure : ℕ) (j : JourneyValue) : Type 0 where
  pub counts : CountsBetween t q departure j
  pub legs : All (λ (ride : RideValue). (connection_at t ride.leg.first).dep ≤ q.until) j.rides
