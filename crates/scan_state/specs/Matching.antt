-- What a scan keeps, and when it matches all ways on over the later connections.
use Rattle.std.specs.Prelude.{◌≡◌, ◌⊎◌, ℕ, ◌<◌, ◌≤◌, List, Contains, Option, Some}
use Rattle.criteria.specs.Laws.{Rules, NoWorse, RidingWorsens}
use Rattle.bags.specs.declared.point.Point.{Point}
use Rattle.timetable.specs.TimetableValue.{TimetableValue}
use Rattle.timetable.specs.JourneyValue.{JourneyValue}
use Rattle.timetable.specs.Journeys.{connection_at}
use Rattle.scan_state.specs.SetQuery.{SetQueryValue}
use Rattle.scan_state.specs.Values.{journey_value}
use Rattle.scan_state.specs.Points.{Covers}
use Rattle.scan_state.specs.Continuations.{Onward, Aboard, IsOnward, IsAboard, CountsFrom, onward_value, aboard_value}
use Rattle.scan_state.specs.Plain.{IsPlainOnward, IsPlainAboard, IsPlainOf}

-- what a tag of a stop's point, of a label, or of a point found spells: how one goes on, or nothing
pub record Spelling : Type 0 where
  pub onward : ℕ → Option Onward
  pub aboard : ℕ → Option Aboard
  pub journey : ℕ → Option JourneyValue

-- whatever is spelled before is spelled after
pub record Keeps (before after : Spelling) : Type 0 where
  pub onward : (tag : ℕ) (x : Onward) → before.onward tag ≡ Some x → after.onward tag ≡ Some x
  pub aboard : (tag : ℕ) (x : Aboard) → before.aboard tag ≡ Some x → after.aboard tag ≡ Some x
  pub journey : (tag : ℕ) (j : JourneyValue) → before.journey tag ≡ Some j → after.journey tag ≡ Some j

-- what tags spell before something is taken in, and after it
pub record Spellings : Type 0 where
  pub earlier : Spelling
  pub later : Spelling

abbrev pub from_to : Spelling → Spelling → Spellings
from_to before after = record { earlier = before; later = after }

-- a point is attained by what its tag spells: a way that is there, is plain, and has the point's departure and value
pub record IsAttained {V X : Type 0} (spelled : ℕ → Option X) (IsThere : ℕ → X → Type 0) (IsPlainWay : X → Type 0)
    (value : X → V) (p : Point V) : Type 0 where
  pub way : X
  pub spells : spelled p.tag ≡ Some way
  pub there : IsThere p.departure way
  pub plain : IsPlainWay way
  pub worth : p.value ≡ value way

-- points match the ways that are there: each point is attained by what its tag spells, and each way's departure and value, plain or not, are covered
pub record Matches {V X : Type 0} (rules : Rules V) (spelled : ℕ → Option X) (IsThere : ℕ → X → Type 0) (IsPlainWay : X
    → Type 0) (value : X → V) (points : List (Point V)) : Type 0 where
  pub sound : (p : Point V) → Contains points p → IsAttained spelled IsThere IsPlainWay value p
  pub complete : (departure : ℕ) (x : X) → IsThere departure x → Covers rules points departure (value x)

-- a value is outdone: riding never makes one better, and a point found is no worse and departs no earlier than any connection before index i
pub record IsOutdone {V : Type 0} (rules : Rules V) (t : TimetableValue) (found : List (Point V)) (i : ℕ)
    (v : V) : Type 0 where
  pub worsens : RidingWorsens rules
  pub by : Point V
  pub is_found : Contains found by
  pub in_time : (k : ℕ) → k < i → (connection_at t k).dep ≤ by.departure
  pub no_worse : NoWorse rules by.value v

-- points match the ways that are there, except those with outdone values: each point is attained, and the departure and value of each way not outdone are
-- covered
pub record MatchesBut {V X : Type 0} (rules : Rules V) (spelled : ℕ → Option X) (IsThere : ℕ → X → Type 0)
    (IsPlainWay : X → Type 0) (value : X → V) (Outdone : V → Type 0) (points : List (Point V)) : Type 0 where
  pub sound : (p : Point V) → Contains points p → IsAttained spelled IsThere IsPlainWay value p
  pub complete : (departure : ℕ) (x : X) → IsThere departure x → Covers rules points departure (value x)
      ⊎ Outdone (value x)

-- passengers in a trip have departed, so labels have departure 0
pub record IsLabelled (t : TimetableValue) (q : SetQueryValue) (i trip departure : ℕ) (x : Aboard) : Type 0 where
  pub departed : departure ≡ 0
  pub aboard : IsAboard t q i trip x

-- what a scan keeps: the points of each stop (`bag`), the labels of each trip, and the points found at the source
pub record ScanValue (V : Type 0) : Type 0 where
  pub bag : ℕ → List (Point V)
  pub labels : ℕ → List (Point V)
  pub found : List (Point V)

-- it matches every way to go on over the connections from index i on, except, at stops and in trips (there with the ride), those outdone
pub record MatchesFrom {V : Type 0} (rules : Rules V) (t : TimetableValue) (q : SetQueryValue) (tags : Spelling) (i : ℕ)
    (scan : ScanValue V) : Type 0 where
  pub at_stops : (stop : ℕ) → stop < t.stops
      → MatchesBut rules tags.onward (IsOnward t q i stop) (IsPlainOnward t (Contains q.targets)) (onward_value rules t)
      (IsOutdone rules t scan.found i) (scan.bag stop)
  pub in_trips : (trip : ℕ) → trip < t.trips
      → MatchesBut rules tags.aboard (IsLabelled t q i trip) (IsPlainAboard t (Contains q.targets)) (aboard_value rules t)
      (λ v. IsOutdone rules t scan.found i (rules.ride v)) (scan.labels trip)
  pub at_source : Matches rules tags.journey (CountsFrom t q i) (IsPlainOf t (Contains q.targets)) (journey_value rules t) scan.found
