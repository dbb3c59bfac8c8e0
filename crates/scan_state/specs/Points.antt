-- The points of a query, and its answer. (Pareto dominance, as in the Connection Scan Algorithm's profiles; the window
-- is our own.)
use Rattle.std.specs.Prelude.{◌≡◌, ◌⊎◌, ◌↔◌, ◌&&◌, ◌||◌, ◌==◌, ℕ, ◌<◌, ◌≤◌, Bool, nat_lt, List, Contains, AllPairs, length, slice_index_or}
use Rattle.std.specs.Ordering.{is_lt}
use Rattle.std.specs.declared.cmp.Ordering.TheVariants.{Less}
use Rattle.criteria.specs.Laws.{Rules, Admits, NoWorse}
use Rattle.bags.specs.declared.point.Point.{Point}
pub use Rattle.bags.specs.Dominance.{IsCovered as Covers}
use Rattle.timetable.specs.TimetableValue.{TimetableValue}
use Rattle.timetable.specs.JourneyValue.{JourneyValue}
use Rattle.timetable.specs.Journeys.{Counts}
use Rattle.timetable.specs.declared.query.Query.{Query}
use Rattle.scan_state.specs.Values.{journey_value}

-- a point of the query: departure and value of a journey that counts
abbrev pub IsPoint : {V : Type 0} → Rules V → TimetableValue → Query → ℕ → V → Type 0
IsPoint rules t q departure v = (j : JourneyValue) × Counts t q departure j × (v ≡ journey_value rules t j)

-- a point of a set that no other one dominates: any point of the set that departs no earlier and is no worse is the point itself
pub record IsUndominatedOf {V : Type 0} (rules : Rules V) (IsThere : ℕ → V → Type 0) (departure : ℕ)
    (v : V) : Type 0 where
  pub is_point : IsThere departure v
  pub only_itself : (d : ℕ) (w : V) → IsThere d w → departure ≤ d → NoWorse rules w v → (d ≡ departure)
      × (w ≡ v)

-- the same of the points of a query
abbrev pub IsUndominated : {V : Type 0} → Rules V → TimetableValue → Query → ℕ → V → Type 0
IsUndominated rules t q = IsUndominatedOf rules (IsPoint rules t q)

-- a list has a point with this departure and value
abbrev pub Lists : {V : Type 0} → List (Point V) → ℕ → V → Type 0
Lists {V} points departure v = (p : Point V) × Contains points p × (p.departure ≡ departure) × (p.value ≡ v)

-- by departure, then by the criterion's order
abbrev pub Before : {V : Type 0} → Rules V → Point V → Point V → Type 0
Before rules p q = (p.departure < q.departure)
    ⊎ ((p.departure ≡ q.departure) × (rules.list_order p.value q.value ≡ Less))

-- the same as a Boolean test
abbrev pub is_before : {V : Type 0} → Rules V → Point V → Point V → Bool
is_before rules p q = nat_lt p.departure q.departure ||
    (p.departure == q.departure && is_lt (rules.list_order p.value q.value))

-- points are exactly the undominated ones of a set, in order, and they cover each point of it. Under a criterion's laws no point is before itself, so each is
-- listed once
pub record IsAnswerOf {V : Type 0} (rules : Rules V) (IsThere : ℕ → V → Type 0) (points : List (Point V)) : Type 0 where
  pub exactly : (departure : ℕ) (v : V) → Lists points departure v ↔ IsUndominatedOf rules IsThere departure v
  pub unbeaten : (departure : ℕ) (v : V) → IsThere departure v → Covers rules points departure v
  pub ordered : AllPairs (Before rules) points

-- the answer of a query: its undominated points, which cover every journey that counts
abbrev pub IsAnswer : {V : Type 0} → Rules V → TimetableValue → Query → List (Point V) → Type 0
IsAnswer rules t q = IsAnswerOf rules (IsPoint rules t q)

-- a point without its tag
abbrev pub untagged : {V : Type 0} → Point V → ℕ × V
untagged p = (p.departure, p.value)

-- points are those of another list, in order
pub record AreInOrder {V : Type 0} (rules : Rules V) (found points : List (Point V)) : Type 0 where
  pub ordered : AllPairs (Before rules) points
  pub only : (p : Point V) → Contains points p → Contains found p
  pub each : (p : Point V) → Contains found p → Contains points p

-- points in order, and one that can be put among them: it comes before or after each
pub record CanPut {V : Type 0} (rules : Rules V) (points : List (Point V)) (point : Point V) : Type 0 where
  pub ordered : AllPairs (Before rules) points
  pub admitted : (p : Point V) → Contains points p → Admits rules p.value
  pub value : Admits rules point.value
  pub comparable : (p : Point V) → Contains points p → Before rules p point ⊎ Before rules point p

-- the index at which to put the point
pub record IsIndexFor {V : Type 0} (rules : Rules V) (points : List (Point V)) (point : Point V) (index : ℕ) : Type 0 where
  pub within : index ≤ length points
  pub before : (k : ℕ) (d : Point V) → k < index → Before rules (slice_index_or points k d) point
  pub after : (k : ℕ) (d : Point V) → index ≤ k → k < length points → Before rules point (slice_index_or points k d)

-- the point is put among them
pub record IsPut {V : Type 0} (rules : Rules V) (point : Point V) (old new : List (Point V)) : Type 0 where
  pub ordered : AllPairs (Before rules) new
  pub put : (p : Point V) → Contains new p ↔ ((point ≡ p) ⊎ Contains old p)
