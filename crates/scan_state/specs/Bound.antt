-- What a scan leaves out because of its bound. The bound has values of points found, none of which departs earlier than the connections to come.
use Rattle.std.specs.Prelude.{◌≡◌, ◌⊎◌, ℕ, ◌+◌, ◌<◌, ◌≤◌, Bool, true, not, List, [], ◌∷◌, ◌++◌, take, filter, map, length, Contains}
use Rattle.std.specs.Prelude.{slice_get, Some}
use Rattle.std.specs.List.{list_any}
use Rattle.criteria.specs.Laws.{Rules, Admits, RidingWorsens}
use Rattle.bags.specs.declared.point.Point.{Point}
use Rattle.timetable.specs.TimetableValue.{TimetableValue}
use Rattle.fronts.specs.declared.entry.RiddenLabel.{RiddenLabel}
use Rattle.scan_state.specs.Matching.{IsOutdone}

-- whether one of some values is no worse than v (an equal one counts, unlike in is_bettered_by of bags, which asks for a strictly better one)
abbrev pub any_no_worse : {V : Type 0} → Rules V → List V → V → Bool
any_no_worse rules values v = list_any (λ b. rules.no_worse b v) values

-- the points carried on: each, unless one of these values is no worse than its value with the ride
abbrev pub survivors : {V : Type 0} → Rules V → List V → List (Point V) → List (Point V)
survivors rules values points = filter (λ p. not (any_no_worse rules values (rules.ride p.value))) points

-- their values with the ride, each with the tag of its point
abbrev pub carried_on : {V : Type 0} → Rules V → List V → List (Point V) → List (RiddenLabel V)
carried_on rules values points = map (λ p. record { value = rules.ride p.value; label = p.tag }) (survivors rules values points)

-- one of these values is no worse than v with the ride
abbrev pub Excludes : {V : Type 0} → Rules V → List V → V → Type 0
Excludes rules values v = any_no_worse rules values (rules.ride v) ≡ true

-- if one of some values is no worse than v, so is one of others
abbrev pub ExcludesMore : {V : Type 0} → Rules V → List V → List V → Type 0
ExcludesMore {V} rules old new = (v : V) → Admits rules v → any_no_worse rules old v ≡ true → any_no_worse rules new v ≡ true

-- each of these values is outdone by a point found
pub record AreBounds {V : Type 0} (rules : Rules V) (t : TimetableValue) (found : List (Point V)) (i : ℕ)
    (values : List V) : Type 0 where
  pub admitted : (b : V) → Contains values b → Admits rules b
  pub outdone : (b : V) → Contains values b → IsOutdone rules t found i b

-- a value of a point found that departs at a time or later; riding never makes a value better
pub record IsLateValue {V : Type 0} (rules : Rules V) (found : List (Point V)) (time : ℕ) (b : V) : Type 0 where
  pub worsens : RidingWorsens rules
  pub of : Point V
  pub is_found : Contains found of
  pub late : time ≤ of.departure
  pub worth : of.value ≡ b

-- values of points found that depart at a time or later are added to others; if one of the old values was no worse than v, so is one of the new
pub record IsRenewed {V : Type 0} (rules : Rules V) (found : List (Point V)) (time : ℕ) (old new : List V)
    : Type 0 where
  pub only : (b : V) → Contains new b → Contains old b ⊎ IsLateValue rules found time b
  pub kept : ExcludesMore rules old new

-- from index `begin` on, exactly the points before `until` depart at a time or later
pub record AreLateUntil {V : Type 0} (points : List (Point V)) (begin time until : ℕ) : Type 0 where
  pub from : begin ≤ until
  pub within : until ≤ length points
  pub late : (k : ℕ) (p : Point V) → begin ≤ k → k < until → slice_get points k ≡ Some p → time ≤ p.departure
  pub rest : (k : ℕ) (p : Point V) → until ≤ k → slice_get points k ≡ Some p → p.departure < time

-- a value is added to others: nothing else is; if one of the old values was no worse than v, so is one of the new; and one of the new is no worse than the
-- value
pub record TakesValue {V : Type 0} (rules : Rules V) (value : V) (old new : List V) : Type 0 where
  pub only : (b : V) → Contains new b → Contains old b ⊎ (value ≡ b)
  pub kept : ExcludesMore rules old new
  pub taken : any_no_worse rules new value ≡ true

-- the same for the values of the points from index `from` on, before `until`
pub record TakesPoints {V : Type 0} (rules : Rules V) (points : List (Point V)) (from until : ℕ)
    (old new : List V) : Type 0 where
  pub only : (b : V) → Contains new b → Contains old b
      ⊎ ((k : ℕ) × (p : Point V) × (from ≤ k) × (k < until) × (slice_get points k ≡ Some p) × (p.value ≡ b))
  pub kept : ExcludesMore rules old new
  pub each : (k : ℕ) (p : Point V) → from ≤ k → k < until → slice_get points k ≡ Some p
      → any_no_worse rules new p.value ≡ true

-- of the new list's items exactly `count + 1` are meant: the first `count` of the old ones, and then this item
pub record IsBehind {T : Type 0} (old : List T) (count : ℕ) (item : T) (new : List T) : Type 0 where
  pub long : count + 1 ≤ length new
  pub items : take (count + 1) new ≡ take count old ++ item ∷ []
