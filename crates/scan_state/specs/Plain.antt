-- Plain ways to go on: each change is one footpath, and after the last leg there is one only if that leg doesn't end at a goal. (What a scan finds;
-- journeys that count may walk further.)
use Rattle.std.specs.Prelude.{◌≡◌, ◌⊎◌, ℕ, List, [], ◌∷◌, ◌≢◌, ◌≤◌, Contains}
use Rattle.timetable.specs.declared.network.Footpath.{Footpath}
use Rattle.timetable.specs.TimetableValue.{TimetableValue}
use Rattle.timetable.specs.JourneyValue.{RideValue, JourneyValue}
use Rattle.timetable.specs.Journeys.{connection_at, IsWalk, walk_end, walk_secs}
use Rattle.scan_state.specs.Continuations.{Onward, Aboard}
use Rattle.criteria.specs.Laws.{Rules, Admits, NoWorse}
use Rattle.timetable.specs.Legal.{IsLegal}
use Rattle.timetable.specs.Limits.{IsWithinLimits}
use Rattle.scan_state.specs.Values.{walked}

-- a walk of one footpath
abbrev pub IsOneFootpath : List Footpath → Type 0
IsOneFootpath walk = (f : Footpath) × (walk ≡ f ∷ [])

-- the walk after a leg, given the rides that follow: one footpath to change; at the end none if the leg ends at a goal, or else one
abbrev pub HasPlainWalk : TimetableValue → (ℕ → Type 0) → ℕ → List Footpath → List RideValue → Type 0
HasPlainWalk t IsGoal last walk [] =
    (IsGoal (connection_at t last).to × (walk ≡ []))
    ⊎ ((IsGoal (connection_at t last).to → ⊥) × IsOneFootpath walk)
HasPlainWalk t IsGoal last walk (ride ∷ rides) = IsOneFootpath walk

-- rides are plain if the walk after each leg is
abbrev pub ArePlain : TimetableValue → (ℕ → Type 0) → List RideValue → Type 0
ArePlain t IsGoal [] = Unit {0}
ArePlain t IsGoal (ride ∷ rides) = HasPlainWalk t IsGoal ride.leg.last ride.walk rides × ArePlain t IsGoal rides

-- plain ways to go on from a stop or in a trip, and plain journeys; the start of a journey is none or one footpath in any case
abbrev pub IsPlainOnward : TimetableValue → (ℕ → Type 0) → Onward → Type 0
IsPlainOnward t IsGoal x = IsOneFootpath x.walk × ArePlain t IsGoal x.rides

abbrev pub IsPlainAboard : TimetableValue → (ℕ → Type 0) → Aboard → Type 0
IsPlainAboard t IsGoal x = HasPlainWalk t IsGoal x.last x.walk x.rides × ArePlain t IsGoal x.rides

abbrev pub IsPlainOf : TimetableValue → (ℕ → Type 0) → JourneyValue → Type 0
IsPlainOf t IsGoal j = ArePlain t IsGoal j.rides

-- plain journeys to one target
abbrev pub IsPlain : TimetableValue → ℕ → JourneyValue → Type 0
IsPlain t target = IsPlainOf t (λ stop. stop ≡ target)

-- a footpath in place of a chain: it leads from the same stop to the same stop, takes no longer, and is never worse
pub record IsInstead {V : Type 0} (rules : Rules V) (t : TimetableValue) (stop : ℕ) (chain : List Footpath)
    (f : Footpath) : Type 0 where
  pub is_footpath : Contains t.footpaths f
  pub leaves : f.from ≡ stop
  pub leads : f.to ≡ walk_end stop chain
  pub no_longer : f.secs ≤ walk_secs chain
  pub no_worse : (v : V) → Admits rules v → NoWorse rules (rules.walk f.secs v) (walked rules chain v)

-- each chain of footpaths can be replaced by one footpath
abbrev pub ChainsGiveWay : {V : Type 0} → Rules V → Type 0
ChainsGiveWay rules =
    (t : TimetableValue) → IsLegal t → IsWithinLimits t
    → (stop : ℕ) (chain : List Footpath) → chain ≢ [] → IsWalk t stop chain
    → (f : Footpath) × IsInstead rules t stop chain f
