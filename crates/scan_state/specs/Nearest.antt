-- The footpaths to the targets, as they are taken in one after the other.
use Rattle.std.specs.Prelude.{◌≡◌, ◌≢◌, ◌⊎◌, ℕ, ◌<◌, ◌≤◌, nat_lt, Bool, true, false, List, Contains, length, Option, Some, None, slice_get}
use Rattle.std.specs.Prelude.{slice_index_or}
use Rattle.timetable.specs.declared.network.Footpath.{Footpath}
use Rattle.timetable.specs.TimetableValue.{TimetableValue}
use Rattle.scan_state.specs.declared.final_walks.FinalWalk.{FinalWalk}

-- the way that a footpath is
abbrev pub way_by : Footpath → FinalWalk
way_by f = record { to = f.to; secs = f.secs }

-- what stands in for the way of a stop without one
abbrev pub no_entry : FinalWalk
no_entry = record { to = 0; secs = 4294967295 }

-- a footpath to the target at index k
abbrev pub IsInto : TimetableValue → List ℕ → ℕ → Footpath → Type 0
IsInto t targets k f = Contains t.footpaths f × (slice_get targets k ≡ Some f.to)

-- the same to one of the first n targets
abbrev pub IsDoneTo : TimetableValue → List ℕ → ℕ → ℕ → Footpath → Type 0
IsDoneTo t targets n k f = IsInto t targets k f × (k < n)

-- a way is the best of the footpaths taken in so far: it is its stop's loop; or no loop is among them, none is shorter, and none as short leads to a target
-- named earlier
pub record IsNearestDone (IsDone : ℕ → Footpath → Type 0) (stop : ℕ) (way : FinalWalk) : Type 0 where
  pub index : ℕ
  pub done : IsDone index (record { from = stop; to = way.to; secs = way.secs })
  pub best : (way.to ≡ stop) ⊎ ((k : ℕ) (f : Footpath) → IsDone k f → f.from ≡ stop
      → (f.to ≢ stop) × ((way.secs < f.secs) ⊎ ((way.secs ≡ f.secs) × (index ≤ k))))

abbrev pub IsDoneWalk : (ℕ → Footpath → Type 0) → ℕ → Option FinalWalk → Type 0
IsDoneWalk IsDone stop None = (k : ℕ) (f : Footpath) → IsDone k f → f.from ≡ stop → ⊥
IsDoneWalk IsDone stop (Some way) = IsNearestDone IsDone stop way

-- the same from each stop
pub record AreNearest (t : TimetableValue) (IsDone : ℕ → Footpath → Type 0) (final_walks : List (Option FinalWalk)) : Type 0 where
  pub long : length final_walks ≡ t.stops
  pub each : (stop : ℕ) → IsDoneWalk IsDone stop (slice_index_or final_walks stop None)

-- a footpath takes the place of a way from the stop where it begins
abbrev pub Replaces : Option FinalWalk → Footpath → Type 0
Replaces None f = Unit {0}
Replaces (Some way) f = (f.to ≡ f.from) ⊎ ((way.to ≢ f.from) × (f.secs < way.secs))

-- a footpath is taken in: the way from the stop where it begins is the footpath now, if that takes its place; all else stays
pub record TakesWalk (f : Footpath) (old new : List (Option FinalWalk)) : Type 0 where
  pub long : length new ≡ length old
  pub others : (stop : ℕ) → stop ≢ f.from → slice_index_or new stop None ≡ slice_index_or old stop None
  pub taken : Replaces (slice_index_or old f.from None) f → slice_index_or new f.from None ≡ Some (way_by f)
  pub stays : (Replaces (slice_index_or old f.from None) f → ⊥) → slice_index_or new f.from None ≡ slice_index_or old f.from None

-- the shorter of a footpath and the way from a stop, and of two that are equal the footpath
abbrev pub if_shorter : Bool → Footpath → Footpath → Option Footpath
if_shorter true walk first = Some walk
if_shorter false walk first = Some first

abbrev pub shorter_of : Option Footpath → ℕ → Option FinalWalk → Option Footpath
shorter_of best stop None = best
shorter_of None stop (Some way) = Some (record { from = stop; to = way.to; secs = way.secs })
shorter_of (Some first) stop (Some way) = if_shorter (nat_lt way.secs first.secs) (record { from = stop; to = way.to; secs = way.secs }) first

-- the footpath is the shortest way from the first n of these stops, and of equal ones that of the first stop; or none of them has a way
abbrev pub IsShortestWalk : List (Option FinalWalk) → List ℕ → ℕ → Option Footpath → Type 0
IsShortestWalk final_walks sources n None = (k stop : ℕ) → k < n → slice_get sources k ≡ Some stop → slice_index_or final_walks stop None ≡ None
IsShortestWalk final_walks sources n (Some f) = (index : ℕ) × (index < n) × (slice_get sources index ≡ Some f.from)
    × (slice_index_or final_walks f.from None ≡ Some (way_by f))
    × ((k stop : ℕ) (way : FinalWalk) → k < n → slice_get sources k ≡ Some stop → slice_index_or final_walks stop None ≡ Some way
    → (f.secs < way.secs) ⊎ ((f.secs ≡ way.secs) × (index ≤ k)))
