-- The direct walk between several stops, found by going over the pairs of their indices in order.
use Rattle.std.specs.Prelude.{◌≡◌, ℕ, ◌<◌, ◌⊎◌, Option, Some, None, Contains, nat_lt, if◌then◌else◌}
use Rattle.timetable.specs.TimetableValue.{TimetableValue}
use Rattle.timetable.specs.declared.network.Footpath.{Footpath}
use Rattle.scan_state.specs.SetQuery.{SetQueryValue, IsDirect, IsDirectWalk, IsTakenBefore, secs_of}

-- these are the seconds of the direct walk
pub record IsDirectTime (t : TimetableValue) (b : SetQueryValue) (secs : Option ℕ) : Type 0 where
  pub walk : Option Footpath
  pub is_walk : IsDirectWalk t b walk
  pub is : secs ≡ secs_of walk

-- the footpath from one stop to another, if there is one
abbrev pub IsFootpathBetween : TimetableValue → ℕ → ℕ → Option Footpath → Type 0
IsFootpathBetween t from to None = (f : Footpath) → Contains t.footpaths f → f.from ≡ from → f.to ≡ to → ⊥
IsFootpathBetween t from to (Some walk) = Contains t.footpaths walk × (walk.from ≡ from) × (walk.to ≡ to)

-- indices (i, j) come before (n, m)
abbrev pub InFront : ℕ → ℕ → ℕ → ℕ → Type 0
InFront i j n m = (i < n) ⊎ ((i ≡ n) × (j < m))

-- of the footpaths at indices before (n, m) this one is taken first
pub record IsLeastOf (t : TimetableValue) (b : SetQueryValue) (n m : ℕ) (walk : Footpath) : Type 0 where
  pub source : ℕ
  pub target : ℕ
  pub in_front : InFront source target n m
  pub is_path : IsDirect t b source target walk
  pub least : (i j : ℕ) (f : Footpath) → InFront i j n m → IsDirect t b i j f → IsTakenBefore source target walk.secs i j f.secs

-- the direct walk among the footpaths at indices before (n, m)
abbrev pub IsLeastBefore : TimetableValue → SetQueryValue → ℕ → ℕ → Option Footpath → Type 0
IsLeastBefore t b n m None = (i j : ℕ) (f : Footpath) → InFront i j n m → IsDirect t b i j f → ⊥
IsLeastBefore t b n m (Some walk) = IsLeastOf t b n m walk

-- a footpath if it is shorter than the best one, or the only one; else the best one
abbrev pub shorter_than : Option Footpath → Footpath → Option Footpath
shorter_than None f = Some f
shorter_than (Some best) f = if nat_lt f.secs best.secs then Some f else Some best

abbrev pub shorter_of : Option Footpath → Option Footpath → Option Footpath
shorter_of best None = best
shorter_of best (Some f) = shorter_than best f
