-- Points that are put into a bag.
use Rattle.std.specs.Prelude.{◌⊎◌, ℕ, List, Option, None, Some, Contains, min}
use Rattle.criteria.specs.Laws.{Rules, Admits}
use Rattle.bags.specs.declared.point.Point.{Point}
use Rattle.scan_state.specs.Points.{Covers}

-- points are put into a bag: nothing else is, what was covered stays covered, and each of them is covered
pub record TakesIn {V : Type 0} (rules : Rules V) (points old new : List (Point V)) : Type 0 where
  pub only : (p : Point V) → Contains new p → Contains old p ⊎ Contains points p
  pub kept : (departure : ℕ) (v : V) → Admits rules v → Covers rules old departure v → Covers rules new departure v
  pub each : (q : Point V) → Contains points q → Covers rules new q.departure q.value

-- the less of two numbers, of those that are there
abbrev pub shorter_of : Option ℕ → Option ℕ → Option ℕ
shorter_of None other = other
shorter_of (Some one) None = Some one
shorter_of (Some one) (Some other) = Some (min one other)
