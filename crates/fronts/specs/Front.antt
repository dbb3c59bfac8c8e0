-- Lists of entries, and the fronts that they carry.
use Rattle.std.specs.Prelude.{ℕ, zero, suc, ◌≤◌, List, [], ◌∷◌, ◌++◌, take, drop, slice_get, Contains}
use Rattle.std.specs.Prelude.{Option, Some, None}
pub use Rattle.reasoning.specs.Lists.{Extends}
use Rattle.fronts.specs.Chains.{points_along}
use Rattle.criteria.specs.Laws.{Rules, NoWorse}
use Rattle.fronts.specs.declared.entry.Item.{Item}
use Rattle.fronts.specs.declared.entry.FrontEntry.{FrontEntry}

-- the own point of an entry, the first of its front
abbrev pub own : {V : Type 0} → FrontEntry V → Item V
own e = record { departure = e.departure; value = e.value; tag = e.tag }

-- the front that an entry carries, if there is one: its own point, then its part of the items
abbrev pub front_of : {V : Type 0} → List (Item V) → Option (FrontEntry V) → List (Item V)
front_of items None = []
front_of items (Some e) = own e ∷ take e.count (drop e.rest items)

-- the front of the entry at an index: its own point, then a part of the items; entry 0 ends each list, and has no front
abbrev pub front : {V : Type 0} → List (FrontEntry V) → List (Item V) → ℕ → List (Item V)
front entries items zero = []
front entries items (suc m) = front_of items (slice_get entries (suc m))

abbrev pub next_in : {V : Type 0} → Option (FrontEntry V) → ℕ
next_in None = 0
next_in (Some e) = e.next

-- the index of the next entry on the list
abbrev pub next_of : {V : Type 0} → List (FrontEntry V) → ℕ → ℕ
next_of entries m = next_in (slice_get entries m)

abbrev pub departure_in : {V : Type 0} → Option (FrontEntry V) → ℕ
departure_in None = 0
departure_in (Some e) = e.departure

-- the departure of the entry at an index
abbrev pub departure_of : {V : Type 0} → List (FrontEntry V) → ℕ → ℕ
departure_of entries m = departure_in (slice_get entries m)

-- the points of the list that begins at an entry: those of the fronts along it
abbrev pub points_from : {V : Type 0} → List (FrontEntry V) → List (Item V) → ℕ → List (Item V)
points_from entries items head = points_along (next_of entries) (front entries items) head

-- a point of the list is no worse than v (an equal one counts)
abbrev pub Betters : {V : Type 0} → Rules V → List (Item V) → V → Type 0
Betters {V} rules points v = (p : Item V) × Contains points p × NoWorse rules p.value v

-- a list has a point that departs no earlier and is no worse
abbrev pub Covers : {V : Type 0} → Rules V → List (Item V) → ℕ → V → Type 0
Covers {V} rules points departure v =
    (p : Item V) × Contains points p × (departure ≤ p.departure) × NoWorse rules p.value v
