-- What a search in a list finds, and what putting a front before a list makes of its points.
use Rattle.std.specs.Prelude.{◌≡◌, ◌⊎◌, ℕ, ◌<◌, ◌≤◌, List, [], ◌∷◌, ◌++◌, Bool, true, false, not, filter}
use Rattle.std.specs.Prelude.{Contains, length, Result, MatchResult}
use Rattle.std.specs.List.{list_any}
use Rattle.criteria.specs.Laws.{Rules, Admits}
use Rattle.fronts.specs.Chains.{IsChainPath}
use Rattle.fronts.specs.declared.entry.Item.{Item}
use Rattle.fronts.specs.declared.entry.FrontEntry.{FrontEntry}
use Rattle.fronts.specs.Front.{front, next_of, departure_of, points_from, Covers, Extends}
use Rattle.fronts.specs.Entries.{AreEntries, AreMore}

-- whether a point of a list is no worse than v (an equal one counts)
abbrev pub betters : {V : Type 0} → Rules V → List (Item V) → V → Bool
betters rules points v = list_any (λ p. rules.no_worse p.value v) points

-- whether a list is empty, or has a single point and v is no worse than that point's value
abbrev pub outdoes_alone : {V : Type 0} → Rules V → V → List (Item V) → Bool
outdoes_alone rules v [] = true
outdoes_alone rules v (p ∷ []) = rules.no_worse v p.value
outdoes_alone rules v (p ∷ q ∷ points) = false

-- the points of a list that `points` don't better
abbrev pub left_by : {V : Type 0} → Rules V → List (Item V) → List (Item V) → List (Item V)
left_by rules points others = filter (λ p. not (betters rules points p.value)) others

-- items are pushed: all of these, or if memory runs out only some items
abbrev pub Pushes : {T E X : Type 0} → Result T E → List X → List X → List X → Type 0
Pushes result old more new = MatchResult result (λ _. new ≡ old ++ more) (λ _. Extends old new)

-- entry m of a list departs at a time or later, and all points of the list that depart then or later are on the list from there on
pub record IsLate {V : Type 0} (entries : List (FrontEntry V)) (items : List (Item V)) (head time m : ℕ) : Type 0 where
  pub within : m < length entries
  pub late : time ≤ departure_of entries m
  pub only : (p : Item V) → Contains (points_from entries items m) p → Contains (points_from entries items head) p
  pub all : (p : Item V) → Contains (points_from entries items head) p → time ≤ p.departure
      → Contains (points_from entries items m) p

-- these entries, one after the other, lead from `head` to m along a list
abbrev pub IsPath : {V : Type 0} → List (FrontEntry V) → ℕ → List ℕ → ℕ → Type 0
IsPath entries head passed m = IsChainPath (next_of entries) (length entries) head passed m

-- these entries depart before a time
abbrev pub DepartBefore : {V : Type 0} → List (FrontEntry V) → ℕ → List ℕ → Type 0
DepartBefore entries time indices = (b : ℕ) → Contains indices b → departure_of entries b < time

-- the entries that a search passes, and the one where it ends
pub record ArePassed {V : Type 0} (entries : List (FrontEntry V)) (items : List (Item V)) (head time : ℕ) (passed : List ℕ) (m : ℕ)
    : Type 0 where
  pub late : IsLate entries items head time m
  pub path : IsPath entries head passed m
  pub early : DepartBefore entries time passed

-- a list covers all that another covers
abbrev pub CoversAll : {V : Type 0} → Rules V → List (Item V) → List (Item V) → Type 0
CoversAll {V} rules old new =
    (departure : ℕ) (v : V) → Admits rules v → Covers rules old departure v → Covers rules new departure v

-- points of one departure that may be put before the list from entry m on, whose front betters none of them
pub record MayPut {V : Type 0} (rules : Rules V) (entries : List (FrontEntry V)) (items : List (Item V))
    (departure m : ℕ) (points : List (Item V)) : Type 0 where
  pub sound : AreEntries rules entries items
  pub within : m < length entries
  pub early : departure ≤ departure_of entries m
  pub some : 0 < length points
  pub departs : (p : Item V) → Contains points p → p.departure ≡ departure
  pub admitted : (p : Item V) → Contains points p → Admits rules p.value
  pub fresh : (p : Item V) → Contains points p → betters rules (front entries items m) p.value ≡ false

-- a list is made of two sets of points: each of its points is in one of them, and it covers all that they cover
pub record IsUnion {V : Type 0} (rules : Rules V) (a b new : List (Item V)) : Type 0 where
  pub only : (p : Item V) → Contains new p → Contains a p ⊎ Contains b p
  pub kept_first : CoversAll rules a new
  pub kept_second : CoversAll rules b new

-- entries and items are added, and the list that begins at `head` is made of two sets of points
pub record IsJoined {V : Type 0} (rules : Rules V) (a b : List (Item V)) (old now : List (FrontEntry V))
    (items more : List (Item V)) (head : ℕ) : Type 0 where
  pub more_are : AreMore rules old items now more
  pub within : head < length now
  pub union : IsUnion rules a b (points_from now more head)

-- a front is put before the list from entry m on: the new list begins at `index`, with these points of one departure, and those of the old front that they
-- don't better
pub record IsPut {V : Type 0} (rules : Rules V) (old now : List (FrontEntry V)) (items more : List (Item V))
    (departure m : ℕ) (points : List (Item V)) (index : ℕ) : Type 0 where
  pub departs : departure_of now index ≡ departure
  pub carries : front now more index ≡ points ++ left_by rules points (front old items m)
  pub joined : IsJoined rules points (points_from old items m) old now items more index

-- the list from `head` on has what entry `from`'s list and that from `index` on had, and begins no earlier than `from`
pub record HasJoined {V : Type 0} (rules : Rules V) (old now : List (FrontEntry V)) (items more : List (Item V))
    (from index head : ℕ) : Type 0 where
  pub late : departure_of old from ≤ departure_of now head
  pub joined : IsJoined rules (points_from old items from) (points_from old items index) old now items more head

-- the front of entry `from` may be put before the list from a later entry on, which covers what follows `from` on its own list
pub record MayJoin {V : Type 0} (rules : Rules V) (entries : List (FrontEntry V)) (items : List (Item V)) (from index : ℕ)
    : Type 0 where
  pub sound : AreEntries rules entries items
  pub some : 0 < from
  pub from_within : from < length entries
  pub within : index < length entries
  pub early : departure_of entries from < departure_of entries index
  pub covers : CoversAll rules (points_from entries items (next_of entries from)) (points_from entries items index)

-- these entries lead from `head` to `after`, and may be joined to the list from a later entry on, which covers what there is from `after` on
pub record MayJoinAll {V : Type 0} (rules : Rules V) (entries : List (FrontEntry V)) (items : List (Item V)) (head : ℕ)
    (passed : List ℕ) (after index : ℕ) : Type 0 where
  pub sound : AreEntries rules entries items
  pub path : IsPath entries head passed after
  pub after_within : after < length entries
  pub within : index < length entries
  pub early : DepartBefore entries (departure_of entries index) passed
  pub covers : CoversAll rules (points_from entries items after) (points_from entries items index)

-- `after` is the entry that follows a front put before the list from `index` on: `next` if the entry at `index` departs together with the front, and `index` if
-- it departs later
abbrev pub Follows : ℕ → ℕ → ℕ → ℕ → ℕ → Type 0
Follows later next index departure after =
    ((later ≡ departure) × (after ≡ next)) ⊎ ((departure < later) × (after ≡ index))
