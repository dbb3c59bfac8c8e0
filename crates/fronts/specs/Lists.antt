-- What contracts see of lists of entries.
use Rattle.std.specs.Prelude.{◌≡◌, ◌⊎◌, ℕ, ◌<◌, ◌≤◌, List, [], Contains, map, length}
use Rattle.criteria.specs.Laws.{Rules, Admits, NoWorse}
use Rattle.bags.specs.declared.point.Point.{Point}
use Rattle.bags.specs.Dominance.{IsCovered}
use Rattle.fronts.specs.declared.entry.Boarding.{Boarding}
use Rattle.fronts.specs.declared.entry.Item.{Item}
use Rattle.fronts.specs.declared.entry.FrontEntry.{FrontEntry}
use Rattle.fronts.specs.declared.entry.Step.{Step}
use Rattle.fronts.specs.declared.entry.RiddenLabel.{RiddenLabel}
use Rattle.fronts.specs.declared.front_lists.FrontLists.{FrontLists}
use Rattle.fronts.specs.Entries.{AreEntries, HasEntry}
use Rattle.fronts.specs.Front.{front, points_from, Extends}
use Rattle.fronts.specs.Walking.{IsBoarding, MayInsert}

-- the criterion by which values are compared
abbrev pub lists_criterion : {K V : Type 0} → FrontLists K V → K
lists_criterion lists = lists.criterion

-- the entries of all lists, in one vector
abbrev pub entries_of : {K V : Type 0} → FrontLists K V → List (FrontEntry V)
entries_of lists = lists.entries.items

-- the items of the fronts of all entries, in one vector
abbrev pub items_of : {K V : Type 0} → FrontLists K V → List (Item V)
items_of lists = lists.items.items

-- the steps by which one goes on from points: the tag of a point is the index of its step
abbrev pub steps_of : {K V : Type 0} → FrontLists K V → List Step
steps_of lists = lists.steps.items

-- an item as a point
abbrev pub point_of : {V : Type 0} → Item V → Point V
point_of item = record { departure = item.departure; value = item.value; tag = item.tag }

-- the points of the list that begins at an entry
abbrev pub list_points : {K V : Type 0} → FrontLists K V → ℕ → List (Point V)
list_points lists head = map point_of (points_from lists.entries.items lists.items.items head)

-- the front of the entry at an index
abbrev pub front_at : {K V : Type 0} → FrontLists K V → ℕ → List (Point V)
front_at lists index = map point_of (front lists.entries.items lists.items.items index)

-- the entries of all lists carry their fronts
abbrev pub IsSound : {K V : Type 0} → (K → Rules V) → FrontLists K V → Type 0
IsSound rules_of lists = AreEntries (rules_of lists.criterion) lists.entries.items lists.items.items

-- a point of a list is no worse than v (an equal one counts)
abbrev pub IsBettered : {V : Type 0} → Rules V → List (Point V) → V → Type 0
IsBettered {V} rules points v = (p : Point V) × Contains points p × NoWorse rules p.value v

-- one of the lists, or of the fronts, is that of the entry at an index; the lists are sound
abbrev pub HasList : {K V : Type 0} → (K → Rules V) → FrontLists K V → ℕ → Type 0
HasList rules_of lists index = HasEntry (rules_of lists.criterion) lists.entries.items lists.items.items index

-- there is only the empty list
pub record IsEmptyAlone {K V : Type 0} (rules_of : K → Rules V) (criterion : K) (lists : FrontLists K V) : Type 0 where
  pub under : lists_criterion lists ≡ criterion
  pub sound : IsSound rules_of lists
  pub empty : list_points lists 0 ≡ []
  pub alone : length (entries_of lists) ≡ 1
  pub no_steps : steps_of lists ≡ []

-- the front of the entry at an index stands for the list from a time on: it has only points of the list that depart at the time or later, and for each of
-- these one that is no worse
pub record IsFrontFrom {K V : Type 0} (rules_of : K → Rules V) (lists : FrontLists K V) (head time index : ℕ) : Type 0 where
  pub within : index < length (entries_of lists)
  pub made_of : (p : Point V) → Contains (front_at lists index) p
      → Contains (list_points lists head) p × (time ≤ p.departure) × Admits (rules_of (lists_criterion lists)) p.value
  pub betters : (p : Point V) → Contains (list_points lists head) p → time ≤ p.departure
      → IsBettered (rules_of (lists_criterion lists)) (front_at lists index) p.value

-- a list takes the ridden values in: each of its points was there before, or is one of these values after the footpath, and its tag names a step that says so;
-- the new list covers what the old one covered, and each of these values after the footpath
pub record TakesRidden {V : Type 0} (rules : Rules V) (steps : List Step) (boarding : Boarding)
    (ridden : List (RiddenLabel V)) (old new : List (Point V)) : Type 0 where
  pub only : (p : Point V) → Contains new p
      → Contains old p ⊎ ((item : Item V) × (point_of item ≡ p)
      × IsBoarding rules steps boarding ridden item)
  pub kept : (d : ℕ) (v : V) → Admits rules v → IsCovered rules old d v → IsCovered rules new d v
  pub covered : (r : RiddenLabel V) → Contains ridden r → IsCovered rules new boarding.departure (rules.walk boarding.secs r.value)

-- lists may take ridden values into the one that begins at `head`
abbrev pub MayTake : {K V : Type 0} → (K → Rules V) → FrontLists K V → ℕ → ℕ → List (RiddenLabel V) → Type 0
MayTake rules_of lists head secs ridden =
    MayInsert (rules_of lists.criterion) lists.entries.items lists.items.items head secs ridden

-- lists grow: the new ones are sound and under the same criterion, and only add to the entries, items and steps
pub record AreMoreLists {K V : Type 0} (rules_of : K → Rules V) (old new : FrontLists K V) : Type 0 where
  pub sound : IsSound rules_of new
  pub criterion : lists_criterion new ≡ lists_criterion old
  pub entries : Extends (entries_of old) (entries_of new)
  pub items : Extends (items_of old) (items_of new)
  pub steps : Extends (steps_of old) (steps_of new)

-- of the new lists, the one that begins at `taken` is what the old one from `head` on has become: it takes the ridden values in
pub record HasTaken {K V : Type 0} (rules_of : K → Rules V) (boarding : Boarding) (ridden : List (RiddenLabel V))
    (old : FrontLists K V) (head : ℕ) (new : FrontLists K V) (taken : ℕ) : Type 0 where
  pub within : taken < length (entries_of new)
  pub takes : TakesRidden (rules_of (lists_criterion old)) (steps_of new) boarding ridden
      (list_points old head) (list_points new taken)
