-- Lists of points by arrival alone.
use Rattle.std.specs.Prelude.{◌≡◌, ◌⊎◌, ℕ, zero, suc, ◌<◌, ◌≤◌, List, [], ◌∷◌, ◌++◌, length, map, Contains, slice_get, Option, Some, None}
use Rattle.reasoning.specs.Lists.{Extends}
use Rattle.criteria.specs.Laws.{IsTime}
use Rattle.bags.specs.declared.point.Point.{Point}
use Rattle.fronts.specs.Chains.{points_along}
use Rattle.fronts.specs.Vectors.{HasNoRoom, IsFull}
use Rattle.fronts.specs.declared.entry.Step.{Step}
use Rattle.arrival_lists.specs.declared.arrival_lists.ArrivalLists.{ArrivalLists}
use Rattle.arrival_lists.specs.declared.entry.Entry.{Entry}
use Rattle.arrival_lists.specs.declared.entry.FirstPoint.{FirstPoint}

-- no time
abbrev pub never : ℕ
never = 4294967295

abbrev pub entries_of : ArrivalLists → List Entry
entries_of lists = lists.entries.items

-- an entry as a point
abbrev pub point_of : Entry → Point ℕ
point_of e = record { departure = e.departure; value = e.time; tag = e.tag }

abbrev pub next_in : Option Entry → ℕ
next_in None = 0
next_in (Some e) = e.next

abbrev pub points_in : Option Entry → List (Point ℕ)
points_in None = []
points_in (Some e) = point_of e ∷ []

-- no entry can be put in or noted: there is no room for it, or no index of 32 bits
abbrev pub HasNoRoomLeft : ArrivalLists → Type 0
HasNoRoomLeft lists = HasNoRoom lists.entries ⊎ IsFull lists.passed

-- the index of the next entry on the list, and the entry's point, by its index
abbrev pub next_of : List Entry → ℕ → ℕ
next_of entries m = next_in (slice_get entries m)

abbrev pub points_at : List Entry → ℕ → List (Point ℕ)
points_at entries m = points_in (slice_get entries m)

-- the points of the list that begins at an entry
abbrev pub points_from : List Entry → ℕ → List (Point ℕ)
points_from entries head = points_along (next_of entries) (points_at entries) head

abbrev pub list_points : ArrivalLists → ℕ → List (Point ℕ)
list_points lists head = points_from lists.entries.items head

-- the steps by which one goes on from points: the tag of a point is the index of its step
abbrev pub steps_of : ArrivalLists → List Step
steps_of lists = map (λ e. e.step) lists.entries.items

-- an entry departs no later than another, and arrives no later
abbrev pub Precedes : Entry → Entry → Type 0
Precedes e f = (e.departure ≤ f.departure) × (e.time ≤ f.time)

-- links lead back, to entry 0, which departs and arrives at no time; along a list departures rise, and arrivals with them
pub record AreEntries (entries : List Entry) : Type 0 where
  pub some : 0 < length entries
  pub end : (e : Entry) → slice_get entries 0 ≡ Some e → (e.departure ≡ never) × (e.time ≡ never)
  pub back : (m : ℕ) (e : Entry) → slice_get entries (suc m) ≡ Some e → e.next ≤ m
  pub rises : (m : ℕ) (e f : Entry) → slice_get entries (suc m) ≡ Some e → slice_get entries e.next ≡ Some f → Precedes e f
  pub times : (m : ℕ) (e : Entry) → slice_get entries (suc m) ≡ Some e → IsTime e.time

-- one of the lists is that of the entry at an index
pub record HasList (lists : ArrivalLists) (index : ℕ) : Type 0 where
  pub sound : AreEntries (entries_of lists)
  pub within : index < length (entries_of lists)

-- the first point of the list that begins at an index
pub record IsFirstOf (lists : ArrivalLists) (index : ℕ) (first : FirstPoint) : Type 0 where
  pub entry : Entry
  pub at : slice_get (entries_of lists) index ≡ Some entry
  pub is : first ≡ record { time = entry.time; departure = entry.departure; tag = entry.tag; head = index }

-- a list's first point
pub record HasFirst (lists : ArrivalLists) (first : FirstPoint) : Type 0 where
  pub sound : AreEntries (entries_of lists)
  pub is : IsFirstOf lists first.head first

-- there is only the empty list
pub record IsEmptyAlone (lists : ArrivalLists) : Type 0 where
  pub alone : length (entries_of lists) ≡ 1
  pub sound : AreEntries (entries_of lists)
  pub empty : list_points lists 0 ≡ []
  pub first : IsFirstOf lists 0 (record { time = never; departure = never; tag = 0; head = 0 })

abbrev pub as_point : FirstPoint → Point ℕ
as_point f = record { departure = f.departure; value = f.time; tag = f.tag }

-- of the points that depart at a time or later the best, if there is any: none arrives earlier
pub record IsBestFrom (points : List (Point ℕ)) (time : ℕ) (best : FirstPoint) : Type 0 where
  pub made_of : best.time < never → Contains points (as_point best) × (time ≤ best.departure) × IsTime best.time
  pub least : (p : Point ℕ) → Contains points p → time ≤ p.departure → best.time ≤ p.value

-- entry m of a list departs at a time or later, and all points of the list that depart then or later are on the list from there on
pub record IsLate (entries : List Entry) (head time m : ℕ) : Type 0 where
  pub within : m < length entries
  pub late : (e : Entry) → slice_get entries m ≡ Some e → time ≤ e.departure
  pub only : (p : Point ℕ) → Contains (points_from entries m) p → Contains (points_from entries head) p
  pub all : (p : Point ℕ) → Contains (points_from entries head) p → time ≤ p.departure → Contains (points_from entries m) p

-- the first point of the list of all that depart at a time or later
pub record IsFirstFrom (lists : ArrivalLists) (head time : ℕ) (first : FirstPoint) : Type 0 where
  pub is_first : IsFirstOf lists first.head first
  pub late : IsLate (entries_of lists) head time first.head

-- a list has a point that departs no earlier and arrives no later
abbrev pub Reaches : List (Point ℕ) → ℕ → ℕ → Type 0
Reaches points departure time = (p : Point ℕ) × Contains points p × (departure ≤ p.departure) × (p.value ≤ time)

-- lists grow: the new ones only add entries
pub record AreMoreLists (old new : ArrivalLists) : Type 0 where
  pub sound : AreEntries (entries_of new)
  pub entries : Extends (entries_of old) (entries_of new)

-- a list takes a point in: each of its points was there before, or is this one, and then its tag names the step; the new list reaches what the old one
-- reached, and what the point does
pub record TakesPoint (steps : List Step) (departure time : ℕ) (step : Step) (old new : List (Point ℕ)) : Type 0 where
  pub only : (p : Point ℕ) → Contains new p
      → Contains old p ⊎ ((p.departure ≡ departure) × (p.value ≡ time) × (slice_get steps p.tag ≡ Some step))
  pub kept : (d t : ℕ) → Reaches old d t → Reaches new d t
  pub covered : Reaches new departure time

-- of the new lists, the one that begins with `first` is what the old one from `head` on has become: it takes the point in
pub record HasTaken (departure time : ℕ) (step : Step) (old : ArrivalLists) (head : ℕ) (new : ArrivalLists) (first : FirstPoint) : Type 0 where
  pub is_first : IsFirstOf new first.head first
  pub takes : TakesPoint (steps_of new) departure time step (list_points old head) (list_points new first.head)

-- an entry may be put before a list
pub record MayPut (lists : ArrivalLists) (e : Entry) : Type 0 where
  pub sound : AreEntries (entries_of lists)
  pub within : e.next < length (entries_of lists)
  pub precedes : (f : Entry) → slice_get (entries_of lists) e.next ≡ Some f → Precedes e f
  pub time : IsTime e.time

-- an entry is put before a list
pub record IsPut (old : ArrivalLists) (e : Entry) (new : ArrivalLists) (first : FirstPoint) : Type 0 where
  pub sound : AreEntries (entries_of new)
  pub added : entries_of new ≡ entries_of old ++ e ∷ []
  pub is_first : first ≡ record { time = e.time; departure = e.departure; tag = e.tag; head = length (entries_of old) }
  pub points : list_points new first.head ≡ point_of e ∷ list_points old e.next

-- a point as an entry before the list of entry `next`
abbrev pub point_before : ℕ → ℕ → Step → ℕ → ℕ → Entry
point_before departure time step next tag = record { departure = departure; time = time; next = next; tag = tag; step = step }

-- each of these entries precedes all that follow it
abbrev pub AreSorted : List Entry → Type 0
AreSorted entries = (i j : ℕ) (e f : Entry) → i < j → slice_get entries i ≡ Some e → slice_get entries j ≡ Some f → Precedes e f

-- these are the entries of a list that depart and arrive before a point, in the list's order
pub record AreAllPassed (entries : List Entry) (head departure time : ℕ) (passed : List Entry) : Type 0 where
  pub listed : (e : Entry) → Contains passed e → Contains (points_from entries head) (point_of e)
  pub before : (e : Entry) → Contains passed e → (e.departure < departure) × (e.time < time)
  pub sorted : AreSorted passed
  pub all : (p : Point ℕ) → Contains (points_from entries head) p → p.departure < departure → p.value < time
      → (e : Entry) × Contains passed e × (point_of e ≡ p)

-- the entries noted
abbrev pub passed_of : ArrivalLists → List Entry
passed_of lists = lists.passed.items

-- the entries noted may be put before a list, given its first point
pub record MayJoin (lists : ArrivalLists) (first : FirstPoint) : Type 0 where
  pub sound : AreEntries (entries_of lists)
  pub is_first : IsFirstOf lists first.head first
  pub sorted : AreSorted (passed_of lists)
  pub before : (e : Entry) → Contains (passed_of lists) e → (e.departure ≤ first.departure) × (e.time ≤ first.time)
  pub times : (e : Entry) → Contains (passed_of lists) e → IsTime e.time

-- of the new lists, the one that begins with `first` has the points of an old one, those of the entries noted, and no others
pub record IsJoined (old : ArrivalLists) (head : ℕ) (new : ArrivalLists) (first : FirstPoint) : Type 0 where
  pub is_first : IsFirstOf new first.head first
  pub only : (p : Point ℕ) → Contains (list_points new first.head) p
      → Contains (list_points old head) p ⊎ ((e : Entry) × Contains (passed_of old) e × (point_of e ≡ p))
  pub kept : (p : Point ℕ) → Contains (list_points old head) p → Contains (list_points new first.head) p
  pub each : (e : Entry) → Contains (passed_of old) e → Contains (list_points new first.head) (point_of e)
