-- Lists of entries, each with a front of lanes.
use Rattle.std.specs.Prelude.{◌≡◌, ◌⊎◌, ℕ, zero, suc, ◌+◌, ◌<◌, ◌≤◌, nat_lt, List, [], ◌∷◌, ◌++◌, filter, map, length, Contains, slice_get, slice_index}
use Rattle.std.specs.Prelude.{Option, Some, None}
use Rattle.reasoning.specs.Lists.{Extends}
use Rattle.criteria.specs.declared.arrival_trips.TimeTrips.{TimeTrips}
use Rattle.bags.specs.Dominance.{IsCovered}
use Rattle.bags.specs.declared.point.Point.{Point}
use Rattle.fronts.specs.Chains.{points_along, IsChainPath}
use Rattle.fronts.specs.declared.labels.Label.{Label}
use Rattle.lanes.specs.Lanes.{never, trip_rules, lane_labels}
use Rattle.lanes.specs.LanesWithTags.{labels_in}
use Rattle.lanes.specs.declared.lane_lists.LaneEntry.{LaneEntry}
use Rattle.lanes.specs.declared.trip_lanes.Lanes.{Lanes}

-- the tag of word k of a front; word 0 has none
abbrev pub word_tag : List ℕ → ℕ → ℕ
word_tag tags zero = 0
word_tag tags (suc k) = slice_index tags k

abbrev pub departure_in : Option LaneEntry → ℕ
departure_in None = 0
departure_in (Some e) = e.departure

abbrev pub next_in : Option LaneEntry → ℕ
next_in None = 0
next_in (Some e) = e.next

abbrev pub words_in : Option LaneEntry → List ℕ
words_in None = []
words_in (Some e) = e.front.times

abbrev pub tags_in : Option LaneEntry → List ℕ
tags_in None = []
tags_in (Some e) = e.tags

-- the departure of the entry at an index, the index of the next one on its list, and word k of its front with its tag
abbrev pub departure_of : List LaneEntry → ℕ → ℕ
departure_of entries m = departure_in (slice_get entries m)

abbrev pub next_of : List LaneEntry → ℕ → ℕ
next_of entries m = next_in (slice_get entries m)

abbrev pub word_of : List LaneEntry → ℕ → ℕ → ℕ
word_of entries m k = slice_index (words_in (slice_get entries m)) k

abbrev pub tag_of : List LaneEntry → ℕ → ℕ → ℕ
tag_of entries m k = word_tag (tags_in (slice_get entries m)) k

-- the labels that the front of an entry stands for
abbrev pub labels_of : Option LaneEntry → List (Label TimeTrips)
labels_of entry = lane_labels (word_tag (tags_in entry)) (words_in entry)

-- a label as a point
abbrev pub point_of : ℕ → Label TimeTrips → Point TimeTrips
point_of departure l = record { departure = departure; value = l.value; tag = l.tag }

-- an entry's own points: the labels of its front that are less than the words of the next one
abbrev pub own_points : List LaneEntry → ℕ → List (Point TimeTrips)
own_points entries m =
    map (point_of (departure_of entries m))
    (filter (λ l. nat_lt l.value.time (word_of entries (next_of entries m) l.value.trips)) (labels_of (slice_get entries m)))

-- the points of the list that begins at an entry: the own points of the entries along it
abbrev pub points_from : List LaneEntry → ℕ → List (Point TimeTrips)
points_from entries head = points_along (next_of entries) (own_points entries) head

-- an entry departs no later than the next one, and no word of its front is greater; an equal one has the same tag
pub record IsLinked (entries : List LaneEntry) (e : LaneEntry) : Type 0 where
  pub tagged : length e.tags ≡ 8
  pub rises : e.departure ≤ departure_of entries e.next
  pub under : (k : ℕ) → k < 9 → slice_index e.front.times k ≤ word_of entries e.next k
  pub same : (k : ℕ) → k < 9 → slice_index e.front.times k ≡ word_of entries e.next k → word_tag e.tags k ≡ tag_of entries e.next k

-- all entries: links lead back, to entry 0, which departs at the greatest time and from which nothing can be reached
pub record AreLists (entries : List LaneEntry) : Type 0 where
  pub some : 0 < length entries
  pub ends : next_of entries 0 ≡ 0
  pub last : departure_of entries 0 ≡ 4294967295
  pub none : (k : ℕ) → k < 9 → word_of entries 0 k ≡ never
  pub back : (m : ℕ) → next_of entries (suc m) ≤ m
  pub each : (m : ℕ) (e : LaneEntry) → slice_get entries m ≡ Some e → IsLinked entries e

-- one of the lists begins at this entry
pub record HasList (entries : List LaneEntry) (head : ℕ) : Type 0 where
  pub lists : AreLists entries
  pub within : head < length entries

-- these entries, one after the other, lead from `head` to m along a list
abbrev pub IsPath : List LaneEntry → ℕ → List ℕ → ℕ → Type 0
IsPath entries head passed m = IsChainPath (next_of entries) (length entries) head passed m

-- these entries depart before a time
abbrev pub DepartBefore : List LaneEntry → ℕ → List ℕ → Type 0
DepartBefore entries time indices = (b : ℕ) → Contains indices b → departure_of entries b < time

-- the entries of a list that depart before a time, which lead from `head` to m, the first one that doesn't
pub record PassesTo (entries : List LaneEntry) (head time : ℕ) (passed : List ℕ) (m : ℕ) : Type 0 where
  pub within : m < length entries
  pub path : IsPath entries head passed m
  pub early : DepartBefore entries time passed
  pub late : time ≤ departure_of entries m

-- entry m is the first of a list that departs at a time or later
abbrev pub IsLate : List LaneEntry → ℕ → ℕ → ℕ → Type 0
IsLate entries head time m = (passed : List ℕ) × PassesTo entries head time passed m

-- the entries of a list that depart before a time
abbrev pub ArePassed : List LaneEntry → ℕ → ℕ → List ℕ → Type 0
ArePassed entries head time passed = (m : ℕ) × PassesTo entries head time passed m

-- an entry is added, at this index
abbrev pub IsPushed : List LaneEntry → LaneEntry → List LaneEntry → ℕ → Type 0
IsPushed old entry new index = (new ≡ old ++ entry ∷ []) × (index ≡ length old)

-- points cover all that others cover
abbrev pub CoversAll : List (Point TimeTrips) → List (Point TimeTrips) → Type 0
CoversAll old new = (departure : ℕ) (v : TimeTrips) → IsCovered trip_rules old departure v → IsCovered trip_rules new departure v

-- entries are only added; one of the lists begins at `index`
pub record AreMore (old new : List LaneEntry) (index : ℕ) : Type 0 where
  pub has : HasList new index
  pub more : Extends old new

-- no word of a front is greater than those of an entry that was there
abbrev pub IsUnder : List LaneEntry → ℕ → List LaneEntry → ℕ → Type 0
IsUnder old m new index = (k : ℕ) → k < 9 → word_of new index k ≤ word_of old m k

-- a point is one of some labels with the ride, at a departure; its tag is the number of trips after `first`
pub record IsRidden (departure first : ℕ) (labels : List (Label TimeTrips)) (p : Point TimeTrips) : Type 0 where
  pub by : Label TimeTrips
  pub is_label : Contains labels by
  pub departs : p.departure ≡ departure
  pub worth : p.value ≡ trip_rules.ride by.value
  pub tagged : p.tag ≡ first + by.value.trips

-- an entry with this departure may be put before the list that begins at `after`
pub record MayPut (entries : List LaneEntry) (after departure : ℕ) : Type 0 where
  pub has : HasList entries after
  pub early : departure ≤ departure_of entries after

-- it is put: its list has the points of that list and labels of some lanes with the ride, and covers all of them
pub record IsOnePut (old : List LaneEntry) (after departure : ℕ) (lanes : Lanes) (first : ℕ) (new : List LaneEntry) (index : ℕ) : Type 0 where
  pub more : AreMore old new index
  pub departs : departure_of new index ≡ departure
  pub under : IsUnder old after new index
  pub only : (p : Point TimeTrips) → Contains (points_from new index) p
      → Contains (points_from old after) p ⊎ IsRidden departure first (labels_in (Some lanes)) p
  pub kept : CoversAll (points_from old after) (points_from new index)
  pub covered : (l : Label TimeTrips) → Contains (labels_in (Some lanes)) l
      → IsCovered trip_rules (points_from new index) departure (trip_rules.ride l.value)

-- an entry may be put before a list that begins no earlier, and covers what follows the entry on its own list
pub record MayJoin (entries : List LaneEntry) (from index : ℕ) : Type 0 where
  pub has : HasList entries index
  pub some : 0 < from
  pub within : from < length entries
  pub early : departure_of entries from ≤ departure_of entries index
  pub under : IsUnder entries (next_of entries from) entries index
  pub covers : CoversAll (points_from entries (next_of entries from)) (points_from entries index)

-- a list has the points of two lists, and covers all of them
pub record AreJoined (old : List LaneEntry) (a b : ℕ) (new : List LaneEntry) (index : ℕ) : Type 0 where
  pub more : AreMore old new index
  pub only : (p : Point TimeTrips) → Contains (points_from new index) p → Contains (points_from old a) p ⊎ Contains (points_from old b) p
  pub kept_first : CoversAll (points_from old a) (points_from new index)
  pub kept_second : CoversAll (points_from old b) (points_from new index)

-- it is joined: the list begins no earlier than the entry, and is under it
pub record IsOneJoined (old : List LaneEntry) (from b : ℕ) (new : List LaneEntry) (index : ℕ) : Type 0 where
  pub joined : AreJoined old from b new index
  pub late : departure_of old from ≤ departure_of new index
  pub under : IsUnder old from new index

-- what a list has before a time may be put before another one, which departs at that time and covers the rest of the list
pub record MayJoinAll (entries : List LaneEntry) (head time index : ℕ) : Type 0 where
  pub has_head : HasList entries head
  pub has : HasList entries index
  pub after : ℕ
  pub is_late : IsLate entries head time after
  pub departs : departure_of entries index ≡ time
  pub under : IsUnder entries after entries index
  pub covers : CoversAll (points_from entries after) (points_from entries index)
