-- The points of stops, and what a boarding makes of them.
use Rattle.std.specs.Prelude.{◌≡◌, ◌⊎◌, ℕ, ◌+◌, ◌<◌, ◌≤◌, List, [], ◌∷◌, length, Contains, slice_get, slice_index, Some}
use Rattle.reasoning.specs.Lists.{Extends}
use Rattle.criteria.specs.declared.arrival_trips.TimeTrips.{TimeTrips}
use Rattle.bags.specs.Dominance.{IsCovered}
use Rattle.bags.specs.declared.point.Point.{Point}
use Rattle.fronts.specs.declared.entry.Boarding.{Boarding}
use Rattle.fronts.specs.declared.entry.Step.{Step}
use Rattle.fronts.specs.declared.labels.Label.{Label}
use Rattle.fronts.specs.Vectors.{IsFull}
use Rattle.lanes.specs.Lanes.{trip_rules, IsBeaten, IsOutdone}
use Rattle.lanes.specs.LaneLists.{AreLists, AreMore, CoversAll, labels_of, points_from, tags_in}
use Rattle.lanes.specs.declared.lane_lists.LaneEntry.{LaneEntry}
use Rattle.lanes.specs.declared.stop_lanes.LaneStep.{LaneStep}
use Rattle.lanes.specs.declared.stop_lanes.StopLanes.{StopLanes}

-- how many stops there are, and how many entries
abbrev pub stops_of : StopLanes → ℕ
stops_of stops = length stops.heads.items

abbrev pub entries_of : StopLanes → ℕ
entries_of stops = length stops.entries.items

-- the points of a stop
abbrev pub points_at : StopLanes → ℕ → List (Point TimeTrips)
points_at stops stop = points_from stops.entries.items (slice_index stops.heads.items stop)

-- the labels that the front of an entry stands for, and the tags of its words but the first
abbrev pub front_at : StopLanes → ℕ → List (Label TimeTrips)
front_at stops entry = labels_of (slice_get stops.entries.items entry)

abbrev pub tags_at : StopLanes → ℕ → List ℕ
tags_at stops entry = tags_in (slice_get stops.entries.items entry)

-- the step of lane k
abbrev pub step_of : LaneStep → ℕ → Step
step_of s k = record { first = s.first; label = slice_index s.labels k; walk = s.walk }

-- eight steps of each
abbrev pub steps_in : List LaneStep → List Step
steps_in [] = []
steps_in (s ∷ ss) =
    step_of s 0 ∷ step_of s 1 ∷ step_of s 2 ∷ step_of s 3 ∷ step_of s 4 ∷ step_of s 5 ∷ step_of s 6 ∷ step_of s 7 ∷ steps_in ss

-- the steps by which one goes on from points: the tag of a point is the index of its step
abbrev pub steps_of : StopLanes → List Step
steps_of stops = steps_in stops.steps.items

-- steps are added: from tag `first` on, that of boarding with each of these labels
pub record HasSteps (boarding : Boarding) (labels : List ℕ) (old : List Step) (first : ℕ) (new : List Step) : Type 0 where
  pub more : Extends old new
  pub place : first ≡ length old
  pub each : (k : ℕ) → k < 8
      → slice_get new (first + k) ≡ Some (record { first = boarding.first; label = slice_index labels k; walk = boarding.walk })

-- a step is added, that of boarding with a label; no points change
pub record HasStepBeyond (boarding : Boarding) (label : ℕ) (old new : StopLanes) : Type 0 where
  pub heads : new.heads ≡ old.heads
  pub entries : new.entries ≡ old.entries
  pub more : Extends (steps_of old) (steps_of new)
  pub step : slice_get (steps_of new) (length (steps_of old)) ≡ Some (record { first = boarding.first; label = label; walk = boarding.walk })

-- no step can be added: there is no room for it, or no tag of 32 bits
abbrev pub HasNoStepLeft : StopLanes → Type 0
HasNoStepLeft stops = IsFull stops.steps ⊎ (4294967295 < length (steps_of stops))

-- there is a list for each stop
pub record AreStopLanes (stops : StopLanes) : Type 0 where
  pub lists : AreLists stops.entries.items
  pub within : (stop : ℕ) → slice_index stops.heads.items stop < length stops.entries.items

-- the front of an entry stands for the points of a stop from a time on: each of its labels is a point that departs at the time or later, and for each such
-- point it has a label that is no worse
pub record IsFrontFrom (stops : StopLanes) (stop time entry : ℕ) : Type 0 where
  pub within : entry < entries_of stops
  pub made_of : (l : Label TimeTrips) → Contains (front_at stops entry) l
      → (p : Point TimeTrips) × Contains (points_at stops stop) p × (time ≤ p.departure) × (p.value ≡ l.value) × (p.tag ≡ l.tag)
  pub betters : (p : Point TimeTrips) → Contains (points_at stops stop) p → time ≤ p.departure → IsBeaten (front_at stops entry) p.value

-- a point is that of boarding with one of some labels, and its tag names a step that says so
pub record IsBoarding (steps : List Step) (boarding : Boarding) (labels : List (Label TimeTrips)) (p : Point TimeTrips) : Type 0 where
  pub by : Label TimeTrips
  pub is_label : Contains labels by
  pub departs : p.departure ≡ boarding.departure
  pub worth : p.value ≡ trip_rules.ride by.value
  pub goes_on : slice_get steps p.tag ≡ Some (record { first = boarding.first; label = by.tag; walk = boarding.walk })

-- points take boardings in, unless the bound outdoes them: each point was there or is one of them, and what was covered stays covered
pub record TakesBoardings (steps : List Step) (boarding : Boarding) (labels bound : List (Label TimeTrips)) (old new : List (Point TimeTrips))
    : Type 0 where
  pub only : (p : Point TimeTrips) → Contains new p → Contains old p ⊎ IsBoarding steps boarding labels p
  pub kept : CoversAll old new
  pub covered : (l : Label TimeTrips) → Contains labels l
      → IsCovered trip_rules new boarding.departure (trip_rules.ride l.value) ⊎ IsOutdone bound l.value

-- a list takes boardings in: it begins at `new` now; entries and steps are only added
pub record IsListBoarded (entries : List LaneEntry) (head : ℕ) (steps : List Step) (boarding : Boarding) (labels bound : List (Label TimeTrips))
    (entries_now : List LaneEntry) (steps_now : List Step) (new : ℕ) : Type 0 where
  pub more : AreMore entries entries_now new
  pub takes : TakesBoardings steps_now boarding labels bound (points_from entries head) (points_from entries_now new)
  pub steps_more : Extends steps steps_now

-- the points of a stop take boardings in; those of other stops stay, steps are only added, and entries have the tags that they had
pub record IsBoardedAt (stop : ℕ) (boarding : Boarding) (labels bound : List (Label TimeTrips)) (old new : StopLanes) : Type 0 where
  pub lists : AreStopLanes new
  pub takes : TakesBoardings (steps_of new) boarding labels bound (points_at old stop) (points_at new stop)
  pub elsewhere : (k : ℕ) → (k ≡ stop → ⊥) → points_at new k ≡ points_at old k
  pub long : stops_of new ≡ stops_of old
  pub steps : Extends (steps_of old) (steps_of new)
  pub entries : entries_of old ≤ entries_of new
  pub tags : (m : ℕ) → m < entries_of old → tags_at new m ≡ tags_at old m
