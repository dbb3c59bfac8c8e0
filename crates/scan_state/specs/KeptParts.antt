-- What a part of a step makes of what is kept of trips and stops.
use Rattle.std.specs.Prelude.{◌≡◌, ◌≢◌, ℕ, List, Some, slice_get}
use Rattle.criteria.specs.Laws.{Rules}
use Rattle.bags.specs.declared.point.Point.{Point}
use Rattle.timetable.specs.declared.network.Footpath.{Footpath}
use Rattle.timetable.specs.TimetableValue.{TimetableValue}
use Rattle.fronts.specs.Front.{Extends}
use Rattle.scan_state.specs.ScanState.{final_walk_in}
use Rattle.scan_state.specs.SetQuery.{SetQueryValue}
use Rattle.scan_state.specs.Matching.{Spellings, from_to}
use Rattle.scan_state.specs.Steps.{Offer, TakesInBut, boardings}
use Rattle.scan_state.specs.Bound.{Excludes}
use Rattle.scan_state.specs.Adding.{StandsBetween, boardings_by, changes_from, each_of, endings}
use Rattle.scan_state.specs.ScanRecords.{Grows, KeptValue, ScanRecords, scan_records, spelling_of}
use Rattle.scan_state.specs.declared.hop.Hop.{Hop}
use Rattle.scan_state.specs.declared.scan_records.SetOut.{SetOut}

-- the labels of one trip take an offer in but for what is excused; all else stays, and exits are only added
pub record LabelsTake {A V : Type 0} (rules : Rules V) (trip : ℕ) (Excused : A → Type 0) (offer : Spellings → Offer A V) (old new : KeptValue V)
    : Type 0 where
  pub exits : Extends old.exits new.exits
  pub steps : new.steps ≡ old.steps
  pub bags : (stop : ℕ) → new.bag stop ≡ old.bag stop
  pub other_trips : (k : ℕ) → k ≢ trip → new.labels k ≡ old.labels k
  pub takes : (walks : List Footpath) (set_outs : List SetOut) (before all : ScanRecords)
      → Grows before (scan_records old.exits old.steps set_outs) → Grows (scan_records new.exits new.steps set_outs) all
      → TakesInBut rules Excused (offer (from_to (spelling_of walks before) (spelling_of walks all))) (old.labels trip) (new.labels trip)

-- the points of each stop take an offer in but for what is excused, in a timetable with some footpaths; all else stays, and steps are only added
pub record BagsTake {A V : Type 0} (rules : Rules V) (AreWalks : List Footpath → Type 0) (Excused : A → Type 0) (offer : ℕ → Spellings → Offer A V)
    (old new : KeptValue V) : Type 0 where
  pub exits : new.exits ≡ old.exits
  pub steps : Extends old.steps new.steps
  pub labels : (trip : ℕ) → new.labels trip ≡ old.labels trip
  pub takes : (walks : List Footpath) → AreWalks walks → (stop : ℕ) (set_outs : List SetOut) (before all : ScanRecords)
      → Grows before (scan_records old.exits old.steps set_outs) → Grows (scan_records new.exits new.steps set_outs) all
      → TakesInBut rules Excused (offer stop (from_to (spelling_of walks before) (spelling_of walks all))) (old.bag stop) (new.bag stop)

-- the labels of a hop's trip take in the ways to end where its connection ends
abbrev pub takes_endings : {V : Type 0} → Rules V → SetQueryValue → Hop V → KeptValue V → KeptValue V → Type 0
takes_endings rules q hop =
    LabelsTake rules hop.connection.trip (λ _. ⊥) (λ tags. endings rules tags hop.place hop.connection q (final_walk_in hop.final_entry))

-- and changes to some points, but for those that the bound excludes
abbrev pub takes_changes : {V : Type 0} → Rules V → Hop V → List (Point V) → KeptValue V → KeptValue V → Type 0
takes_changes rules hop points =
    LabelsTake rules hop.connection.trip (λ p. Excludes rules hop.bound.now p.value) (λ tags. changes_from tags hop.place hop.connection.arr points)

-- the points of each stop take in the boardings of a hop's connection, with some labels after the footpath at an index, but for labels that the bound excludes
abbrev pub boards_after : {V : Type 0} → Rules V → Hop V → List (Point V) → ℕ → Footpath → KeptValue V → KeptValue V → Type 0
boards_after rules hop labels walk_index walk =
    BagsTake rules (λ walks. slice_get walks walk_index ≡ Some walk) (λ l. Excludes rules hop.bound.now l.value)
    (λ stop tags. boardings_by rules tags hop.place hop.connection stop labels walk)

-- the same after each of the footpaths at the indices `begin..end`
abbrev pub boards_after_each : {V : Type 0} → Rules V → TimetableValue → ℕ → ℕ → Hop V → List (Point V) → KeptValue V → KeptValue V → Type 0
boards_after_each rules t begin end hop labels =
    BagsTake rules (λ walks. walks ≡ t.footpaths) (λ way. Excludes rules hop.bound.now way.1.value)
    (λ stop tags. each_of (StandsBetween t.footpaths begin end) (boardings_by rules tags hop.place hop.connection stop labels))

-- the same of all its boardings
abbrev pub boards_all : {V : Type 0} → Rules V → TimetableValue → Hop V → List (Point V) → KeptValue V → KeptValue V → Type 0
boards_all rules t hop labels =
    BagsTake rules (λ walks. walks ≡ t.footpaths) (λ way. Excludes rules hop.bound.now way.label.value)
    (λ stop tags. boardings rules t tags hop.place stop labels)
