-- Offers made of smaller ones, and lists that take them in while records (`ScanRecords`) are added.
use Rattle.std.specs.Prelude.{◌≡◌, ◌≢◌, ◌⊎◌, ℕ, ◌+◌, ◌-◌, ◌<◌, ◌≤◌, List, [], ◌∷◌, length, map, Contains, slice_get}
use Rattle.std.specs.Prelude.{Option, Some, None}
use Rattle.std.proofs.Common.{inl, inr}
use Rattle.criteria.specs.Laws.{Rules}
use Rattle.bags.specs.declared.point.Point.{Point}
use Rattle.timetable.specs.declared.network.Connection.{Connection}
use Rattle.timetable.specs.declared.network.Footpath.{Footpath}
use Rattle.timetable.specs.TimetableValue.{TimetableValue}
use Rattle.timetable.specs.Legal.{At}
use Rattle.timetable.specs.Journeys.{start_secs}
use Rattle.scan_state.specs.Values.{started}
use Rattle.scan_state.specs.Continuations.{Aboard}
use Rattle.scan_state.specs.Matching.{Spellings, from_to}
use Rattle.scan_state.specs.Steps.{Offer, TakesIn, boarded}
use Rattle.scan_state.specs.ScanRecords.{SpellsEnd, SpellsChange}
use Rattle.scan_state.specs.ScanRecords.{ScanRecords, Grows, spelling_of}
use Rattle.scan_state.specs.declared.scan_records.SetOut.{SetOut}
use Rattle.scan_state.specs.declared.final_walks.FinalWalk.{FinalWalk}
use Rattle.fronts.specs.declared.entry.RiddenLabel.{RiddenLabel}
use Rattle.fronts.specs.declared.labels.Label.{Label}
use Rattle.fronts.specs.declared.labels.Labels.{Labels}
use Rattle.fronts.specs.Labels.{labels_at}
use Rattle.scan_state.specs.SetQuery.{SetQueryValue}

-- an offer of one way
abbrev pub one_way : {V : Type 0} → ℕ → V → (ℕ → Type 0) → Offer (Unit {0}) V
one_way departure value fits = record
    { is_open = λ _. Unit {0}; departure = λ _. departure; value = λ _. value; fits_tag = λ _. fits }

-- one way to set out
abbrev pub set_out_way : {V : Type 0} → Spellings → ℕ → V → SetOut → Offer (Unit {0}) V
set_out_way tags departure value s = one_way departure value (λ tag. (x : Aboard)
    → tags.earlier.aboard s.label ≡ Some x
    → tags.later.journey tag ≡ Some (record { start = s.start; rides = boarded s.first x }))

-- the offers of all elements for which `There` holds, as one offer
abbrev pub each_of : {X A V : Type 0} → (X → Type 0) → (X → Offer A V) → Offer (X × A) V
each_of There offer = record {
  is_open = λ way. There way.0 × (offer way.0).is_open way.1;
  departure = λ way. (offer way.0).departure way.1;
  value = λ way. (offer way.0).value way.1;
  fits_tag = λ way. (offer way.0).fits_tag way.1;
}

-- labels as points; their departure is 0, since a passenger in a trip has departed
abbrev pub label_points : {V : Type 0} → List (Label V) → List (Point V)
label_points labels = map (λ label. record { departure = 0; value = label.value; tag = label.tag }) labels

-- the labels of a trip as points
abbrev pub trip_points : {V : Type 0} → Labels V → ℕ → List (Point V)
trip_points labels trip = label_points (labels_at labels trip)

-- a list takes an offer in while records grow from `was` to `now`, for all records `before` that grew into `was` and all records `all` that `now` grows
-- into: `tags.earlier` are read in `before`, `tags.later` in `all`
abbrev pub Takes : {A V : Type 0} → Rules V → List Footpath → ScanRecords → ScanRecords → (Spellings → Offer A V) → List (Point V)
    → List (Point V) → Type 0
Takes rules walks was now offer old new =
    (before all : ScanRecords) → Grows before was → Grows now all
    → TakesIn rules (offer (from_to (spelling_of walks before) (spelling_of walks all))) old new

-- the element is among the first n
abbrev pub StandsBefore : {X : Type 0} → List X → ℕ → X → Type 0
StandsBefore points n x = (k : ℕ) × (k < n) × (slice_get points k ≡ Some x)

-- offered to the points of a stop: for each label of a trip, boarding connection i with it after a footpath
abbrev pub boardings_after : {V : Type 0} → Rules V → Spellings → ℕ → ℕ → Footpath → List (Point V) → Offer (Point V) V
boardings_after rules tags i departure walk labels = record {
  is_open = Contains labels;
  departure = λ _. departure;
  value = λ label. rules.walk walk.secs (rules.ride label.value);
  fits_tag = λ label tag. (x : Aboard) → tags.earlier.aboard label.tag ≡ Some x
      → tags.later.onward tag ≡ Some (record { walk = walk ∷ []; rides = boarded i x });
}

-- offered to the points found: for each label of a trip, boarding connection i with it after a start
abbrev pub settings_out_after : {V : Type 0} → Rules V → Spellings → ℕ → ℕ → Option Footpath → List (Point V)
    → Offer (Point V) V
settings_out_after rules tags i departure start labels = record {
  is_open = Contains labels;
  departure = λ _. departure;
  value = λ label. started rules start (rules.ride label.value);
  fits_tag = λ label tag. (x : Aboard) → tags.earlier.aboard label.tag ≡ Some x
      → tags.later.journey tag ≡ Some (record { start = start; rides = boarded i x });
}

-- the ridden values are those of the labels with the ride, each with the tag of its label
pub record AreRidden {V : Type 0} (rules : Rules V) (labels : List (Point V)) (ridden : List (RiddenLabel V)) : Type 0 where
  pub of_label : (r : RiddenLabel V) → Contains ridden r → (l : Point V) × Contains labels l
      × (r.value ≡ rules.ride l.value) × (r.label ≡ l.tag)
  pub each : (l : Point V) → Contains labels l → (r : RiddenLabel V) × Contains ridden r × (r.value ≡ rules.ride l.value)

-- offered to labels: each point of a stop that departs at a time or later; the trip is left at connection i
abbrev pub changes_from : {V : Type 0} → Spellings → ℕ → ℕ → List (Point V) → Offer (Point V) V
changes_from tags i time bag = record {
  is_open = λ p. Contains bag p × (time ≤ p.departure);
  departure = λ _. 0;
  value = λ p. p.value;
  fits_tag = λ p tag. SpellsChange tags i p.tag tag;
}

-- two offers together
abbrev pub open_in : {A B V : Type 0} → Offer A V → Offer B V → A ⊎ B → Type 0
open_in a b (inl way) = a.is_open way
open_in a b (inr way) = b.is_open way

abbrev pub departure_in : {A B V : Type 0} → Offer A V → Offer B V → A ⊎ B → ℕ
departure_in a b (inl way) = a.departure way
departure_in a b (inr way) = b.departure way

abbrev pub value_in : {A B V : Type 0} → Offer A V → Offer B V → A ⊎ B → V
value_in a b (inl way) = a.value way
value_in a b (inr way) = b.value way

abbrev pub fits_in : {A B V : Type 0} → Offer A V → Offer B V → A ⊎ B → ℕ → Type 0
fits_in a b (inl way) = a.fits_tag way
fits_in a b (inr way) = b.fits_tag way

abbrev pub either : {A B V : Type 0} → Offer A V → Offer B V → Offer (A ⊎ B) V
either a b = record {
  is_open = open_in a b;
  departure = departure_in a b;
  value = value_in a b;
  fits_tag = fits_in a b;
}

-- an offer under a condition
abbrev pub only_if : {A V : Type 0} → Type 0 → Offer A V → Offer A V
only_if P offer = record {
  is_open = λ way. P
      × offer.is_open way;
  departure = offer.departure;
  value = offer.value;
  fits_tag = offer.fits_tag;
}

-- how one may end by a way from where a connection ends, in time for the query: at once, if the way is the loop there, or else after its footpath
abbrev pub IsEnding : Connection → SetQueryValue → Option FinalWalk → Option Footpath → Type 0
IsEnding c q None walk = ⊥
IsEnding c q (Some way) None = (way.to ≡ c.to) × (c.arr ≤ q.by)
IsEnding c q (Some way) (Some f) = (way.to ≢ c.to) × (f ≡ record { from = c.to; to = way.to; secs = way.secs })
    × (c.arr + f.secs ≤ q.by)

-- offered to labels: each way to end where a connection ends; the trip is left at connection i
abbrev pub endings : {V : Type 0} → Rules V → Spellings → ℕ → Connection → SetQueryValue → Option FinalWalk → Offer (Option Footpath) V
endings rules tags i c q way = record {
  is_open = IsEnding c q way;
  departure = λ _. 0;
  value = λ walk. started rules walk (rules.arrive (c.arr + start_secs walk));
  fits_tag = λ walk tag. SpellsEnd tags i walk tag;
}

-- the two ways to leave a trip where a connection ends: to end, or to change
abbrev pub endings_and_changes : {V : Type 0} → Rules V → Spellings → ℕ → Connection → SetQueryValue → Option FinalWalk
    → List (Point V) → Offer (Option Footpath ⊎ Point V) V
endings_and_changes rules tags i c q way bag = either (endings rules tags i c q way) (changes_from tags i c.arr bag)

-- of these only a change to a point whose value is excused is
abbrev pub NoChange : {V : Type 0} → (V → Type 0) → Option Footpath ⊎ Point V → Type 0
NoChange Excused (inl walk) = ⊥
NoChange Excused (inr p) = Excused p.value

-- how one starts at a source: on no footpath, if the connection begins there; or on one from a source to another stop, possibly a source as well
abbrev pub StartsFrom : SetQueryValue → Connection → Option Footpath → Type 0
StartsFrom q c None = Contains q.sources c.from
StartsFrom q c (Some f) = Contains q.sources f.from × (f.to ≢ f.from)

-- a start fits before a connection, and the departure with it lies between two times
pub record IsInTime (from until : ℕ) (c : Connection) (start : Option Footpath) : Type 0 where
  pub fits : start_secs start ≤ c.dep
  pub not_early : from ≤ c.dep - start_secs start
  pub not_late : c.dep - start_secs start ≤ until

-- a start begins at a source, fits before the connection, and departs when the query allows
pub record MayStart (q : SetQueryValue) (c : Connection) (start : Option Footpath) : Type 0 where
  pub starts : StartsFrom q c start
  pub in_time : IsInTime q.from q.until c start

-- a footpath is at an index from `begin` on, before `end`
abbrev pub StandsBetween : List Footpath → ℕ → ℕ → Footpath → Type 0
StandsBetween walks begin end walk = (k : ℕ) × (begin ≤ k) × (k < end) × (slice_get walks k ≡ Some walk)

-- the footpaths at indices from `begin` on, before `end`, lead to a stop
pub record AreWalksInto (t : TimetableValue) (stop begin end : ℕ) : Type 0 where
  pub stop_in : stop < t.stops
  pub into : (k : ℕ) (f : Footpath) → At t.footpaths k f → begin ≤ k → k < end → f.to ≡ stop
  pub order : begin ≤ end
  pub within : end ≤ length t.footpaths

-- no start, or one of these footpaths
abbrev pub IsTried : List Footpath → ℕ → ℕ → Option Footpath → Type 0
IsTried walks begin end None = Unit {0}
IsTried walks begin end (Some walk) = StandsBetween walks begin end walk

-- what one footpath to a connection's start offers to the points of a stop: nothing, unless it leaves that stop, at time 0 or later
abbrev pub boardings_by : {V : Type 0} → Rules V → Spellings → ℕ → Connection → ℕ → List (Point V) → Footpath
    → Offer (Point V) V
boardings_by rules tags i c stop labels walk = only_if ((walk.from ≡ stop) × (walk.secs ≤ c.dep))
    (boardings_after rules tags i (c.dep - walk.secs) walk labels)

-- what one start offers to the points found: nothing, unless `MayStart` allows it
abbrev pub settings_out_by : {V : Type 0} → Rules V → Spellings → ℕ → Connection → SetQueryValue → List (Point V)
    → Option Footpath → Offer (Point V) V
settings_out_by rules tags i c q labels start = only_if (MayStart q c start)
    (settings_out_after rules tags i (c.dep - start_secs start) start labels)
