-- The lanes of all trips after those of one are written, and what a change does.
use Rattle.std.proofs.Common.{◌≡◌, ◌≢◌, ◌⊎◌, ℕ, ◌+◌, ◌<◌, ◌≤◌, min, nat_lt, Bool, true, false, List, Contains, length, get_or, slice_get, slice_set}
use Rattle.std.proofs.Common.{slice_index, Some}
use Rattle.std.proofs.Common.{sym, ap, ◌∙◌, subst, inl, inr, arith}
use Rattle.std.proofs.Math.ListN.{length-set}
use Rattle.std.proofs.lemmas.Option.{slice_get-get_or}
use Rattle.std.proofs.lemmas.Bool.{cases_eq, ltb-true, ltb-false, true≢false}
use Rattle.reasoning.proofs.ListLemmas.{same_at, slice_get-set_same, slice_get-set_other}
use Rattle.criteria.specs.declared.arrival_trips.TimeTrips.{TimeTrips}
use Rattle.fronts.specs.declared.labels.Label.{Label}
use Rattle.lanes.specs.Lanes.{lane_labels, IsBeaten}
use Rattle.lanes.specs.LanesWithTags.{AreTagged, AreAllTagged, AreMarked, labels_in}
use Rattle.lanes.specs.TripLanes.{TakesAll, AllBeaten, IsNews, labels_at, trips_of, front_labels, offered_by}
use Rattle.lanes.specs.declared.trip_lanes.Lanes.{Lanes}
use Rattle.lanes.specs.declared.trip_lanes.TripLanes.{TripLanes}
use Rattle.lanes.specs.declared.words.Words.{Words}
use Rattle.lanes.proofs.TakeLemmas as take

pub tagged_set : (all : List Lanes) (trip : ℕ) (lanes : Lanes) → trip < length all → AreAllTagged all → AreTagged lanes
    → AreAllTagged (slice_set all trip lanes)
tagged_set all trip lanes there each are k other at =
    elim (cases_eq k trip) [
      | inl same ↦ subst AreTagged (same_at (slice_set all trip lanes) trip lanes other (slice_get-set_same all trip lanes there)
          (subst (λ n. slice_get (slice_set all trip lanes) n ≡ Some other) same at)) are
      | inr elsewhere ↦ each k other (sym (slice_get-set_other all trip k lanes elsewhere) ∙ at)
    ]

-- a trip is marked as its lanes are written
pub marked_set : (all : List Lanes) (marks : List Bool) (trip : ℕ) (lanes : Lanes) → trip < length all → AreMarked all marks
    → AreMarked (slice_set all trip lanes) (slice_set marks trip true)
marked_set all marks trip lanes there marked = record {
  long = length-set marks trip true ∙ marked.long ∙ sym (length-set all trip lanes);
  none = λ k at. elim (cases_eq k trip) [
    | inl same ↦
        let long = marked.long in
        absurd (true≢false (same_at (slice_set marks trip true) trip true false (slice_get-set_same marks trip true (omega (arith, there, long)))
        (subst (λ n. slice_get (slice_set marks trip true) n ≡ Some false) same at)))
    | inr elsewhere ↦
        ap labels_in (slice_get-set_other all trip k lanes elsewhere) ∙ marked.none k (sym (slice_get-set_other marks trip k true elsewhere) ∙ at)
  ];
}

pub labels_set : (all : List Lanes) (trip : ℕ) (lanes : Lanes) → trip < length all
    → lane_labels (slice_index lanes.tags) lanes.times ≡ labels_in (slice_get (slice_set all trip lanes) trip)
labels_set all trip lanes there = ap labels_in (sym (slice_get-set_same all trip lanes there))

pub labels_others : (all : List Lanes) (trip k : ℕ) (lanes : Lanes) → k ≢ trip
    → labels_in (slice_get (slice_set all trip lanes) k) ≡ labels_in (slice_get all k)
labels_others all trip k lanes other = ap labels_in (slice_get-set_other all trip k lanes other)

-- what a change does to a trip whose lanes these are
module _ (self : TripLanes) (trip : ℕ) (lanes : Lanes) (front bound : Words) (first : ℕ) (there : slice_get self.lanes.items trip ≡ Some lanes) where
  are : AreTagged lanes
  are = self.tagged trip lanes there

  abbrev Tag : ℕ → ℕ
  Tag = slice_index lanes.tags

  labels_are : lane_labels Tag lanes.times ≡ labels_at self trip
  labels_are = sym (ap labels_in there)

  -- a value of eight trips is news if it is less than this
  abbrev least_other : ℕ
  least_other = min (slice_index front.times 7) (min (slice_index lanes.times 7) (slice_index bound.times 8))

  abbrev lacks : Bool
  lacks = nat_lt (slice_index front.times 8) least_other

  abbrev IsMadeOf : List (Label TimeTrips) → List (Label TimeTrips) → Type 0
  IsMadeOf old new = (l : Label TimeTrips) → Contains new l → Contains old l ⊎ Contains (offered_by front first) l

  abbrev Keeps : List (Label TimeTrips) → List (Label TimeTrips) → Type 0
  Keeps old new = (l : Label TimeTrips) → Contains old l → IsBeaten new l.value

  pub is_full : lacks ≡ true
      → (l : Label TimeTrips) × Contains (offered_by front first) l × (l.value.trips ≡ 8) × IsNews (front_labels bound) (labels_at self trip) l
  is_full e =
      subst (λ labels. (l : Label TimeTrips) × Contains (offered_by front first) l × (l.value.trips ≡ 8) × IsNews (front_labels bound) labels l) labels_are
      (take.lacks_lane lanes.times front.times bound.times first Tag (λ _. 0) are.lanes_are front.falls bound.falls (ltb-true (slice_index front.times 8)
      least_other e))

  module _ (has : lacks ≡ false) where
    has_lanes : least_other ≤ slice_index front.times 8
    has_lanes = ltb-false (slice_index front.times 8) least_other has

    pub is_no_news : ((k : ℕ) → k < 8 → min (slice_index lanes.times k) (slice_index bound.times (k + 1)) ≤ slice_index front.times k)
        → AllBeaten (front_labels bound) (labels_at self trip) (offered_by front first)
    is_no_news each =
        subst (λ labels. AllBeaten (front_labels bound) labels (offered_by front first)) labels_are
        (take.none_news lanes.times front.times bound.times first Tag (λ _. 0) are.lanes_are front.falls bound.falls each has_lanes)

    -- its lanes are lowered
    module _ (new : Lanes) (long : length new.times ≡ 8) (tagged : length new.tags ≡ 8)
        (least : (k : ℕ) → k < 8 → slice_index new.times k ≡ min (slice_index lanes.times k) (slice_index front.times k))
        (tags_new : (k : ℕ) → k < 8 → slice_index front.times k < slice_index lanes.times k → slice_index new.tags k ≡ first + k)
        (tags_old : (k : ℕ) → k < 8 → slice_index lanes.times k ≤ slice_index front.times k → slice_index new.tags k ≡ slice_index lanes.tags k) where
      pub are_lowered : AreTagged new
      are_lowered = record {
        lanes_are = take.least_are lanes.times front.times bound.times first Tag (λ _. 0) are.lanes_are front.falls bound.falls new.times long least;
        tagged = tagged;
      }

      pub lowers : (now : TripLanes) → now.lanes.items ≡ slice_set self.lanes.items trip new → trip < trips_of self
          → TakesAll trip (front_labels bound) (offered_by front first) self now
      lowers now is within =
          let here : lane_labels (slice_index new.tags) new.times ≡ labels_at now trip =
          labels_set self.lanes.items trip new within ∙ ap (λ all. labels_in (slice_get all trip)) (sym is) in
          let old = labels_are in
          record {
            only = subst (λ labels. IsMadeOf labels (labels_at now trip)) old
                (subst (IsMadeOf (lane_labels Tag lanes.times)) here
                (take.taken_only lanes.times front.times bound.times first Tag (λ _. 0) are.lanes_are front.falls bound.falls new.times
                (slice_index new.tags) long least tags_new tags_old));
            kept = subst (λ labels. Keeps labels (labels_at now trip)) old
                (subst (Keeps (lane_labels Tag lanes.times)) here
                (take.taken_kept lanes.times front.times bound.times first Tag (λ _. 0) are.lanes_are front.falls bound.falls new.times
                (slice_index new.tags) long least tags_new tags_old));
            taken = subst (λ labels. AllBeaten (front_labels bound) labels (offered_by front first)) here
                (take.taken_all lanes.times front.times bound.times first Tag (λ _. 0) are.lanes_are front.falls bound.falls new.times
                (slice_index new.tags) long least tags_new tags_old has_lanes);
            elsewhere = λ k other. ap (λ all. labels_in (slice_get all k)) is ∙ labels_others self.lanes.items trip k new other;
            long = ap length is ∙ length-set self.lanes.items trip new;
          }

    pub is_some_news : (k : ℕ) × (k < 8) × (slice_index front.times k < min (slice_index lanes.times k) (slice_index bound.times (k + 1)))
        → (l : Label TimeTrips) × Contains (offered_by front first) l × IsNews (front_labels bound) (labels_at self trip) l
    is_some_news (k, below, less) =
        subst (λ labels. (l : Label TimeTrips) × Contains (offered_by front first) l × IsNews (front_labels bound) labels l) labels_are
        (take.some_news lanes.times front.times bound.times first Tag (λ _. 0) are.lanes_are front.falls bound.falls k below less)
