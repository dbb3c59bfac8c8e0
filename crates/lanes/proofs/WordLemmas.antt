-- Lanes of one time, lanes with a value more, and lanes read one after the other.
use Rattle.std.proofs.Common.{◌≡◌, ◌⊎◌, ℕ, zero, suc, ◌+◌, ◌<◌, ◌≤◌, nat_lt, min, List, [], ◌∷◌, drop, replicate, length, slice_get, slice_index}
use Rattle.std.proofs.Common.{get_or, Contains, inl, inr, refl, sym, ap, ◌∙◌, subst, arith, drop-cons}
use Rattle.std.proofs.lemmas.Bool.{cases_lt, lt-ltb, le-ltb, cond-true, cond-false}
use Rattle.std.proofs.lemmas.List.{length-replicate}
use Rattle.criteria.specs.Laws.{time_limit}
use Rattle.criteria.specs.TimeTripsLaws.{same_parts}
use Rattle.criteria.specs.declared.arrival_trips.TimeTrips.{TimeTrips}
use Rattle.fronts.specs.declared.labels.Label.{Label}
use Rattle.lanes.specs.Lanes.{never, AreLanes, labels_from, lane_labels, IsBeaten}
use Rattle.lanes.specs.LanesWithTags.{AreTagged, AreAllTagged, labels_in}
use Rattle.lanes.specs.declared.trip_lanes.Lanes.{Lanes}
use Rattle.reasoning.proofs.ListLemmas.{slice_get-replicate-is}
use Rattle.lanes.proofs.LaneLemmas.{Stands, stands, is_label, beaten_at}

-- lanes of one time
even_at : (n k t : ℕ) → k < n → slice_index (replicate n t) k ≡ t
even_at zero k t below = absurd (omega (arith, below))
even_at (suc n) zero t below = refl
even_at (suc n) (suc k) t below = even_at n k t (omega arith)

pub even_are : (n t : ℕ) → t ≤ never → (t < never → t < time_limit) → AreLanes n (replicate n t)
even_are n t most time = record {
  long = length-replicate n t;
  falls = λ i k le lt. let x = even_at n i t (omega (arith, le, lt)) in let y = even_at n k t lt in omega (arith, x, y);
  most = λ k lt. let x = even_at n k t lt in omega (arith, x, most);
  times = λ k lt less. let x = even_at n k t lt in let y = time (omega (arith, x, less)) in omega (arith, x, y);
}

none_more : (tag : ℕ → ℕ) (n k t : ℕ) → labels_from tag k t (replicate n t) ≡ []
none_more tag zero k t = refl
none_more tag (suc n) k t =
    cond-false (nat_lt t t) (record { value = record { time = t; trips = k }; tag = tag k } ∷ labels_from tag (suc k) t (replicate n t))
    (labels_from tag (suc k) t (replicate n t)) (le-ltb t t (omega arith))
    ∙ none_more tag n (suc k) t

pub one_label : (tag : ℕ → ℕ) (n t : ℕ) → t < never
    → lane_labels tag (replicate (suc n) t) ≡ record { value = record { time = t; trips = 0 }; tag = tag 0 } ∷ []
one_label tag n t less =
    let here : Label TimeTrips = record { value = record { time = t; trips = 0 }; tag = tag 0 } in
    cond-true (nat_lt t never) (here ∷ labels_from tag 1 t (replicate n t)) (labels_from tag 1 never (replicate n t)) (lt-ltb t never less)
    ∙ ap (λ ls. here ∷ ls) (none_more tag n 1 t)

-- lanes with a value more
module _ (words new : List ℕ) (value : TimeTrips) (are : AreLanes 9 words) (is_time : value.time < time_limit) (long : length new ≡ 9)
    (from : (k : ℕ) → k < 9 → value.trips ≤ k → slice_index new k ≡ min (slice_index words k) value.time)
    (early : (k : ℕ) → k < 9 → k < value.trips → slice_index new k ≡ slice_index words k) where
  lower : (k : ℕ) → k < 9 → slice_index new k ≤ slice_index words k
  lower k lt = elim (cases_lt k value.trips) [ inl b ↦ let e = early k lt b in omega (arith, e) | inr f ↦ let e = from k lt f in omega (arith, e) ]

  pub with_are : AreLanes 9 new
  with_are = record {
    long = long;
    falls = λ i k le lt.
        let falls = are.falls i k le lt in
        let down = lower k lt in
        elim (cases_lt i value.trips) [
          | inl b ↦ let e = early i (omega (arith, le, lt)) b in omega (arith, e, falls, down)
          | inr f ↦
              let e = from i (omega (arith, le, lt)) f in
              let d = from k lt (omega (arith, f, le)) in
              omega (arith, e, d, falls)
        ];
    most = λ k lt. let down = lower k lt in let m = are.most k lt in omega (arith, down, m);
    times = λ k lt less. elim (cases_lt k value.trips) [
      | inl b ↦ let e = early k lt b in let t = are.times k lt (omega (arith, e, less)) in omega (arith, e, t)
      | inr f ↦
          let e = from k lt f in
          elim (cases_lt (slice_index words k) value.time) [
            | inl w ↦ omega (arith, e, w, is_time)
            | inr v ↦ omega (arith, e, v, is_time)
          ]
    ];
  }

  module _ (tag : ℕ → ℕ) where
    was_there : (l : Label TimeTrips) → Stands tag new l → slice_index words l.value.trips ≡ l.value.time → Contains (lane_labels tag words) l
    was_there l s at =
        let below = s.below in
        let long_words = are.long in
        is_label tag words l (record {
          below = omega (arith, below, long, long_words);
          at = at;
          less = s.less;
          first = λ i h. let f = s.first i h in let down = lower i (omega (arith, h, below, long)) in omega (arith, f, down);
          tagged = s.tagged;
        })

    pub with_only : (l : Label TimeTrips) → Contains (lane_labels tag new) l → Contains (lane_labels tag words) l ⊎ (l.value ≡ value)
    with_only l is =
        let s = stands tag new l is in
        let at = s.at in
        let below = s.below in
        let trips = l.value.trips in
        elim (cases_lt trips value.trips) [
          | inl b ↦ let e = early trips (omega (arith, below, long)) b in inl (was_there l s (sym e ∙ at))
          | inr f ↦
              let e = from trips (omega (arith, below, long)) f in
              elim (cases_lt value.time (slice_index words trips)) [
                | inl v ↦ elim (cases_lt value.trips trips) [
                  | inl later ↦
                      let first = s.first value.trips later in
                      let d = from value.trips (omega (arith, later, below, long)) (omega arith) in
                      absurd (omega (arith, first, d, e, at, v))
                  | inr same ↦ inr (same_parts l.value value (omega (arith, e, at, v)) (omega (arith, f, same)))
                ]
                | inr w ↦ inl (was_there l s (omega (arith, e, at, w)))
              ]
        ]

    pub with_kept : (l : Label TimeTrips) → Contains (lane_labels tag words) l → IsBeaten (lane_labels tag new) l.value
    with_kept l is =
        let s = stands tag words l is in
        let at = s.at in
        let below = s.below in
        let long_words = are.long in
        let down = lower l.value.trips (omega (arith, below, long_words)) in
        beaten_at tag new l.value l.value.trips (omega (arith, below, long, long_words)) (omega arith) (omega (arith, down, at)) s.less

    pub with_taken : value.trips ≤ 8 → IsBeaten (lane_labels tag new) value
    with_taken few =
        let e = from value.trips (omega (arith, few)) (omega arith) in
        beaten_at tag new value value.trips (omega (arith, few, long)) (omega arith) (omega (arith, e)) (omega (arith, is_time))

-- the labels of the lanes from one on
pub labels_next : (tag : ℕ → ℕ) (k before : ℕ) (lanes : List ℕ) → k < length lanes → get_or lanes k 0 < before
    → labels_from tag k before (drop k lanes)
    ≡ record { value = record { time = get_or lanes k 0; trips = k }; tag = tag k } ∷ labels_from tag (k + 1) (get_or lanes k 0) (drop (k + 1) lanes)
labels_next tag k before lanes below less =
    let t = get_or lanes k 0 in
    let on : k + 1 ≡ suc k = omega arith in
    let here : Label TimeTrips = record { value = record { time = t; trips = k }; tag = tag k } in
    ap (labels_from tag k before) (drop-cons lanes k 0 below)
    ∙ cond-true (nat_lt t before) (here ∷ labels_from tag (suc k) t (drop (suc k) lanes)) (labels_from tag (suc k) before (drop (suc k) lanes))
    (lt-ltb t before less)
    ∙ ap (λ n. here ∷ labels_from tag n t (drop n lanes)) (sym on)

pub labels_skip : (tag : ℕ → ℕ) (k before : ℕ) (lanes : List ℕ) → k < length lanes → before ≤ get_or lanes k 0
    → labels_from tag k before (drop k lanes) ≡ labels_from tag (k + 1) before (drop (k + 1) lanes)
labels_skip tag k before lanes below more =
    let t = get_or lanes k 0 in
    let on : k + 1 ≡ suc k = omega arith in
    let here : Label TimeTrips = record { value = record { time = t; trips = k }; tag = tag k } in
    ap (labels_from tag k before) (drop-cons lanes k 0 below)
    ∙ cond-false (nat_lt t before) (here ∷ labels_from tag (suc k) t (drop (suc k) lanes)) (labels_from tag (suc k) before (drop (suc k) lanes))
    (le-ltb t before more)
    ∙ ap (λ n. labels_from tag n before (drop n lanes)) (sym on)

pub labels_end : (tag : ℕ → ℕ) (k before : ℕ) (lanes : List ℕ) → length lanes ≤ k → labels_from tag k before (drop k lanes) ≡ []
labels_end tag k before lanes all = ap (labels_from tag k before) (drop_all lanes k all)
  where
    drop_all : (xs : List ℕ) (k : ℕ) → length xs ≤ k → drop k xs ≡ []
    drop_all [] zero h = refl
    drop_all [] (suc k) h = refl
    drop_all (x ∷ xs) zero h = absurd (omega (arith, h))
    drop_all (x ∷ xs) (suc k) h = drop_all xs k (omega arith)

-- lanes without labels
abbrev pub no_lanes : Lanes
no_lanes = record { times = replicate 8 never; tags = replicate 8 0 }

pub none_tagged : (count : ℕ) → AreAllTagged (replicate count no_lanes)
none_tagged count k lanes at =
    subst AreTagged (sym (slice_get-replicate-is count k no_lanes lanes at))
    (record { lanes_are = even_are 8 never (omega arith) (λ less. absurd (omega (arith, less))); tagged = length-replicate {A = ℕ} 8 0 })

pub none_labelled : (count trip : ℕ) → labels_in (slice_get (replicate count no_lanes) trip) ≡ []
none_labelled zero trip = refl
none_labelled (suc count) zero = refl
none_labelled (suc count) (suc trip) = none_labelled count trip
