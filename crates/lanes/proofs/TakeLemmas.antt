-- What eight lanes of a trip become by nine words of a front.
use Rattle.std.proofs.Common.{◌≡◌, ◌⊎◌, ℕ, ◌+◌, ◌<◌, ◌≤◌, List, min, length, slice_index, Contains}
use Rattle.std.proofs.Common.{inl, inr, refl, ◌∙◌, subst, arith}
use Rattle.std.proofs.lemmas.Bool.{cases_lt}
use Rattle.criteria.specs.declared.arrival_trips.TimeTrips.{TimeTrips}
use Rattle.fronts.specs.declared.labels.Label.{Label}
use Rattle.lanes.specs.Lanes.{never, trip_rules, AreLanes, lane_labels, IsBeaten, IsOutdone}
use Rattle.lanes.specs.TripLanes.{AllBeaten, IsNews}
use Rattle.lanes.proofs.LaneLemmas.{Stands, stands, is_label, label_below, beaten_at, beaten_then}

-- the lanes of a trip, the words of a front, and those of a bound, with tags
module _ (times words bound : List ℕ) (first : ℕ) (tag bound_tag : ℕ → ℕ) (are : AreLanes 8 times) (are_words : AreLanes 9 words)
    (are_bound : AreLanes 9 bound) where
  -- the label of eight trips, which has no lane, isn't news
  abbrev pub HasLanes : Type 0
  HasLanes = min (slice_index words 7) (min (slice_index times 7) (slice_index bound 8)) ≤ slice_index words 8

  abbrev offered : List (Label TimeTrips)
  offered = lane_labels (λ k. first + k) words

  -- the ninth word is no label, or comes after the last lane or the bound
  ninth : (l : Label TimeTrips) → Stands (λ k. first + k) words l → 8 ≤ l.value.trips → HasLanes
      → (l.value.trips ≡ 8) × ((slice_index times 7 ≤ l.value.time) ⊎ (slice_index bound 8 ≤ l.value.time))
  ninth l s eight has =
      let below = s.below in
      let long = are_words.long in
      let same : l.value.trips ≡ 8 = omega (arith, below, long, eight) in
      let at : slice_index words 8 ≡ l.value.time = subst (λ k. slice_index words k ≡ l.value.time) same s.at in
      let less = s.first 7 (omega (arith, eight)) in
      elim (cases_lt (slice_index words 8) (slice_index times 7)) [
        | inl lt ↦ (same, inr (omega (arith, at, less, lt, has)))
        | inr ge ↦ (same, inl (omega (arith, at, ge)))
      ]

  outdone_at : (v : TimeTrips) (k : ℕ) → k < 9 → k ≤ v.trips + 1 → slice_index bound k ≤ v.time → v.time < never → IsOutdone (lane_labels bound_tag bound) v
  outdone_at v k below few le lt =
      let long = are_bound.long in
      beaten_at bound_tag bound (trip_rules.ride v) k (omega (arith, below, long)) (omega (arith, below, few)) le lt

  -- where no word is less than its lane and its bound, nothing is news
  pub none_news : ((k : ℕ) → k < 8 → min (slice_index times k) (slice_index bound (k + 1)) ≤ slice_index words k) → HasLanes
      → AllBeaten (lane_labels bound_tag bound) (lane_labels tag times) offered
  none_news each has l is =
      let s = stands (λ k. first + k) words l is in
      let at = s.at in
      let long = are.long in
      let trips = l.value.trips in
      elim (cases_lt trips 8) [
        | inl lt ↦
            let e = each trips lt in
            elim (cases_lt (slice_index words trips) (slice_index times trips)) [
              | inl less ↦ inr (outdone_at l.value (trips + 1) (omega (arith, lt)) (omega arith) (omega (arith, e, less, at)) s.less)
              | inr more ↦ inl (beaten_at tag times l.value trips (omega (arith, lt, long)) (omega arith) (omega (arith, more, at)) s.less)
            ]
        | inr ge ↦
            let n = ninth l s ge has in
            elim n.1 [
              | inl le ↦ inl (beaten_at tag times l.value 7 (omega (arith, long)) (omega (arith, ge)) le s.less)
              | inr le ↦ inr (outdone_at l.value 8 (omega arith) (omega (arith, ge)) le s.less)
            ]
      ]

  -- a label of at most k trips that is less than lane k and than the bound is news
  news_at : (l : Label TimeTrips) (k : ℕ) → k < 8 → ((m : ℕ) → m ≤ l.value.trips → m < 8 → m ≤ k) → l.value.time < slice_index times k
      → (j : ℕ) → j < 9 → l.value.trips + 1 ≤ 65535 → ((m : ℕ) → m ≤ l.value.trips + 1 → m < 9 → m ≤ j) → l.value.time < slice_index bound j
      → IsNews (lane_labels bound_tag bound) (lane_labels tag times) l
  news_at l k below within less j j_below few j_within j_less = (
    λ beaten. let le = beaten_then 8 tag times l.value k are below within beaten in omega (arith, le, less),
    λ outdone.
        let le = beaten_then 9 bound_tag bound (trip_rules.ride l.value) j are_bound j_below (λ m h. j_within m (omega (arith, h, few))) outdone in
        omega (arith, le, j_less),
  )

  -- where a word is less than its lane and its bound, a label is news
  pub some_news : (k : ℕ) → k < 8 → slice_index words k < min (slice_index times k) (slice_index bound (k + 1))
      → (l : Label TimeTrips) × Contains offered l × IsNews (lane_labels bound_tag bound) (lane_labels tag times) l
  some_news k below less =
      let long = are_words.long in
      let most = are.most k below in
      let l = label_below (λ k. first + k) words k (slice_index words k) (omega (arith, below, long)) (omega arith) (omega (arith, less, most)) in (
        l.0,
        l.1,
        news_at l.0 k below (λ m h lt. omega (arith, h, l.2)) (omega (arith, l.3, less))
            (k + 1) (omega (arith, below)) (omega (arith, l.2, below)) (λ m h lt. omega (arith, h, l.2)) (omega (arith, l.3, less)),
      )

  -- where the ninth word is less than all of these, its label is news
  pub lacks_lane : slice_index words 8 < min (slice_index words 7) (min (slice_index times 7) (slice_index bound 8))
      → (l : Label TimeTrips) × Contains offered l × (l.value.trips ≡ 8) × IsNews (lane_labels bound_tag bound) (lane_labels tag times) l
  lacks_lane less =
      let long = are_words.long in
      let most = are.most 7 (omega arith) in
      let l : Label TimeTrips = record { value = record { time = slice_index words 8; trips = 8 }; tag = first + 8 } in
      let s : Stands (λ k. first + k) words l = record {
        below = omega (arith, long);
        at = refl;
        less = omega (arith, less, most);
        first = λ i h. let falls = are_words.falls i 7 (omega (arith, h)) (omega arith) in omega (arith, falls, less);
        tagged = refl;
      } in (
        l,
        is_label (λ k. first + k) words l s,
        refl,
        news_at l 7 (omega arith) (λ m h lt. omega (arith, lt)) (omega (arith, less))
            8 (omega arith) (omega arith) (λ m h lt. omega (arith, lt)) (omega (arith, less)),
      )

  -- the lesser ones of lanes and words are lanes
  pub least_are : (new : List ℕ) → length new ≡ 8 → ((k : ℕ) → k < 8 → slice_index new k ≡ min (slice_index times k) (slice_index words k)) → AreLanes 8 new
  least_are new long least = record {
    long = long;
    falls = λ i k le lt.
        let p = least i (omega (arith, le, lt)) in
        let q = least k lt in
        let x = are.falls i k le lt in
        let y = are_words.falls i k le (omega (arith, lt)) in
        omega (arith, p, q, x, y);
    most = λ k lt. let p = least k lt in let x = are.most k lt in omega (arith, p, x);
    times = λ k lt less.
        let p = least k lt in
        elim (cases_lt (slice_index times k) (slice_index words k)) [
          | inl lower ↦ let x = are.times k lt (omega (arith, p, lower, less)) in omega (arith, p, lower, x)
          | inr higher ↦ let x = are_words.times k (omega (arith, lt)) (omega (arith, p, higher, less)) in omega (arith, p, higher, x)
        ];
  }

  -- the lesser ones, each with its tag, stand for labels that were there or are offered, and beat all of them
  module _ (new : List ℕ) (new_tag : ℕ → ℕ) (long : length new ≡ 8)
      (least : (k : ℕ) → k < 8 → slice_index new k ≡ min (slice_index times k) (slice_index words k))
      (tags_new : (k : ℕ) → k < 8 → slice_index words k < slice_index times k → new_tag k ≡ first + k)
      (tags_old : (k : ℕ) → k < 8 → slice_index times k ≤ slice_index words k → new_tag k ≡ tag k) where
    pub taken_only : (l : Label TimeTrips) → Contains (lane_labels new_tag new) l → Contains (lane_labels tag times) l ⊎ Contains offered l
    taken_only l is =
        let s = stands new_tag new l is in
        let at = s.at in
        let below = s.below in
        let long_old = are.long in
        let long_words = are_words.long in
        let trips = l.value.trips in
        let within : trips < 8 = omega (arith, below, long) in
        let here = least trips within in
        elim (cases_lt (slice_index words trips) (slice_index times trips)) [
          | inl less ↦ inr (is_label (λ k. first + k) words l (record {
            below = omega (arith, within, long_words);
            at = omega (arith, here, at, less);
            less = s.less;
            first = λ i h. let e = least i (omega (arith, h, within)) in let f = s.first i h in omega (arith, e, f);
            tagged = s.tagged ∙ tags_new trips within less;
          }))
          | inr more ↦ inl (is_label tag times l (record {
            below = omega (arith, within, long_old);
            at = omega (arith, here, at, more);
            less = s.less;
            first = λ i h. let e = least i (omega (arith, h, within)) in let f = s.first i h in omega (arith, e, f);
            tagged = s.tagged ∙ tags_old trips within more;
          }))
        ]

    pub taken_kept : (l : Label TimeTrips) → Contains (lane_labels tag times) l → IsBeaten (lane_labels new_tag new) l.value
    taken_kept l is =
        let s = stands tag times l is in
        let at = s.at in
        let below = s.below in
        let long_old = are.long in
        let trips = l.value.trips in
        let e = least trips (omega (arith, below, long_old)) in
        beaten_at new_tag new l.value trips (omega (arith, below, long_old, long)) (omega arith) (omega (arith, e, at)) s.less

    pub taken_all : HasLanes → AllBeaten (lane_labels bound_tag bound) (lane_labels new_tag new) offered
    taken_all has l is =
        let s = stands (λ k. first + k) words l is in
        let at = s.at in
        let trips = l.value.trips in
        elim (cases_lt trips 8) [
          | inl lt ↦ let e = least trips lt in inl (beaten_at new_tag new l.value trips (omega (arith, lt, long)) (omega arith) (omega (arith, e, at)) s.less)
          | inr ge ↦
              let n = ninth l s ge has in
              let e = least 7 (omega arith) in
              elim n.1 [
                | inl le ↦ inl (beaten_at new_tag new l.value 7 (omega (arith, long)) (omega (arith, ge)) (omega (arith, e, le)) s.less)
                | inr le ↦ inr (outdone_at l.value 8 (omega arith) (omega (arith, ge)) le s.less)
              ]
        ]
