-- A front with or without its value of eight trips.
use Rattle.std.proofs.Common.{◌≡◌, ℕ, ◌<◌, ◌≤◌, List, length, slice_index, Contains, inl, inr, refl, sym, ◌∙◌, subst, arith}
use Rattle.std.proofs.lemmas.Bool.{cases_lt}
use Rattle.criteria.specs.declared.arrival_trips.TimeTrips.{TimeTrips}
use Rattle.fronts.specs.declared.labels.Label.{Label}
use Rattle.lanes.specs.Lanes.{AreLanes, lane_labels}
use Rattle.lanes.proofs.LaneLemmas.{Stands, stands, is_label}

module _ (words : List ℕ) (are : AreLanes 9 words) where
  -- without it
  module _ (new : List ℕ) (long : length new ≡ 9) (rest : (k : ℕ) → k < 8 → slice_index new k ≡ slice_index words k)
      (last : slice_index new 8 ≡ slice_index words 7) where
    at_end : (k : ℕ) → k < 9 → 8 ≤ k → slice_index new k ≡ slice_index words 7
    at_end k lt ge = let e : 8 ≡ k = omega (arith, lt, ge) in subst (λ n. slice_index new n ≡ slice_index words 7) e last

    pub but_eight_are : AreLanes 9 new
    but_eight_are = record {
      long = long;
      falls = λ i k le lt. elim (cases_lt k 8) [
        | inl few ↦
            let a = rest k few in
            let b = rest i (omega (arith, le, few)) in
            let f = are.falls i k le lt in
            omega (arith, a, b, f)
        | inr end ↦
            let a = at_end k lt end in
            elim (cases_lt i 8) [
              | inl few ↦ let b = rest i few in let f = are.falls i 7 (omega (arith, few)) (omega arith) in omega (arith, a, b, f)
              | inr both ↦ let b = at_end i (omega (arith, le, lt)) both in omega (arith, a, b)
            ]
      ];
      most = λ k lt. elim (cases_lt k 8) [
        | inl few ↦ let a = rest k few in let m = are.most k lt in omega (arith, a, m)
        | inr end ↦ let a = at_end k lt end in let m = are.most 7 (omega arith) in omega (arith, a, m)
      ];
      times = λ k lt less. elim (cases_lt k 8) [
        | inl few ↦ let a = rest k few in let t = are.times k lt (omega (arith, a, less)) in omega (arith, a, t)
        | inr end ↦ let a = at_end k lt end in let t = are.times 7 (omega arith) (omega (arith, a, less)) in omega (arith, a, t)
      ];
    }

    few_of : (tag : ℕ → ℕ) (l : Label TimeTrips) → Stands tag new l → l.value.trips < 8
    few_of tag l s = elim (cases_lt l.value.trips 8) [
      | inl few ↦ few
      | inr end ↦
          let below = s.below in
          let at = s.at in
          let here = at_end l.value.trips (omega (arith, below, long)) end in
          let before = s.first 7 (omega (arith, end)) in
          let same = rest 7 (omega arith) in
          absurd (omega (arith, at, here, before, same))
    ]

    pub but_eight_only : (tag : ℕ → ℕ) (l : Label TimeTrips) → Contains (lane_labels tag new) l → Contains (lane_labels tag words) l × (l.value.trips < 8)
    but_eight_only tag l is =
        let s = stands tag new l is in
        let few = few_of tag l s in
        let many = are.long in (
          is_label tag words l (record {
            below = omega (arith, few, many);
            at = sym (rest l.value.trips few) ∙ s.at;
            less = s.less;
            first = λ i lt. let a = rest i (omega (arith, lt, few)) in let f = s.first i lt in omega (arith, a, f);
            tagged = s.tagged;
          }),
          few,
        )

    pub but_eight_all : (tag : ℕ → ℕ) (l : Label TimeTrips) → Contains (lane_labels tag words) l → l.value.trips < 8 → Contains (lane_labels tag new) l
    but_eight_all tag l is few =
        let s = stands tag words l is in
        is_label tag new l (record {
          below = omega (arith, few, long);
          at = rest l.value.trips few ∙ s.at;
          less = s.less;
          first = λ i lt. let a = rest i (omega (arith, lt, few)) in let f = s.first i lt in omega (arith, a, f);
          tagged = s.tagged;
        })

  -- its value of eight trips
  pub has_eight : (time : ℕ) → time ≡ slice_index words 8 → time < slice_index words 7 → (tag : ℕ → ℕ)
      → Contains (lane_labels tag words) (record { value = record { time = time; trips = 8 }; tag = tag 8 })
  has_eight time is less tag =
      let many = are.long in
      let most = are.most 7 (omega arith) in
      is_label tag words (record { value = record { time = time; trips = 8 }; tag = tag 8 }) (record {
        below = omega (arith, many);
        at = sym is;
        less = omega (arith, less, most);
        first = λ i lt. let f = are.falls i 7 (omega (arith, lt)) (omega arith) in omega (arith, f, less);
        tagged = refl;
      })

  pub no_eight : slice_index words 7 ≤ slice_index words 8 → (tag : ℕ → ℕ) (l : Label TimeTrips) → Contains (lane_labels tag words) l → l.value.trips < 8
  no_eight le tag l is = elim (cases_lt l.value.trips 8) [
    | inl few ↦ few
    | inr end ↦
        let s = stands tag words l is in
        let below = s.below in
        let many = are.long in
        let e : l.value.trips ≡ 8 = omega (arith, below, many, end) in
        let at = subst (λ n. slice_index words n ≡ l.value.time) e s.at in
        let before = s.first 7 (omega (arith, end)) in
        absurd (omega (arith, at, before, le))
  ]
