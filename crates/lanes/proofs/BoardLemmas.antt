-- What a boarding does: the words of its entry's front, what is outdone, and a list that takes it in.
use Rattle.std.proofs.Common.{◌≡◌, ◌⊎◌, ℕ, zero, suc, ◌+◌, ◌<◌, ◌≤◌, List, min, length, slice_index, Contains}
use Rattle.std.proofs.Common.{inl, inr, subst, arith}
use Rattle.std.proofs.lemmas.Bool.{cases_lt}
use Rattle.criteria.specs.Laws.{time_limit}
use Rattle.criteria.specs.declared.arrival_trips.TimeTrips.{TimeTrips}
use Rattle.fronts.specs.declared.labels.Label.{Label}
use Rattle.lanes.specs.Lanes.{never, trip_rules, AreLanes, lane_labels, IsOutdone}
use Rattle.lanes.proofs.LaneLemmas.{stands, beaten_at}

-- the lanes of a trip, with tags, and the words of a front
module _ (times behind : List ℕ) (tag : ℕ → ℕ) (are : AreLanes 8 times) (are_behind : AreLanes 9 behind) where
  -- where no lane is less than the words of one trip more, the front has for each label a word that is no greater, or the bound outdoes it
  pub none_boards : (bound : List ℕ) → AreLanes 9 bound
      → ((k : ℕ) → k < 8 → min (slice_index behind (k + 1)) (slice_index bound (k + 1)) ≤ slice_index times k)
      → (l : Label TimeTrips) → Contains (lane_labels tag times) l
      → ((l.value.trips < 8) × (slice_index behind (l.value.trips + 1) ≤ l.value.time) × (l.value.time < never))
      ⊎ IsOutdone (lane_labels (λ _. 0) bound) l.value
  none_boards bound are_bound each l is =
      let s = stands tag times l is in
      let at = s.at in
      let below = s.below in
      let long = are.long in
      let bound_long = are_bound.long in
      let k = l.value.trips in
      let lt : k < 8 = omega (arith, below, long) in
      let e = each k lt in
      elim (cases_lt (slice_index times k) (slice_index behind (k + 1))) [
        | inl less ↦ inr (beaten_at (λ _. 0) bound (trip_rules.ride l.value) (k + 1) (omega (arith, lt, bound_long)) (omega (arith, lt))
            (omega (arith, e, less, at)) s.less)
        | inr more ↦ inl (lt, omega (arith, more, at), s.less)
      ]

  -- the words lowered by the lanes, with one trip more
  module _ (new : List ℕ) (long : length new ≡ 9) (first : slice_index new 0 ≡ slice_index behind 0)
      (least : (k : ℕ) → k < 8 → slice_index new (k + 1) ≡ min (slice_index times k) (slice_index behind (k + 1))) where
    later : (k : ℕ) → suc k < 9 → slice_index new (suc k) ≡ min (slice_index times k) (slice_index behind (suc k))
    later k lt =
        let e : k + 1 ≡ suc k = omega arith in
        subst (λ n. slice_index new n ≡ min (slice_index times k) (slice_index behind n)) e (least k (omega (arith, lt)))

    lower : (k : ℕ) → k < 9 → slice_index new k ≤ slice_index behind k
    lower zero lt = omega (arith, first)
    lower (suc k) lt = let e = later k lt in omega (arith, e)

    new_falls : (i k : ℕ) → i ≤ k → k < 9 → slice_index new k ≤ slice_index new i
    new_falls zero k le lt = let down = lower k lt in let falls = are_behind.falls 0 k (omega arith) lt in omega (arith, first, down, falls)
    new_falls (suc i) zero le lt = absurd (omega (arith, le))
    new_falls (suc i) (suc k) le lt =
        let p = later i (omega (arith, le, lt)) in
        let q = later k lt in
        let x = are.falls i k (omega (arith, le)) (omega (arith, lt)) in
        let y = are_behind.falls (suc i) (suc k) le lt in
        omega (arith, p, q, x, y)

    new_times : (k : ℕ) → k < 9 → slice_index new k < never → slice_index new k < time_limit
    new_times zero lt less = let t = are_behind.times 0 lt (omega (arith, first, less)) in omega (arith, first, t)
    new_times (suc k) lt less =
        let e = later k lt in
        elim (cases_lt (slice_index times k) (slice_index behind (suc k))) [
          | inl lo ↦ let t = are.times k (omega (arith, lt)) (omega (arith, e, lo, less)) in omega (arith, e, lo, t)
          | inr hi ↦ let t = are_behind.times (suc k) lt (omega (arith, e, hi, less)) in omega (arith, e, hi, t)
        ]

    pub boarded_are : AreLanes 9 new
    boarded_are = record {
      long = long;
      falls = new_falls;
      most = λ k lt. let down = lower k lt in let m = are_behind.most k lt in omega (arith, down, m);
      times = new_times;
    }

-- the lesser ones of the words of two fronts
pub least_are : (words behind new : List ℕ) → AreLanes 9 words → AreLanes 9 behind → length new ≡ 9
    → ((k : ℕ) → k < 9 → slice_index new k ≡ min (slice_index words k) (slice_index behind k)) → AreLanes 9 new
least_are words behind new are are_behind long least = record {
  long = long;
  falls = λ i k le lt.
      let p = least i (omega (arith, le, lt)) in
      let q = least k lt in
      let x = are.falls i k le lt in
      let y = are_behind.falls i k le lt in
      omega (arith, p, q, x, y);
  most = λ k lt. let p = least k lt in let x = are.most k lt in omega (arith, p, x);
  times = λ k lt less.
      let p = least k lt in
      elim (cases_lt (slice_index words k) (slice_index behind k)) [
        | inl lower ↦ let x = are.times k lt (omega (arith, p, lower, less)) in omega (arith, p, lower, x)
        | inr higher ↦ let x = are_behind.times k lt (omega (arith, p, higher, less)) in omega (arith, p, higher, x)
      ];
}

-- lanes none of which is less than the bound's word of one trip more
pub all_outdone : (times : List ℕ) (tag : ℕ → ℕ) → AreLanes 8 times → (bound : List ℕ) → AreLanes 9 bound
    → ((k : ℕ) → k < 8 → slice_index bound (k + 1) ≤ slice_index times k)
    → (l : Label TimeTrips) → Contains (lane_labels tag times) l → IsOutdone (lane_labels (λ _. 0) bound) l.value
all_outdone times tag are bound are_bound each l is =
    let s = stands tag times l is in
    let at = s.at in
    let below = s.below in
    let long = are.long in
    let bound_long = are_bound.long in
    let k = l.value.trips in
    let lt : k < 8 = omega (arith, below, long) in
    let e = each k lt in
    beaten_at (λ _. 0) bound (trip_rules.ride l.value) (k + 1) (omega (arith, lt, bound_long)) (omega (arith, lt)) (omega (arith, e, at)) s.less
