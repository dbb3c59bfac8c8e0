-- Which labels lanes stand for, and which values these beat.
use Rattle.std.proofs.Common.{◌≡◌, ◌⊎◌, ℕ, zero, suc, ◌+◌, ◌<◌, ◌≤◌, Bool, true, false, cond, nat_le, nat_lt, List, [], ◌∷◌, length, slice_index}
use Rattle.std.proofs.Common.{Contains, inl, inr, refl, sym, ap, ◌∙◌, subst, arith}
use Rattle.std.proofs.lemmas.Bool.{cases_lt, ltb-true, ltb-false, lt-ltb, le-leb, leb-true, and_parts, and_from}
use Rattle.reasoning.proofs.ListLemmas.{not_in_nil, contains_first, contains_rest, contains_cases}
use Rattle.criteria.specs.Laws.{NoWorse}
use Rattle.criteria.specs.declared.arrival_trips.TimeTrips.{TimeTrips}
use Rattle.fronts.specs.declared.labels.Label.{Label}
use Rattle.lanes.specs.Lanes.{never, trip_rules, AreLanes, labels_from, lane_labels, IsBeaten}

-- a list that begins with x under a condition
in_cond : {X : Type 0} (b : Bool) (x : X) (xs ys : List X) (l : X) → Contains (cond b (x ∷ xs) ys) l
    → ((b ≡ true) × (x ≡ l)) ⊎ (((b ≡ true) × Contains xs l) ⊎ ((b ≡ false) × Contains ys l))
in_cond true x xs ys l h =
    elim (contains_cases l x xs h) [ inl here ↦ inl (refl, here) | inr later ↦ inr (inl (refl, later)) ]
in_cond false x xs ys l h = inr (inr (refl, h))

first_of_cond : {X : Type 0} (b : Bool) (x : X) (xs ys : List X) → b ≡ true → Contains (cond b (x ∷ xs) ys) x
first_of_cond b x xs ys e = subst (λ c. Contains (cond c (x ∷ xs) ys) x) (sym e) (contains_first x xs)

rest_of_cond : {X : Type 0} (b : Bool) (x : X) (xs ys : List X) (l : X) → Contains xs l → Contains ys l → Contains (cond b (x ∷ xs) ys) l
rest_of_cond true x xs ys l h k = contains_rest l x xs h
rest_of_cond false x xs ys l h k = k

same_label : (l m : Label TimeTrips) → l.value.time ≡ m.value.time → l.value.trips ≡ m.value.trips → l.tag ≡ m.tag → l ≡ m
same_label l m time trips tag = λ i. record { value = record { time = time i; trips = trips i }; tag = tag i }

-- a label of lanes that begin at a number of trips
record StandsFrom (tag : ℕ → ℕ) (k before : ℕ) (lanes : List ℕ) (l : Label TimeTrips) : Type 0 where
  pub place : ℕ
  pub below : place < length lanes
  pub trips : l.value.trips ≡ k + place
  pub at : slice_index lanes place ≡ l.value.time
  pub less : l.value.time < before
  pub first : (i : ℕ) → i < place → l.value.time < slice_index lanes i
  pub tagged : l.tag ≡ tag (k + place)

first_on : (t time : ℕ) (ts : List ℕ) (place : ℕ) → time < t → ((i : ℕ) → i < place → time < slice_index ts i)
    → (i : ℕ) → i < suc place → time < slice_index (t ∷ ts) i
first_on t time ts place here later zero h = here
first_on t time ts place here later (suc i) h = later i (omega arith)

stands_here : (tag : ℕ → ℕ) (k before t : ℕ) (ts : List ℕ) → t < before
    → StandsFrom tag k before (t ∷ ts) (record { value = record { time = t; trips = k }; tag = tag k })
stands_here tag k before t ts less = record {
  place = 0;
  below = omega arith;
  trips = omega arith;
  at = refl;
  less = less;
  first = λ i below. absurd (omega arith);
  tagged = ap tag (omega arith);
}

stands_on : (tag : ℕ → ℕ) (k before after t : ℕ) (ts : List ℕ) (l : Label TimeTrips) → StandsFrom tag (suc k) before ts l
    → l.value.time < t → l.value.time < after → StandsFrom tag k after (t ∷ ts) l
stands_on tag k before after t ts l s here less =
    let e : suc k + s.place ≡ k + suc s.place = omega arith in
    record {
      place = suc s.place;
      below = omega (arith, s.below);
      trips = s.trips ∙ e;
      at = s.at;
      less = less;
      first = first_on t l.value.time ts s.place here s.first;
      tagged = s.tagged ∙ ap tag e;
    }

stands_from : (tag : ℕ → ℕ) (k before : ℕ) (ts : List ℕ) (l : Label TimeTrips) → Contains (labels_from tag k before ts) l
    → StandsFrom tag k before ts l
stands_from tag k before [] l h = absurd (not_in_nil l h)
stands_from tag k before (t ∷ ts) l h =
    let here : Label TimeTrips = record { value = record { time = t; trips = k }; tag = tag k } in
    elim (in_cond (nat_lt t before) here (labels_from tag (suc k) t ts) (labels_from tag (suc k) before ts) l h) [
      | inl is ↦ subst (StandsFrom tag k before (t ∷ ts)) is.1 (stands_here tag k before t ts (ltb-true t before is.0))
      | inr later ↦ elim later [
        | inl less ↦
            let s = stands_from tag (suc k) t ts l less.1 in
            let lt = ltb-true t before less.0 in
            stands_on tag k t before t ts l s s.less (omega (arith, s.less, lt))
        | inr more ↦
            let s = stands_from tag (suc k) before ts l more.1 in
            let ge = ltb-false t before more.0 in
            stands_on tag k before before t ts l s (omega (arith, s.less, ge)) s.less
      ]
    ]

from_stands : (tag : ℕ → ℕ) (k before : ℕ) (ts : List ℕ) (l : Label TimeTrips) (place : ℕ) → place < length ts → l.value.trips ≡ k + place
    → slice_index ts place ≡ l.value.time → l.value.time < before → ((i : ℕ) → i < place → l.value.time < slice_index ts i)
    → l.tag ≡ tag (k + place) → Contains (labels_from tag k before ts) l
from_stands tag k before [] l place below trips at less first tagged = absurd (omega (arith, below))
from_stands tag k before (t ∷ ts) l zero below trips at less first tagged =
    let here : Label TimeTrips = record { value = record { time = t; trips = k }; tag = tag k } in
    let e : k + 0 ≡ k = omega arith in
    let same : here ≡ l = same_label here l at (sym (trips ∙ e)) (sym (tagged ∙ ap tag e)) in
    subst (Contains (labels_from tag k before (t ∷ ts))) same
    (first_of_cond (nat_lt t before) here (labels_from tag (suc k) t ts) (labels_from tag (suc k) before ts) (lt-ltb t before (omega (arith, at, less))))
from_stands tag k before (t ∷ ts) l (suc p) below trips at less first tagged =
    let here : Label TimeTrips = record { value = record { time = t; trips = k }; tag = tag k } in
    let e : k + suc p ≡ suc k + p = omega arith in
    let later : (b : ℕ) → l.value.time < b → Contains (labels_from tag (suc k) b ts) l = λ b lt.
    from_stands tag (suc k) b ts l p (omega arith) (trips ∙ e) at lt (λ i h. first (suc i) (omega arith)) (tagged ∙ ap tag e) in
    rest_of_cond (nat_lt t before) here (labels_from tag (suc k) t ts) (labels_from tag (suc k) before ts) l (later t (first 0 (omega arith)))
    (later before less)

-- a label that lanes stand for
pub record Stands (tag : ℕ → ℕ) (lanes : List ℕ) (l : Label TimeTrips) : Type 0 where
  pub below : l.value.trips < length lanes
  pub at : slice_index lanes l.value.trips ≡ l.value.time
  pub less : l.value.time < never
  pub first : (i : ℕ) → i < l.value.trips → l.value.time < slice_index lanes i
  pub tagged : l.tag ≡ tag l.value.trips

pub stands : (tag : ℕ → ℕ) (lanes : List ℕ) (l : Label TimeTrips) → Contains (lane_labels tag lanes) l → Stands tag lanes l
stands tag lanes l h =
    let s = stands_from tag 0 never lanes l h in
    let e : s.place ≡ l.value.trips = omega (arith, s.trips) in
    record {
      below = omega (arith, s.below, e);
      at = subst (λ n. slice_index lanes n ≡ l.value.time) e s.at;
      less = s.less;
      first = λ i below. s.first i (omega (arith, e));
      tagged = s.tagged ∙ ap tag (sym s.trips);
    }

pub is_label : (tag : ℕ → ℕ) (lanes : List ℕ) (l : Label TimeTrips) → Stands tag lanes l → Contains (lane_labels tag lanes) l
is_label tag lanes l s =
    let e : l.value.trips ≡ 0 + l.value.trips = omega arith in
    from_stands tag 0 never lanes l l.value.trips s.below e s.at s.less s.first (s.tagged ∙ ap tag e)

-- the first lane that is no greater than a time
first_lane : (lanes : List ℕ) (k t : ℕ) → k < length lanes → slice_index lanes k ≤ t
    → (m : ℕ) × (m ≤ k) × (slice_index lanes m ≤ t) × ((i : ℕ) → i < m → t < slice_index lanes i)
first_lane [] k t below h = absurd (omega (arith, below))
first_lane (x ∷ xs) zero t below h = (0, omega arith, h, λ i below. absurd (omega arith))
first_lane (x ∷ xs) (suc k) t below h =
    elim (cases_lt t x) [
      | inl lt ↦
          let m = first_lane xs k t (omega arith) h in
          (suc m.0, omega (arith, m.1), m.2, first_on x t xs m.0 lt m.3)
      | inr le ↦ (0, omega arith, le, λ i below. absurd (omega arith))
    ]

-- a lane that has a time stands for a label that is no worse
pub label_below : (tag : ℕ → ℕ) (lanes : List ℕ) (k t : ℕ) → k < length lanes → slice_index lanes k ≤ t → t < never
    → (l : Label TimeTrips) × Contains (lane_labels tag lanes) l × (l.value.trips ≤ k) × (l.value.time ≤ t)
label_below tag lanes k t below le lt =
    let m = first_lane lanes k t below le in
    let l : Label TimeTrips = record { value = record { time = slice_index lanes m.0; trips = m.0 }; tag = tag m.0 } in
    let s : Stands tag lanes l = record {
      below = omega (arith, below, m.1);
      at = refl;
      less = omega (arith, m.2);
      first = λ i h. let more = m.3 i h in omega (arith, m.2, more);
      tagged = refl;
    } in
    (l, is_label tag lanes l s, m.1, m.2)

pub no_worse_parts : (v w : TimeTrips) → NoWorse trip_rules v w → (v.time ≤ w.time) × (v.trips ≤ w.trips)
no_worse_parts v w h =
    let p = and_parts (nat_le v.time w.time) (nat_le v.trips w.trips) h in
    (leb-true v.time w.time p.0, leb-true v.trips w.trips p.1)

pub no_worse_from : (v w : TimeTrips) → v.time ≤ w.time → v.trips ≤ w.trips → NoWorse trip_rules v w
no_worse_from v w time trips =
    and_from (nat_le v.time w.time) (nat_le v.trips w.trips) (le-leb v.time w.time time) (le-leb v.trips w.trips trips)

-- lanes beat a value if one of its trips or fewer is no greater than its time
pub beaten_at : (tag : ℕ → ℕ) (lanes : List ℕ) (v : TimeTrips) (k : ℕ) → k < length lanes → k ≤ v.trips → slice_index lanes k ≤ v.time
    → v.time < never → IsBeaten (lane_labels tag lanes) v
beaten_at tag lanes v k below few le lt =
    let b = label_below tag lanes k v.time below le lt in
    (b.0, b.1, no_worse_from b.0.value v b.3 (omega (arith, b.2)))

-- and the other way round, for a lane k of those that a label of at most the value's trips may be in
pub beaten_then : (n : ℕ) (tag : ℕ → ℕ) (lanes : List ℕ) (v : TimeTrips) (k : ℕ) → AreLanes n lanes → k < n
    → ((m : ℕ) → m ≤ v.trips → m < n → m ≤ k) → IsBeaten (lane_labels tag lanes) v → slice_index lanes k ≤ v.time
beaten_then n tag lanes v k are below within (l, is, no_worse) =
    let parts = no_worse_parts l.value v no_worse in
    let s = stands tag lanes l is in
    let at = s.at in
    let there = s.below in
    let long = are.long in
    let falls = are.falls l.value.trips k (within l.value.trips parts.1 (omega (arith, there, long))) below in
    omega (arith, parts, at, falls)
