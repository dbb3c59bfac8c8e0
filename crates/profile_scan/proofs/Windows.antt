-- The window, read backward.
use Rattle.std.proofs.Common.{◌≡◌, ℕ, zero, suc, ◌+◌, ◌-◌, ◌<◌, ◌≤◌, min, Bool, true, false, nat_le, nat_lt, List, []}
use Rattle.std.proofs.Common.{◌∷◌, ◌++◌, length, filter, reverse, All, AllPairs, get_or, cond, arith, sym, ◌∙◌, ap}
use Rattle.std.proofs.Common.{subst, add-zero, inl, inr}
use Rattle.std.specs.List.{range_with_len}
use Rattle.std.proofs.lemmas.Bool.{and_from, and_parts, le-leb, lt-ltb, leb-true, ltb-true, cases_Bool, cases_lt}
use Rattle.std.proofs.lemmas.List.{reverse-append, get_or-reverse, length-reverse}
use Rattle.std.proofs.lemmas.List.Elements.{filter-append, All-filter}
use Rattle.std.proofs.lemmas.List.Kept.{AllPairs-filter}
use Rattle.std.proofs.lemmas.List.FromFn.{length-range_with_len, get_or-range_with_len}
use Rattle.timetable.specs.TimetableValue.{TimetableValue}
use Rattle.timetable.specs.Legal.{IsLegal}
use Rattle.timetable.specs.Journeys.{connection_at}
use Rattle.timetable.proofs.LegalLemmas.{departures_rise}
use Rattle.profile_scan.specs.Window.{departs_inside, window_of, falling}
use Rattle.sources.specs.FirstAt.{IsFirstAt}
use Rattle.profile_scan.specs.LawStatements.{WindowIsReadBackward}

range_more : (a n : ℕ) → range_with_len a (suc n) ≡ range_with_len a n ++ (a + n) ∷ []
range_more a zero = ap (λ (k : ℕ). k ∷ []) (sym (add-zero a))
range_more a (suc n) =
    let e : a + 1 + n ≡ a + suc n = omega arith in
    ap (λ (ks : List ℕ). a ∷ ks) (range_more (a + 1) n ∙ ap (λ (k : ℕ). range_with_len (a + 1) n ++ k ∷ []) e)

-- the places below n that pass, the last first
abbrev passing : (ℕ → Bool) → ℕ → List ℕ
passing p n = reverse (filter p (range_with_len 0 n))

passing_more : (p : ℕ → Bool) (n : ℕ) → passing p (suc n) ≡ reverse (filter p (n ∷ [])) ++ passing p n
passing_more p n =
    let here : 0 + n ≡ n = omega arith in
    ap (λ (ks : List ℕ). reverse (filter p ks)) (range_more 0 n ∙ ap (λ (k : ℕ). range_with_len 0 n ++ k ∷ []) here)
    ∙ ap reverse (filter-append p (range_with_len 0 n) (n ∷ []))
    ∙ reverse-append (filter p (range_with_len 0 n)) (filter p (n ∷ []))

-- how many of the places from low up to high lie below n, where n itself isn't one
falling_stays : (p : ℕ → Bool) (low high n : ℕ) → ((k : ℕ) → low ≤ k → k < high → p k ≡ true) → p n ≡ false → min n high - low ≡ min (suc n) high - low
falling_stays p low high n passes not_n = elim (cases_lt n low) [
  | inl lt ↦ omega arith
  | inr ge ↦ elim (cases_lt n high) [
    | inl inside ↦ (let e = passes n ge inside in cc)
    | inr past ↦ omega arith
  ]
]

-- where of those below m just the ones from low up to high pass, they are these
passing_falls : (p : ℕ → Bool) (low high m : ℕ) → ((k : ℕ) → low ≤ k → k < high → p k ≡ true)
    → ((k : ℕ) → k < m → p k ≡ true → (low ≤ k) × (k < high)) → (n : ℕ) → n ≤ m
    → passing p n ≡ falling low (min n high - low)
passing_falls p low high m passes only zero le = let none : zero ≡ min zero high - low = omega arith in ap (falling low) none
passing_falls p low high m passes only (suc n) le = passing_more p n ∙ elim (cases_Bool (p n)) [
  | inl yes_n ↦
      let inside = only n le yes_n in
      let one_more : min (suc n) high - low ≡ suc (min n high - low) = omega (arith, inside.0, inside.1) in
      let place : n ≡ low + (min n high - low) = omega (arith, inside.0, inside.1) in
      ap (λ (b : Bool). reverse (cond b (n ∷ []) []) ++ passing p n) yes_n
      ∙ ap (λ (ks : List ℕ). n ∷ ks) (passing_falls p low high m passes only n (omega arith))
      ∙ ap (λ (k : ℕ). k ∷ falling low (min n high - low)) place
      ∙ sym (ap (falling low) one_more)
  | inr not_n ↦
      ap (λ (b : Bool). reverse (cond b (n ∷ []) []) ++ passing p n) not_n
      ∙ passing_falls p low high m passes only n (omega arith)
      ∙ ap (falling low) (falling_stays p low high n passes not_n)
]

module _ (t : TimetableValue) (from by : ℕ) where
  -- a place of the list of connections is inside the window where it stands between the first ones at the two times
  pub window_falls : (start end : ℕ) → IsFirstAt t from start → IsFirstAt t by end → reverse (window_of t from by) ≡ falling start (end - start)
  window_falls start end is_start is_end =
      let n = length t.connections in
      let in_end = is_end.in_range in
      let all : min n end - start ≡ end - start = omega arith in
      passing_falls (departs_inside t from by) start end n passes only n (omega arith) ∙ ap (falling start) all
    where
      passes : (k : ℕ) → start ≤ k → k < end → departs_inside t from by k ≡ true
      passes k late early =
          let dep = (connection_at t k).dep in
          let in_end = is_end.in_range in
          and_from (nat_le from dep) (nat_lt dep by) (le-leb from dep (is_start.after k late (omega arith))) (lt-ltb dep by (is_end.before k early))

      only : (k : ℕ) → k < length t.connections → departs_inside t from by k ≡ true → (start ≤ k) × (k < end)
      only k in_k inside =
          let dep = (connection_at t k).dep in
          let both = and_parts (nat_le from dep) (nat_lt dep by) inside in
          let not_early = leb-true from dep both.0 in
          let not_late = ltb-true dep by both.1 in (
            elim (cases_lt k start) [ inl lt ↦ absurd (omega (arith, is_start.before k lt)) | inr ge ↦ ge ],
            elim (cases_lt k end) [ inl lt ↦ lt | inr ge ↦ absurd (omega (arith, is_end.after k ge in_k)) ],
          )

  places_in_range : All (λ (i : ℕ). i < length t.connections) (range_with_len 0 (length t.connections))
  places_in_range k d in_k =
      let n = length t.connections in
      let below : k < n = omega (arith, length-range_with_len 0 n) in
      subst (λ (i : ℕ). i < n) (sym (get_or-range_with_len 0 n k d below)) (omega arith)

  places_rise : IsLegal t → AllPairs (λ (i j : ℕ). (connection_at t i).dep ≤ (connection_at t j).dep) (range_with_len 0 (length t.connections))
  places_rise legal i j d lt in_j =
      let n = length t.connections in
      let below : j < n = omega (arith, length-range_with_len 0 n) in
      let at_i = get_or-range_with_len 0 n i d (omega arith) in
      let at_j = get_or-range_with_len 0 n j d below in
      subst (λ (k : ℕ). (connection_at t k).dep ≤ (connection_at t (get_or (range_with_len 0 n) j d)).dep) (sym at_i)
      (subst (λ (k : ℕ). (connection_at t (0 + i)).dep ≤ (connection_at t k).dep) (sym at_j)
      (departures_rise t legal (0 + j) (0 + i) (omega arith) (omega arith)))

-- what holds of all elements, or of each and each later one, read backward
All-backward : {X : Type 0} (P : X → Type 0) (xs : List X) → All P xs → All P (reverse xs)
All-backward P xs all k d in_k =
    let long = length-reverse xs in
    subst P (sym (get_or-reverse xs k d (omega arith))) (all (length xs - 1 - k) d (omega arith))

AllPairs-backward : {X : Type 0} (R : X → X → Type 0) (xs : List X) → AllPairs R xs → AllPairs (λ (x y : X). R y x) (reverse xs)
AllPairs-backward R xs all i j d lt in_j =
    let long = length-reverse xs in
    subst (λ x. R (get_or (reverse xs) j d) x) (sym (get_or-reverse xs i d (omega arith)))
    (subst (λ x. R x (get_or xs (length xs - 1 - i) d)) (sym (get_or-reverse xs j d (omega arith)))
    (all (length xs - 1 - j) (length xs - 1 - i) d (omega arith) (omega arith)))

pub window_is_read_backward : WindowIsReadBackward
window_is_read_backward t legal q = record {
  falls = window_falls t q.from q.by;
  in_range = All-backward (λ (i : ℕ). i < length t.connections) (window_of t q.from q.by)
      (All-filter (departs_inside t q.from q.by) (λ (i : ℕ). i < length t.connections) (range_with_len 0 (length t.connections))
      (places_in_range t q.from q.by));
  never_rises = AllPairs-backward (λ (i j : ℕ). (connection_at t i).dep ≤ (connection_at t j).dep) (window_of t q.from q.by)
      (AllPairs-filter (λ (i j : ℕ). (connection_at t i).dep ≤ (connection_at t j).dep) (departs_inside t q.from q.by)
      (range_with_len 0 (length t.connections)) (places_rise t q.from q.by legal));
}
