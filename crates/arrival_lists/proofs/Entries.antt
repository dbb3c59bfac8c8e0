-- The points along a list of entries, and what stays as entries are added.
use Rattle.std.proofs.Common.{◌≡◌, ◌⊎◌, ℕ, zero, suc, ◌+◌, ◌<◌, ◌≤◌, List, [], ◌∷◌, ◌++◌, length, length-append, Contains, inl, inr}
use Rattle.std.proofs.Common.{slice_get, Option, Some, None, refl, sym, ◌∙◌, ap, ap₂, subst, arith}
use Rattle.std.proofs.lemmas.Bool.{cases_lt}
use Rattle.std.proofs.lemmas.Option.{slice_get_cases, slice_get_within, same_Some}
use Rattle.reasoning.specs.Lists.{Extends}
use Rattle.reasoning.proofs.ListLemmas.{not_in_nil, contains_first, contains_cases, slice_get-front, slice_get-last, at_below, extends_one}
use Rattle.criteria.specs.Laws.{IsTime}
use Rattle.bags.specs.declared.point.Point.{Point}
use Rattle.arrival_lists.specs.Lists.{AreEntries, Precedes, next_in, next_of, never, point_of, points_at, points_in, points_from}
use Rattle.arrival_lists.specs.declared.entry.Entry.{Entry}
use Rattle.fronts.proofs.Chains as chain

module _ (entries : List Entry) (are : AreEntries entries) where
  -- the next entry of one is older
  next_back : (m : ℕ) → next_in (slice_get entries (suc m)) ≤ m
  next_back m = back (slice_get entries (suc m)) refl
    where
      back : (o : Option Entry) → slice_get entries (suc m) ≡ o → next_in o ≤ m
      back None is = omega arith
      back (Some e) is = are.back m e is

  pub none_at_end : points_from entries 0 ≡ []
  none_at_end = chain.none_at_end (next_of entries) (points_at entries)

  unrolled : (m : ℕ) → points_from entries (suc m) ≡ points_in (slice_get entries (suc m)) ++ points_from entries (next_in (slice_get entries (suc m)))
  unrolled m = chain.unrolled (next_of entries) (points_at entries) next_back m

  -- a list's points are its first and those of the rest
  pub first_and_rest : (m : ℕ) (e : Entry) → slice_get entries (suc m) ≡ Some e
      → points_from entries (suc m) ≡ point_of e ∷ points_from entries e.next
  first_and_rest m e at = unrolled m ∙ ap (λ o. points_in o ++ points_from entries (next_in o)) at

  first_and_rest_at : (m : ℕ) (e : Entry) → 0 < m → slice_get entries m ≡ Some e → points_from entries m ≡ point_of e ∷ points_from entries e.next
  first_and_rest_at zero e some at = absurd (omega (arith, some))
  first_and_rest_at (suc m) e some at = first_and_rest m e at

  -- no point of a list departs or arrives before its first, and each arrives at some time
  low_to : (n m : ℕ) → m ≤ n → (e : Entry) → slice_get entries m ≡ Some e → (p : Point ℕ) → Contains (points_from entries m) p
      → (e.departure ≤ p.departure) × (e.time ≤ p.value) × IsTime p.value
  low_to n zero le e at p h = absurd (not_in_nil p (subst (λ ps. Contains ps p) none_at_end h))
  low_to zero (suc m) le e at p h = absurd (omega (arith, le))
  low_to (suc n) (suc m) le e at p h =
      elim (contains_cases p (point_of e) (points_from entries e.next) (subst (λ ps. Contains ps p) (first_and_rest m e at) h)) [
        | inl is ↦ subst (λ (q : Point ℕ). (e.departure ≤ q.departure) × (e.time ≤ q.value) × IsTime q.value) is
            (omega arith, omega arith, are.times m e at)
        | inr later ↦
            let back = are.back m e at in
            let in_range = slice_get_within entries (suc m) e at in
            let next = at_below entries e.next (omega (arith, back, in_range)) in
            let low = low_to n e.next (omega (arith, back, le)) next.0 next.1 p later in
            let rises = are.rises m e next.0 at next.1 in
            let d1 = rises.0 in let d2 = low.0 in let t1 = rises.1 in let t2 = low.1 in
            (omega (arith, d1, d2), omega (arith, t1, t2), low.2)
      ]

  pub low : (m : ℕ) (e : Entry) → slice_get entries m ≡ Some e → (p : Point ℕ) → Contains (points_from entries m) p
      → (e.departure ≤ p.departure) × (e.time ≤ p.value) × IsTime p.value
  low m e at p h = low_to m m (omega arith) e at p h

  -- each point of a list arrives at some time
  pub times_of : (m : ℕ) (p : Point ℕ) → Contains (points_from entries m) p → IsTime p.value
  times_of zero p h = absurd (not_in_nil p (subst (λ ps. Contains ps p) none_at_end h))
  times_of (suc m) p h = elim (slice_get_cases entries (suc m)).1 [
    | inl there ↦ (low (suc m) there.0 there.2 p h).2
    | inr past ↦
        let none = unrolled m ∙ ap (λ o. points_in o ++ points_from entries (next_in o)) past.1 ∙ none_at_end in
        absurd (not_in_nil p (subst (λ ps. Contains ps p) none h))
  ]

  -- the first point of a list that isn't empty
  pub first_in : (m : ℕ) (e : Entry) → slice_get entries m ≡ Some e → e.time < never → Contains (points_from entries m) (point_of e)
  first_in zero e at lt = let late = (are.end e at).1 in absurd (omega (arith, lt, late))
  first_in (suc m) e at lt = subst (λ ps. Contains ps (point_of e)) (sym (first_and_rest m e at)) (contains_first (point_of e) (points_from entries e.next))

  -- one that departs before some time isn't the end
  pub not_end : (m : ℕ) (e : Entry) (time : ℕ) → slice_get entries m ≡ Some e → e.departure < time → time ≤ never → (k : ℕ) × (m ≡ suc k)
  not_end zero e time at early le = let late = (are.end e at).0 in absurd (omega (arith, early, le, late))
  not_end (suc k) e time at early le = (k, refl)

module _ (old new : List Entry) (are : AreEntries old) (more : Extends old new) where
  same_entry : (m : ℕ) → m < length old → slice_get new m ≡ slice_get old m
  same_entry m lt = ap (λ xs. slice_get xs m) more.1 ∙ slice_get-front old more.0 m lt

  -- lists stay as they were
  pub same_points : (m : ℕ) → m < length old → points_from new m ≡ points_from old m
  same_points m lt =
      chain.same_along (next_of old) (points_at old) (next_back old are) (next_of new) (points_at new) (length old)
      (λ k within. ap next_in (same_entry k within)) (λ k within. ap points_in (same_entry k within)) m lt

-- what is at an index of a list to which an element was added
pub pushed_at : {X : Type 0} (xs : List X) (x y : X) (i : ℕ) → slice_get (xs ++ x ∷ []) i ≡ Some y
    → ((i < length xs) × (slice_get xs i ≡ Some y)) ⊎ ((i ≡ length xs) × (y ≡ x))
pushed_at xs x y i at = elim (cases_lt i (length xs)) [
  | inl lt ↦ inl (lt, sym (slice_get-front xs (x ∷ []) i lt) ∙ at)
  | inr ge ↦
      let within = slice_get_within (xs ++ x ∷ []) i y at in
      let long = length-append xs (x ∷ []) in
      let last : i ≡ length xs = omega (arith, within, long, ge) in
      inr (last, same_Some y x (sym at ∙ ap (slice_get (xs ++ x ∷ [])) last ∙ slice_get-last xs x))
]

-- an entry is put before a list
module _ (old new : List Entry) (are : AreEntries old) (e : Entry) (added : new ≡ old ++ e ∷ []) (within : e.next < length old)
    (precedes : (f : Entry) → slice_get old e.next ≡ Some f → Precedes e f) (time : IsTime e.time) where
  long : length new ≡ length old + 1
  long = ap length added ∙ length-append old (e ∷ [])

  at_last : slice_get new (length old) ≡ Some e
  at_last = ap (λ xs. slice_get xs (length old)) added ∙ slice_get-last old e

  was : (m : ℕ) → m < length old → slice_get new m ≡ slice_get old m
  was m lt = ap (λ xs. slice_get xs m) added ∙ slice_get-front old (e ∷ []) m lt

  -- each entry was there, or is the new one
  was_or_new : (m : ℕ) (x : Entry) → slice_get new m ≡ Some x → ((m < length old) × (slice_get old m ≡ Some x)) ⊎ ((m ≡ length old) × (x ≡ e))
  was_or_new m x at = pushed_at old e x m (sym (ap (λ xs. slice_get xs m) added) ∙ at)

  pub put_entries : AreEntries new
  put_entries = record {
    some = let some = are.some in let long_is = long in omega (arith, some, long_is);
    end = λ x at. are.end x (sym (was 0 are.some) ∙ at);
    back = λ m x at. elim (was_or_new (suc m) x at) [
      | inl there ↦ are.back m x there.1
      | inr last ↦
          let is = ap (λ (y : Entry). y.next) last.1 in
          let here = last.0 in
          omega (arith, is, here, within)
    ];
    rises = λ m x f at next. elim (was_or_new (suc m) x at) [
      | inl there ↦
          let back = are.back m x there.1 in
          let lt = there.0 in
          are.rises m x f there.1 (sym (was x.next (omega (arith, back, lt))) ∙ next)
      | inr last ↦
          subst (λ (y : Entry). Precedes y f) (sym last.1)
          (precedes f (sym (was e.next within) ∙ subst (λ (y : Entry). slice_get new y.next ≡ Some f) last.1 next))
    ];
    times = λ m x at. elim (was_or_new (suc m) x at) [
      | inl there ↦ are.times m x there.1
      | inr last ↦ subst (λ (y : Entry). IsTime y.time) (sym last.1) time
    ];
  }

  pub put_points : points_from new (length old) ≡ point_of e ∷ points_from old e.next
  put_points =
      first_and_rest_at new put_entries (length old) e are.some at_last
      ∙ ap (λ ps. point_of e ∷ ps) (same_points old new are (extends_one old new e added) e.next within)
