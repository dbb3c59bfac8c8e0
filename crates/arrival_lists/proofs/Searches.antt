-- Searches along a list: for its first late entry, and for those that come before a point.
use Rattle.std.proofs.Common.{◌≡◌, ◌⊎◌, ℕ, suc, ◌<◌, ◌≤◌, List, [], ◌∷◌, ◌++◌, length, map, Contains, inl, inr}
use Rattle.std.proofs.Common.{slice_get, Some, sym, ◌∙◌, ap, subst, arith}
use Rattle.std.proofs.lemmas.List.{map-append}
use Rattle.std.proofs.lemmas.List.Elements.{Contains-append_left, Contains-append_cases, Contains-push}
use Rattle.std.proofs.lemmas.Option.{slice_get_within, same_Some}
use Rattle.reasoning.proofs.ListLemmas.{not_in_nil, contains_first, contains_rest, contains_cases, contains_only, contains_at}
use Rattle.reasoning.proofs.ListLemmas.{slice_get-append, slice_get-front, slice_get-middle, at_contains}
use Rattle.bags.specs.declared.point.Point.{Point}
use Rattle.arrival_lists.specs.Lists.{AreAllPassed, AreEntries, AreSorted, IsBestFrom, IsFirstFrom, IsFirstOf, IsLate, Precedes}
use Rattle.arrival_lists.specs.Lists.{as_point, entries_of, list_points, never, point_of, points_from}
use Rattle.arrival_lists.specs.declared.arrival_lists.ArrivalLists.{ArrivalLists}
use Rattle.reasoning.specs.Lists.{Extends}
use Rattle.arrival_lists.specs.declared.entry.Entry.{Entry}
use Rattle.arrival_lists.specs.declared.entry.FirstPoint.{FirstPoint}
use Rattle.arrival_lists.proofs.Entries.{first_and_rest, first_in, low, not_end, pushed_at}

-- on the way to the first late entry
pub record LeadsTo (entries : List Entry) (head time m : ℕ) (e : Entry) : Type 0 where
  pub at : slice_get entries m ≡ Some e
  pub only : (p : Point ℕ) → Contains (points_from entries m) p → Contains (points_from entries head) p
  pub all : (p : Point ℕ) → Contains (points_from entries head) p → time ≤ p.departure → Contains (points_from entries m) p

module _ (entries : List Entry) (are : AreEntries entries) (head time : ℕ) (in_range : time ≤ never) where
  -- the next entry is older
  pub goes_back : (m : ℕ) (e : Entry) → slice_get entries m ≡ Some e → e.departure < time → e.next < m
  goes_back m e at early =
      let k = not_end entries are m e time at early in_range in
      let back = are.back k.0 e (sym (ap (slice_get entries) k.1) ∙ at) in
      let is = k.1 in
      omega (arith, back, is)

  -- and its list is the rest
  rest_of : (m : ℕ) (e : Entry) → slice_get entries m ≡ Some e → e.departure < time → points_from entries m ≡ point_of e ∷ points_from entries e.next
  rest_of m e at early =
      let k = not_end entries are m e time at early in_range in
      ap (points_from entries) k.1 ∙ first_and_rest entries are k.0 e (sym (ap (slice_get entries) k.1) ∙ at)

  pub leads_here : (e : Entry) → slice_get entries head ≡ Some e → LeadsTo entries head time head e
  leads_here e at = record { at = at; only = λ p h. h; all = λ p h late. h }

  pub leads_on : (m : ℕ) (e f : Entry) → LeadsTo entries head time m e → e.departure < time → slice_get entries e.next ≡ Some f
      → LeadsTo entries head time e.next f
  leads_on m e f leads early next =
      let rest = rest_of m e leads.at early in
      record {
        at = next;
        only = λ p h. leads.only p (subst (λ ps. Contains ps p) (sym rest) (contains_rest p (point_of e) (points_from entries e.next) h));
        all = λ p h late. elim (contains_cases p (point_of e) (points_from entries e.next) (subst (λ ps. Contains ps p) rest (leads.all p h late))) [
          | inl is ↦ (let same = ap (λ (q : Point ℕ). q.departure) is in absurd (omega (arith, same, early, late)))
          | inr later ↦ later
        ];
      }

  pub is_late : (m : ℕ) (e : Entry) → LeadsTo entries head time m e → time ≤ e.departure → IsLate entries head time m
  is_late m e leads late = record {
    within = slice_get_within entries m e leads.at;
    late = λ f at. subst (λ (x : Entry). time ≤ x.departure) (same_Some e f (sym leads.at ∙ at)) late;
    only = leads.only;
    all = leads.all;
  }

-- the first point of a list from a late entry on is the best
pub best_of : (entries : List Entry) → AreEntries entries → (head time m : ℕ) → IsLate entries head time m → (e : Entry) → slice_get entries m ≡ Some e
    → IsBestFrom (points_from entries head) time (record { time = e.time; departure = e.departure; tag = e.tag; head = m })
best_of entries are head time m late e at = record {
  made_of = λ lt.
      let here = first_in entries are m e at lt in
      (late.only (point_of e) here, late.late e at, (low entries are m e at (point_of e) here).2);
  least = λ p h then. (low entries are m e at p (late.all p h then)).1;
}

pub best_from : (lists : ArrivalLists) → AreEntries (entries_of lists) → (head time : ℕ) (first : FirstPoint) → IsFirstFrom lists head time first
    → IsBestFrom (list_points lists head) time first
best_from lists are head time first from =
    subst (IsBestFrom (list_points lists head) time) (sym from.is_first.is)
    (best_of (entries_of lists) are head time first.head from.late from.is_first.entry from.is_first.at)

-- if a list begins late, its first point is that
pub late_first : (lists : ArrivalLists) (time : ℕ) (first : FirstPoint) → IsFirstOf lists first.head first → time ≤ first.departure
    → IsFirstFrom lists first.head time first
late_first lists time first is late =
    let departs = ap (λ (f : FirstPoint). f.departure) is.is in
    record {
      is_first = is;
      late = record {
        within = slice_get_within (entries_of lists) first.head is.entry is.at;
        late = λ f there. subst (λ (x : Entry). time ≤ x.departure) (same_Some is.entry f (sym is.at ∙ there)) (omega (arith, late, departs));
        only = λ p h. h;
        all = λ p h then. h;
      };
    }

-- a list's first point arrives no later than any
pub first_least : (lists : ArrivalLists) → AreEntries (entries_of lists) → (first : FirstPoint) → IsFirstOf lists first.head first
    → (p : Point ℕ) → Contains (list_points lists first.head) p → first.time ≤ p.value
first_least lists are first is p h =
    let least = (low (entries_of lists) are first.head is.entry is.at p h).1 in
    let t = ap (λ (f : FirstPoint). f.time) is.is in
    omega (arith, least, t)

-- and is on it, unless the list is empty
pub first_made : (lists : ArrivalLists) → AreEntries (entries_of lists) → (first : FirstPoint) → IsFirstOf lists first.head first
    → first.time < never → Contains (list_points lists first.head) (as_point first)
first_made lists are first is lt =
    let t = ap (λ (f : FirstPoint). f.time) is.is in
    subst (λ f. Contains (list_points lists first.head) (as_point f)) (sym is.is)
    (first_in (entries_of lists) are first.head is.entry is.at (omega (arith, lt, t)))

-- it stays so as lists grow
pub first_still : (old new : ArrivalLists) → Extends (entries_of old) (entries_of new) → (first : FirstPoint) → IsFirstOf old first.head first
    → IsFirstOf new first.head first
first_still old new more first is = record {
  entry = is.entry;
  at = ap (λ xs. slice_get xs first.head) more.1 ∙ slice_get-append (entries_of old) more.0 first.head is.entry is.at;
  is = is.is;
}

-- and so do steps
pub steps_more : (old new : List Entry) → Extends old new → Extends (map (λ (e : Entry). e.step) old) (map (λ (e : Entry). e.step) new)
steps_more old new more =
    (map (λ (e : Entry). e.step) more.0, ap (map (λ (e : Entry). e.step)) more.1 ∙ map-append (λ (e : Entry). e.step) old more.0)

-- one precedes another that precedes a third
pub precedes-trans : (e f g : Entry) → Precedes e f → Precedes f g → Precedes e g
precedes-trans e f g a b =
    let a0 = a.0 in
    let a1 = a.1 in
    let b0 = b.0 in
    let b1 = b.1 in
    (omega (arith, a0, b0), omega (arith, a1, b1))

-- what is in a list to which an element was added
pub pushed_cases : {X : Type 0} (xs new : List X) (x y : X) → new ≡ xs ++ x ∷ [] → Contains new y → Contains xs y ⊎ (y ≡ x)
pushed_cases xs new x y is h = elim (Contains-append_cases xs (x ∷ []) y (subst (λ zs. Contains zs y) is h)) [
  | inl before ↦ inl before
  | inr last ↦ inr (contains_only x y last)
]

-- sorted entries, and one that all of them precede
pub sorted_push : (passed new : List Entry) (e : Entry) → new ≡ passed ++ e ∷ [] → AreSorted passed
    → ((x : Entry) → Contains passed x → Precedes x e) → AreSorted new
sorted_push passed new e is sorted fits =
    subst AreSorted (sym is) (λ i j x y lt at_i at_j. elim (pushed_at passed e y j at_j) [
      | inl before ↦
          let below = before.0 in
          sorted i j x y lt (sym (slice_get-front passed (e ∷ []) i (omega (arith, lt, below))) ∙ at_i) before.1
      | inr last ↦
          let at = last.0 in
          let at_x = sym (slice_get-front passed (e ∷ []) i (omega (arith, lt, at))) ∙ at_i in
          subst (Precedes x) (sym last.1) (fits x (contains_at passed i x at_x))
    ])

-- of sorted entries, all that stay precede the last one
pub sorted_pop : (old rest : List Entry) (e : Entry) → old ≡ rest ++ e ∷ [] → AreSorted old
    → AreSorted rest × ((x : Entry) → Contains rest x → Precedes x e)
sorted_pop old rest e is sorted =
    let there = subst AreSorted is sorted in (
      λ i j x y lt at_i at_j. there i j x y lt (slice_get-append rest (e ∷ []) i x at_i) (slice_get-append rest (e ∷ []) j y at_j),
      λ x h.
          let at = at_contains rest x h in
          there at.0 (length rest) x e (slice_get_within rest at.0 x at.1) (slice_get-append rest (e ∷ []) at.0 x at.1) (slice_get-middle rest e []),
    )

-- on the way past the entries that come before a point
pub record Passes (entries : List Entry) (head departure time m : ℕ) (e : Entry) (passed : List Entry) : Type 0 where
  pub at : slice_get entries m ≡ Some e
  pub from : (p : Point ℕ) → Contains (points_from entries m) p → Contains (points_from entries head) p
  pub listed : (x : Entry) → Contains passed x → Contains (points_from entries head) (point_of x)
  pub before : (x : Entry) → Contains passed x → (x.departure < departure) × (x.time < time)
  pub sorted : AreSorted passed
  pub fits : (x : Entry) → Contains passed x → Precedes x e
  pub all : (p : Point ℕ) → Contains (points_from entries head) p
      → ((x : Entry) × Contains passed x × (point_of x ≡ p)) ⊎ Contains (points_from entries m) p

module _ (entries : List Entry) (are : AreEntries entries) (head departure time : ℕ) (in_range : departure ≤ never) where
  pub passes_none : (e : Entry) → slice_get entries head ≡ Some e → (passed : List Entry) → passed ≡ [] → Passes entries head departure time head e passed
  passes_none e at passed none =
      let nothing : (x : Entry) → Contains passed x → ⊥ = λ x h. not_in_nil x (subst (λ xs. Contains xs x) none h) in
      record {
        at = at;
        from = λ p h. h;
        listed = λ x h. absurd (nothing x h);
        before = λ x h. absurd (nothing x h);
        sorted = λ i j x y lt at_i at_j. absurd (nothing x (contains_at passed i x at_i));
        fits = λ x h. absurd (nothing x h);
        all = λ p h. inr h;
      }

  pub passes_on : (m : ℕ) (e f : Entry) (passed new : List Entry) → Passes entries head departure time m e passed
      → e.departure < departure → e.time < time → new ≡ passed ++ e ∷ [] → slice_get entries e.next ≡ Some f
      → Passes entries head departure time e.next f new
  passes_on m e f passed new passes early soon is next =
      let k = not_end entries are m e departure passes.at early in_range in
      let at_k : slice_get entries (suc k.0) ≡ Some e = sym (ap (slice_get entries) k.1) ∙ passes.at in
      let rest : points_from entries m ≡ point_of e ∷ points_from entries e.next =
      ap (points_from entries) k.1 ∙ first_and_rest entries are k.0 e at_k in
      let rises = are.rises k.0 e f at_k next in
      let here : Contains (points_from entries head) (point_of e) =
      passes.from (point_of e) (subst (λ ps. Contains ps (point_of e)) (sym rest) (contains_first (point_of e) (points_from entries e.next))) in
      record {
        at = next;
        from = λ p h. passes.from p (subst (λ ps. Contains ps p) (sym rest) (contains_rest p (point_of e) (points_from entries e.next) h));
        listed = λ x h. elim (pushed_cases passed new e x is h) [
          | inl old ↦ passes.listed x old
          | inr last ↦ subst (λ y. Contains (points_from entries head) (point_of y)) (sym last) here
        ];
        before = λ x h. elim (pushed_cases passed new e x is h) [
          | inl old ↦ passes.before x old
          | inr last ↦ subst (λ (y : Entry). (y.departure < departure) × (y.time < time)) (sym last) (early, soon)
        ];
        sorted = sorted_push passed new e is passes.sorted passes.fits;
        fits = λ x h. elim (pushed_cases passed new e x is h) [
          | inl old ↦ precedes-trans x e f (passes.fits x old) rises
          | inr last ↦ subst (λ y. Precedes y f) (sym last) rises
        ];
        all = λ p h. elim (passes.all p h) [
          | inl old ↦ inl (old.0, subst (λ xs. Contains xs old.0) (sym is) (Contains-append_left passed (e ∷ []) old.0 old.1), old.2)
          | inr there ↦ elim (contains_cases p (point_of e) (points_from entries e.next) (subst (λ ps. Contains ps p) rest there)) [
            | inl same ↦ inl (e, subst (λ xs. Contains xs e) (sym is) (Contains-push passed e), same)
            | inr later ↦ inr later
          ]
        ];
      }

  pub passes_all : (m : ℕ) (e : Entry) (passed : List Entry) → Passes entries head departure time m e passed
      → (departure ≤ e.departure) ⊎ (time ≤ e.time) → AreAllPassed entries head departure time passed
  passes_all m e passed passes ends = record {
    listed = passes.listed;
    before = passes.before;
    sorted = passes.sorted;
    all = λ p h early soon. elim (passes.all p h) [
      | inl old ↦ old
      | inr there ↦
          let least = low entries are m e passes.at p there in
          let least_0 = least.0 in
          let least_1 = least.1 in
          elim ends [
            | inl late ↦ absurd (omega (arith, late, least_0, early))
            | inr late ↦ absurd (omega (arith, late, least_1, soon))
          ]
    ];
  }
