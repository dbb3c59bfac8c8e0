-- A name that a list has twice.
use Rattle.std.proofs.Common.{◌≡◌, ◌≢◌, ◌⊎◌, ◌<◌, ◌+◌, ℕ, suc, true, false, List, [], ◌∷◌, ◌++◌, None, Some, length, map, take}
use Rattle.std.proofs.Common.{get_or, slice_get, sym, ◌∙◌, ap, subst, refl, inl, inr, arith, Contains}
use Rattle.std.specs.Prelude.{if◌then◌else◌}
use Rattle.std.specs.BTreeMap.{BTreeMap, IsEmpty}
use Rattle.std.specs.Borrow.{Bor}
use Rattle.std.specs.Str.{bytes_eq}
use Rattle.std.proofs.lemmas.Bool.{cases_Bool, true≢false}
use Rattle.std.proofs.lemmas.List.Elements.{Contains-get_or, Contains-push_cases}
use Rattle.std.proofs.lemmas.List.Quantifiers.{all_pairs_push}
use Rattle.std.proofs.lemmas.Slice.Eq.{bytes_eq-Decides}
use Rattle.std.proofs.lemmas.Option.{get_or_from_slice_get, none-some, same_Some, slice_get_within}
use Rattle.reasoning.proofs.ListLemmas.{not_in_nil}
use Rattle.matrix_rows.specs.Listed.{AreDifferent, HasStopTwice, IsLineTwice, ids_in}
use Rattle.matrix_rows.specs.Repeated.{IsRepeated, first_index_at}
use Rattle.matrix_rows.proofs.Sought.{at_index, more_listed}

-- the names of the first lines are all different, and each has the index of its line
pub record ArePlaced (listed : List (List ℕ)) (below : ℕ) (list_indices : BTreeMap (Bor (List ℕ)) ℕ) : Type 0 where
  pub at : (name : List ℕ) (list_index : ℕ) → first_index_at list_indices name ≡ Some list_index → (list_index < below)
      × (slice_get listed list_index ≡ Some name)
  pub none : (name : List ℕ) → first_index_at list_indices name ≡ None → Contains (take below listed) name → ⊥
  pub different : AreDifferent (take below listed)

pub none_placed : (listed : List (List ℕ)) (list_indices : BTreeMap (Bor (List ℕ)) ℕ) → IsEmpty list_indices → ArePlaced listed 0 list_indices
none_placed listed list_indices empty = record {
  at = λ name list_index is. absurd (none-some list_index (sym (nothing name) ∙ is));
  none = λ name is h. not_in_nil name h;
  different = λ i j d lt below. absurd (omega (arith, below));
}
  where
    nothing : (name : List ℕ) → first_index_at list_indices name ≡ None
    nothing name = rw empty refl

-- the next name isn't there yet
module _ (listed : List (List ℕ)) (index : ℕ) (name : List ℕ) (old new : BTreeMap (Bor (List ℕ)) ℕ) (at : slice_get listed index ≡ Some name)
    (are : ArePlaced listed index old) (not_there : first_index_at old name ≡ None)
    (put : (q : List ℕ) → first_index_at new q ≡ (if bytes_eq name q then Some index else first_index_at old q)) where
  here : (q : List ℕ) → bytes_eq name q ≡ true → first_index_at new q ≡ Some index
  here q e = put q ∙ rw e refl

  apart : (q : List ℕ) → bytes_eq name q ≡ false → first_index_at new q ≡ first_index_at old q
  apart q e = put q ∙ rw e refl

  placed_at : (q : List ℕ) (list_index : ℕ) → first_index_at new q ≡ Some list_index → (bytes_eq name q ≡ true) ⊎ (bytes_eq name q ≡ false)
      → (list_index < index + 1) × (slice_get listed list_index ≡ Some q)
  placed_at q list_index is (inl same) =
      let this : index ≡ list_index = same_Some index list_index (sym (here q same) ∙ is) in (
        omega (arith, this),
        ap (slice_get listed) (sym this) ∙ at ∙ ap (λ (n : List ℕ). Some n) ((bytes_eq-Decides name q).0 same),
      )
  placed_at q list_index is (inr differ) =
      let before = are.at q list_index (sym (apart q differ) ∙ is) in
      (let less = before.0 in omega (arith, less), before.1)

  placed_none : (q : List ℕ) → first_index_at new q ≡ None → Contains (take index listed ++ name ∷ []) q → (bytes_eq name q ≡ true) ⊎ (bytes_eq name q ≡ false)
      → ⊥
  placed_none q is h (inl same) = none-some index (sym is ∙ here q same)
  placed_none q is h (inr differ) = elim (Contains-push_cases (take index listed) name q h) [
    | inl before ↦ are.none q (sym (apart q differ) ∙ is) before
    | inr last ↦ true≢false (sym ((bytes_eq-Decides name q).1 last) ∙ differ)
  ]

  all_different : AreDifferent (take index listed ++ name ∷ [])
  all_different = all_pairs_push (λ (n later : List ℕ). n ≢ later) (take index listed) name are.different
      (λ k d lt same. are.none name not_there (subst (Contains (take index listed)) same (Contains-get_or (take index listed) k d lt)))

  pub name_placed : ArePlaced listed (index + 1) new
  name_placed = record {
    at = λ q list_index is. placed_at q list_index is (cases_Bool (bytes_eq name q));
    none = λ q is h. placed_none q is (subst (λ (names : List (List ℕ)). Contains names q) (more_listed listed index name at) h) (cases_Bool (bytes_eq name q));
    different = subst AreDifferent (sym (more_listed listed index name at)) all_different;
  }

-- the same of the name of an item
pub item_placed : {A : Type 0} (f : A → List ℕ) (items : List A) (index : ℕ) (d : A) (old new : BTreeMap (Bor (List ℕ)) ℕ) → index < length items
    → ArePlaced (map f items) index old → first_index_at old (f (get_or items index d)) ≡ None
    → ((q : List ℕ) → first_index_at new q ≡ (if bytes_eq (f (get_or items index d)) q then Some index else first_index_at old q))
    → ArePlaced (map f items) (index + 1) new
item_placed f items index d old new less are not_there put =
    name_placed (map f items) index (f (get_or items index d)) old new (at_index f items index d less) are not_there put

-- the next name is there already
pub item_repeated : {A : Type 0} (f : A → List ℕ) (items : List A) (index first : ℕ) (d : A) (list_indices : BTreeMap (Bor (List ℕ)) ℕ) → index < length items
    → ArePlaced (map f items) index list_indices → first_index_at list_indices (f (get_or items index d)) ≡ Some first → IsRepeated (map f items) first index
item_repeated f items index first d list_indices less are is =
    let there = are.at (f (get_or items index d)) first is in
    record {
      name = f (get_or items index d);
      in_order = there.0;
      stands = there.1;
      again = at_index f items index d less;
      before = are.different;
    }

-- the same by numbers, from 1 on
pub line_twice : (listed : List (List ℕ)) (earlier later first second : ℕ) → first ≡ earlier + 1 → second ≡ later + 1
    → IsRepeated listed earlier later → IsLineTwice listed first second
line_twice listed earlier later first second one other is = record {
  earlier = earlier;
  later = later;
  line = is.name;
  numbered = (omega (arith, one), omega (arith, other));
  in_order = is.in_order;
  stands = is.stands;
  again = is.again;
  before = is.before;
}

-- what has a text twice isn't all different
pub repeated_apart : (listed : List (List ℕ)) (earlier later : ℕ) → IsRepeated listed earlier later → AreDifferent listed → ⊥
repeated_apart listed earlier later is different =
    let within = slice_get_within listed later is.name is.again in
    different earlier later is.name is.in_order within
    (get_or_from_slice_get listed earlier is.name is.name is.stands ∙ sym (get_or_from_slice_get listed later is.name is.name is.again))

-- the lines so far have no stop_id twice, and neither has the next one
pub line_apart : {A : Type 0} (f : A → List ℕ) (items : List A) (index : ℕ) (d : A) (ids : List (List ℕ)) → index < length items
    → ((line : List ℕ) → Contains (take index (map f items)) line → AreDifferent (ids_in line))
    → ids ≡ ids_in (f (get_or items index d)) → AreDifferent ids
    → (line : List ℕ) → Contains (take (index + 1) (map f items)) line → AreDifferent (ids_in line)
line_apart f items index d ids less before are different line h =
    let this = f (get_or items index d) in
    let cases = Contains-push_cases (take index (map f items)) this line
    (subst (λ (ls : List (List ℕ)). Contains ls line) (more_listed (map f items) index this (at_index f items index d less)) h) in
    elim cases [
      | inl earlier ↦ before line earlier
      | inr last ↦ subst (λ (l : List ℕ). AreDifferent (ids_in l)) last (subst AreDifferent are different)
    ]

-- the next one has
pub stop_twice_at : {A : Type 0} (f : A → List ℕ) (items : List A) (index : ℕ) (d : A) (ids : List (List ℕ)) → index < length items
    → ((line : List ℕ) → Contains (take index (map f items)) line → AreDifferent (ids_in line))
    → ids ≡ ids_in (f (get_or items index d)) → (AreDifferent ids → ⊥) → HasStopTwice (map f items) (index + 1)
stop_twice_at f items index d ids less before are twice = record {
  index = index;
  line = f (get_or items index d);
  numbered = more index;
  stands = at_index f items index d less;
  twice = λ different. twice (subst AreDifferent (sym are) different);
  before = before;
}
  where
    more : (n : ℕ) → n + 1 ≡ suc n
    more n = omega arith
