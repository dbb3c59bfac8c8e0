-- Groups of rows, one row at a time.
use Rattle.std.proofs.Common.{◌≡◌, ◌≢◌, ◌∙◌, ◌+◌, ◌<◌, ◌≤◌, ◌==◌, ℕ, List, [], ◌∷◌, ◌++◌, Option, None, Some, inl, inr}
use Rattle.std.proofs.Common.{get_or, length, set, refl, sym, ap, arith}
use Rattle.std.specs.Prelude.{if◌then◌else◌}
use Rattle.std.specs.Global.{Vec}
use Rattle.std.specs.List.{slice_get, slice_index_or}
use Rattle.std.proofs.lemmas.Bool.{cases_eq, eq-eqb, ne_eqb}
use Rattle.std.proofs.lemmas.List.{append-nil, get_or-set_other, get_or-set_same, length-set}
use Rattle.std.proofs.lemmas.Option.{get_or_from_slice_get, slice_get_read, slice_get_within}
use Rattle.reasoning.specs.Options.{is_that_number}
use Rattle.feed_stations.specs.Grouping.{AreGroupsBelow, IsPutInto, stops_below}
use Rattle.feed_stations.proofs.Counted.{counted_more}

-- no row is in a group yet
pub groups_none : (homes : List (Option ℕ)) (count : ℕ) (groups : List (Vec ℕ)) → length groups ≡ count
    → ((k : ℕ) (group : Vec ℕ) → slice_get groups k ≡ Some group → group.items ≡ []) → AreGroupsBelow homes count 0 groups
groups_none homes count groups long empty = record { count_is = long; each = empty }

-- whether the next row is listed by a row
next : (homes : List (Option ℕ)) (n k : ℕ) (o : Option ℕ) → slice_index_or homes n None ≡ o
    → stops_below homes (n + 1) k ≡ stops_below homes n k ++ (if is_that_number o k then n ∷ [] else [])
next homes n k o e =
    counted_more (λ j. is_that_number (slice_index_or homes j None) k) n
    ∙ ap (λ (home : Option ℕ). stops_below homes n k ++ (if is_that_number home k then n ∷ [] else [])) e

-- the next row is put into the group of its home
pub groups_more : (homes : List (Option ℕ)) (count n home : ℕ) (old new : List (Vec ℕ)) → slice_index_or homes n None ≡ Some home
    → IsPutInto home n old new → AreGroupsBelow homes count n old → AreGroupsBelow homes count (n + 1) new
groups_more homes count n home old new e put are = record {
  count_is = put.same ∙ are.count_is;
  each = λ k group at.
      let (before, there, grown) = put.grown k group at in
      grown ∙ ap (λ (xs : List ℕ). xs ++ (if is_that_number (Some home) k then n ∷ [] else [])) (are.each k before there)
      ∙ sym (next homes n k (Some home) e);
}

-- the next row has no home
pub groups_same : (homes : List (Option ℕ)) (count n : ℕ) (groups : List (Vec ℕ)) → slice_index_or homes n None ≡ None
    → AreGroupsBelow homes count n groups → AreGroupsBelow homes count (n + 1) groups
groups_same homes count n groups e are = record {
  count_is = are.count_is;
  each = λ k group at. are.each k group at ∙ sym (next homes n k None e ∙ append-nil (stops_below homes n k));
}

-- nothing is added to another group
nothing_more : (home k stop : ℕ) (xs : List ℕ) → home ≢ k → xs ≡ xs ++ (if home == k then stop ∷ [] else [])
nothing_more home k stop xs other =
    let none : (if home == k then stop ∷ [] else []) ≡ [] = rw (ne_eqb home k other) refl in
    sym (ap (λ (ys : List ℕ). xs ++ ys) none ∙ append-nil xs)

-- a row is added to the end of the group of its home
pub put_there : (home stop : ℕ) (old : List (Vec ℕ)) (here one : Vec ℕ) → home < length old → here ≡ get_or old home here
    → one.items ≡ here.items ++ stop ∷ [] → IsPutInto home stop old (set old home one)
put_there home stop old here one lt is grown = record {
  same = length-set old home one;
  grown = λ k group at. elim (cases_eq k home) [
    | inl same ↦
        let now : group ≡ one =
        sym (get_or_from_slice_get (set old home one) k group one at) ∙ ap (λ n. get_or (set old home one) n one) same ∙ get_or-set_same old home one one lt in
        let before : slice_get old k ≡ Some here = ap (slice_get old) same ∙ slice_get_read old (length old) home here refl lt is in
        let more : (if home == k then stop ∷ [] else []) ≡ stop ∷ [] = rw (eq-eqb home k (sym same)) refl in
        (here, before, ap (λ (v : Vec ℕ). v.items) now ∙ grown ∙ sym (ap (λ (ys : List ℕ). here.items ++ ys) more))
    | inr other ↦
        let within : k < length old =
        omega (arith, slice_get_within (set old home one) k group at, length-set old home one) in
        let kept : group ≡ get_or old k group =
        sym (get_or_from_slice_get (set old home one) k group group at) ∙ get_or-set_other old home k one group other in
        (group, slice_get_read old (length old) k group refl within kept, nothing_more home k stop group.items (λ same. other (sym same)))
  ];
}

-- a row whose home isn't there is put nowhere
pub put_nowhere : (home stop : ℕ) (old : List (Vec ℕ)) → length old ≤ home → IsPutInto home stop old old
put_nowhere home stop old past = record {
  same = refl;
  grown = λ k group at.
      let within : k < length old = slice_get_within old k group at in
      let other : home ≢ k = omega arith in
      (group, at, nothing_more home k stop group.items other);
}
