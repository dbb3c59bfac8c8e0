-- Sort keys have only one order.
use Rattle.std.proofs.Common.{◌≡◌, ◌∙◌, ℕ, suc, ◌+◌, ◌<◌, ◌≤◌, ◌⊎◌, inl, inr, List, [], ◌∷◌, get_or, true, false, eqb}
use Rattle.std.proofs.Common.{ltb, if◌then◌else◌, Option, refl, sym, ap, subst, arith}
use Rattle.std.specs.Prelude.{IsSortedBy}
use Rattle.std.specs.List.{sum_by}
use Rattle.std.proofs.lemmas.Bool.{cases_Bool, cases_order, eq-eqb, le-ltb, lt-ltb, ltb-false, ne_eqb, false≢true}
use Rattle.std.proofs.lemmas.List.Sums.{sum_by-cons}
use Rattle.std.proofs.lemmas.List.Sorted.{sum_by-IsPermutation}
use Rattle.gtfs_rows.specs.declared.rows.StopTimeRow.{StopTimeRow}
use Rattle.gtfs_tables.specs.Order.{IsInOrder, comes_before, sort_keys_from}
use Rattle.gtfs_tables.specs.declared.order.SortKey.{SortKey}

-- a sort key is another's, or comes after it
abbrev IsAtOrAfter : SortKey → SortKey → Type 0
IsAtOrAfter a b = (b.trip < a.trip) ⊎ ((a.trip ≡ b.trip) × ((b.sequence < a.sequence) ⊎ ((a.sequence ≡ b.sequence) × (b.number ≤ a.number))))

same_trip : (a b : SortKey) → a.trip ≡ b.trip → comes_before a b ≡ (if eqb a.sequence b.sequence then ltb a.number b.number else ltb a.sequence b.sequence)
same_trip a b e = rw (eq-eqb a.trip b.trip e) refl

same_sequence : (a b : SortKey) → a.trip ≡ b.trip → a.sequence ≡ b.sequence → comes_before a b ≡ ltb a.number b.number
same_sequence a b e f = rw (eq-eqb a.trip b.trip e, eq-eqb a.sequence b.sequence f) refl

other_trip : (a b : SortKey) → (a.trip ≡ b.trip → ⊥) → comes_before a b ≡ ltb a.trip b.trip
other_trip a b ne = rw (ne_eqb a.trip b.trip ne) refl

other_sequence : (a b : SortKey) → a.trip ≡ b.trip → (a.sequence ≡ b.sequence → ⊥) → comes_before a b ≡ ltb a.sequence b.sequence
other_sequence a b e ne = rw (eq-eqb a.trip b.trip e, ne_eqb a.sequence b.sequence ne) refl

at_or_after : (a b : SortKey) → comes_before a b ≡ false → IsAtOrAfter a b
at_or_after a b e = by (cases_order a.trip b.trip) (cases_order a.sequence b.sequence)
  where
    by : (a.trip ≡ b.trip) ⊎ ((a.trip < b.trip) ⊎ (b.trip < a.trip))
        → (a.sequence ≡ b.sequence) ⊎ ((a.sequence < b.sequence) ⊎ (b.sequence < a.sequence)) → IsAtOrAfter a b
    by (inl same) (inl equal_too) = inr (same, inr (equal_too, ltb-false a.number b.number (sym (same_sequence a b same equal_too) ∙ e)))
    by (inl same) (inr (inl less)) = absurd (false≢true (sym e ∙ other_sequence a b same (λ s. omega (arith, s)) ∙ lt-ltb a.sequence b.sequence less))
    by (inl same) (inr (inr more)) = inr (same, inl more)
    by (inr (inl less)) s = absurd (false≢true (sym e ∙ other_trip a b (λ t. omega (arith, t)) ∙ lt-ltb a.trip b.trip less))
    by (inr (inr more)) s = inl more

never_before : (a b : SortKey) → IsAtOrAfter a b → comes_before a b ≡ false
never_before a b (inl more) = other_trip a b (λ t. omega (arith, t)) ∙ le-ltb a.trip b.trip (omega arith)
never_before a b (inr (same, inl more)) = other_sequence a b same (λ s. omega (arith, s)) ∙ le-ltb a.sequence b.sequence (omega arith)
never_before a b (inr (same, inr (equal_too, no_less))) = same_sequence a b same equal_too ∙ le-ltb a.number b.number no_less

chained : (a b c : SortKey) → IsAtOrAfter a b → IsAtOrAfter b c → IsAtOrAfter a c
chained a b c (inl ab) (inl bc) = inl (omega arith)
chained a b c (inl ab) (inr (same, rest)) = inl (omega (arith, same))
chained a b c (inr (same, rest)) (inl bc) = inl (omega (arith, same))
chained a b c (inr (same, inl ab)) (inr (too, inl bc)) = inr (same ∙ too, inl (omega arith))
chained a b c (inr (same, inl ab)) (inr (too, inr (equal_too, bc))) = inr (same ∙ too, inl (omega (arith, equal_too)))
chained a b c (inr (same, inr (equal_too, ab))) (inr (too, inl bc)) = inr (same ∙ too, inl (omega (arith, equal_too)))
chained a b c (inr (same, inr (equal_too, ab))) (inr (too, inr (as_well, bc))) = inr (same ∙ too, inr (equal_too ∙ as_well, omega arith))

-- two sort keys of which neither comes before the other are the same
same_sort_key : (a b : SortKey) → IsAtOrAfter a b → IsAtOrAfter b a → a ≡ b
same_sort_key a b (inl ab) (inl ba) = absurd (omega arith)
same_sort_key a b (inl ab) (inr (same, rest)) = absurd (omega (arith, same))
same_sort_key a b (inr (same, rest)) (inl ba) = absurd (omega (arith, same))
same_sort_key a b (inr (same, inl ab)) (inr (too, inl ba)) = absurd (omega arith)
same_sort_key a b (inr (same, inl ab)) (inr (too, inr (equal_too, ba))) = absurd (omega (arith, equal_too))
same_sort_key a b (inr (same, inr (equal_too, ab))) (inr (too, inl ba)) = absurd (omega (arith, equal_too))
same_sort_key a b (inr (same, inr (equal_too, ab))) (inr (too, inr (as_well, ba))) =
    let number : a.number ≡ b.number = omega arith in
    λ i. record { trip = same i; sequence = equal_too i; number = number i }

-- 1 for a sort key that comes before another, else 0
abbrev before : SortKey → SortKey → ℕ
before b a = if comes_before a b then 1 else 0

before-false : (b a : SortKey) → comes_before a b ≡ false → before b a ≡ 0
before-false b a e = rw e refl

before-true : (b a : SortKey) → comes_before a b ≡ true → before b a ≡ 1
before-true b a e = rw e refl

rest_sorted : (x : SortKey) (xs : List SortKey) → IsSortedBy comes_before (x ∷ xs) → IsSortedBy comes_before xs
rest_sorted x xs sorted k d low lt =
    let next : suc k + 1 ≡ suc (k + 1) = omega arith in
    subst (λ (n : ℕ). comes_before (get_or (x ∷ xs) n d) (get_or xs k d) ≡ false) next (sorted (suc k) d (omega arith) (omega arith))

-- of sort keys in order none comes before one that the first doesn't come before
none_before : (x : SortKey) (xs : List SortKey) → IsSortedBy comes_before (x ∷ xs) → (b : SortKey) → IsAtOrAfter x b → sum_by (before b) (x ∷ xs) ≡ 0
none_before x [] sorted b from =
    let here : before b x ≡ 0 = before-false b x (never_before x b from) in
    let sum : sum_by (before b) (x ∷ []) ≡ before b x + 0 = sum_by-cons (before b) x [] in
    omega (arith, here, sum)
none_before x (y ∷ xs) sorted b from =
    let after : IsAtOrAfter y x = at_or_after y x (sorted 0 x (omega arith) (omega arith)) in
    let rest : sum_by (before b) (y ∷ xs) ≡ 0 = none_before y xs (rest_sorted x (y ∷ xs) sorted) b (chained y x b after from) in
    let here : before b x ≡ 0 = before-false b x (never_before x b from) in
    let sum : sum_by (before b) (x ∷ y ∷ xs) ≡ before b x + sum_by (before b) (y ∷ xs) = sum_by-cons (before b) x (y ∷ xs) in
    omega (arith, rest, here, sum)

abbrev HaveSameSums : List SortKey → List SortKey → Type 0
HaveSameSums xs ys = (f : SortKey → ℕ) → sum_by f xs ≡ sum_by f ys

itself : (a : SortKey) → IsAtOrAfter a a
itself a = inr (refl, inr (refl, omega arith))

-- the first sort key of the one doesn't come before the first of the other
first_after : (x y : SortKey) (xs ys : List SortKey) → IsSortedBy comes_before (y ∷ ys) → HaveSameSums (x ∷ xs) (y ∷ ys) → IsAtOrAfter x y
first_after x y xs ys sorted sums = by (cases_Bool (comes_before x y))
  where
    by : (comes_before x y ≡ true) ⊎ (comes_before x y ≡ false) → IsAtOrAfter x y
    by (inl less) =
        let here : before y x ≡ 1 = before-true y x less in
        let some : sum_by (before y) (x ∷ xs) ≡ before y x + sum_by (before y) xs = sum_by-cons (before y) x xs in
        let none : sum_by (before y) (y ∷ ys) ≡ 0 = none_before y ys sorted y (itself y) in
        let same : sum_by (before y) (x ∷ xs) ≡ sum_by (before y) (y ∷ ys) = sums (before y) in
        absurd (omega (arith, here, some, none, same))
    by (inr e) = at_or_after x y e

abbrev one : SortKey → ℕ
one a = 1

same_lists : (xs ys : List SortKey) → IsSortedBy comes_before xs → IsSortedBy comes_before ys → HaveSameSums xs ys → xs ≡ ys
same_lists [] [] up equal_too sums = refl
same_lists [] (y ∷ ys) up equal_too sums =
    let e : 0 ≡ 1 + sum_by one ys = sums one ∙ sum_by-cons one y ys in
    absurd (omega (arith, e))
same_lists (x ∷ xs) [] up equal_too sums =
    let e : 0 ≡ 1 + sum_by one xs = sym (sums one) ∙ sum_by-cons one x xs in
    absurd (omega (arith, e))
same_lists (x ∷ xs) (y ∷ ys) up equal_too sums =
    let same : x ≡ y = same_sort_key x y (first_after x y xs ys equal_too sums) (first_after y x ys xs up (λ f. sym (sums f))) in
    let rest : HaveSameSums xs ys =
    λ f.
    let left : sum_by f (x ∷ xs) ≡ f x + sum_by f xs = sum_by-cons f x xs in
    let right : sum_by f (y ∷ ys) ≡ f y + sum_by f ys = sum_by-cons f y ys in
    let whole : sum_by f (x ∷ xs) ≡ sum_by f (y ∷ ys) = sums f in
    let heads : f x ≡ f y = ap f same in
    omega (arith, left, right, whole, heads) in
    let tails : xs ≡ ys = same_lists xs ys (rest_sorted x xs up) (rest_sorted y ys equal_too) rest in
    λ i. same i ∷ tails i

pub one_order : (trips : List (Option ℕ)) (rows : List StopTimeRow) (xs ys : List SortKey) → IsInOrder trips rows xs → IsInOrder trips rows ys → xs ≡ ys
one_order trips rows xs ys a b =
    same_lists xs ys a.rising b.rising (λ f. sum_by-IsPermutation f (sort_keys_from trips 1 rows) xs a.same
    ∙ sym (sum_by-IsPermutation f (sort_keys_from trips 1 rows) ys b.same))
