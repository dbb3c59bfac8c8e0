-- The elements of lists: by index, after a filter, and after a write.
use Rattle.std.proofs.Common.{◌≡◌, ◌≢◌, ◌⊎◌, ℕ, zero, suc, ◌<◌, Bool, true, false, cond, List, [], ◌∷◌, ◌++◌, length, set, replicate, slice_get}
use Rattle.std.proofs.Common.{slice_index, filter, Contains, Some, inl, inr, refl, sym, ap, ◌∙◌, subst, arith, append-nil, append_assoc}
use Rattle.std.specs.List.{list_any, AllZip}
use Rattle.std.proofs.lemmas.List.Elements.{All-contains, All-filter, All-contains_itself, filter_passes}
use Rattle.std.proofs.lemmas.List.Folds.{Any-from_list_any}
use Rattle.std.proofs.lemmas.Option.{slice_get-get_or, get_or_from_slice_get, slice_get_within, same_Some}
use Rattle.reasoning.specs.Lists.{Extends}

pub not_in_nil : {X : Type 0} (x : X) → Contains {X = X} [] x → ⊥
not_in_nil x is = omega (arith, is.1)

pub contains_first : {X : Type 0} (x : X) (xs : List X) → Contains (x ∷ xs) x
contains_first x xs = (0, omega arith, refl)

pub contains_rest : {X : Type 0} (x y : X) (xs : List X) → Contains xs x → Contains (y ∷ xs) x
contains_rest x y xs (k, below, is) = (suc k, omega (arith, below), is)

-- an element of a list is the first, or one of the rest
pub contains_cases : {X : Type 0} (x y : X) (xs : List X) → Contains (y ∷ xs) x → (y ≡ x) ⊎ Contains xs x
contains_cases x y xs (zero, below, is) = inl is
contains_cases x y xs (suc k, below, is) = inr (k, omega (arith, below), is)

-- what stands at an index is an element, and the other way round
pub contains_at : {X : Type 0} (xs : List X) (i : ℕ) (x : X) → slice_get xs i ≡ Some x → Contains xs x
contains_at xs i x at = (i, slice_get_within xs i x at, get_or_from_slice_get xs i x x at)

pub at_contains : {X : Type 0} (xs : List X) (x : X) → Contains xs x → (i : ℕ) × (slice_get xs i ≡ Some x)
at_contains xs x (i, below, is) = (i, slice_get-get_or xs i x below ∙ ap Some is)

pub same_at : {X : Type 0} (xs : List X) (i : ℕ) (x y : X) → slice_get xs i ≡ Some x → slice_get xs i ≡ Some y → x ≡ y
same_at xs i x y at_x at_y = same_Some x y (sym at_x ∙ at_y)

-- what a filter keeps was there and passes
pub from_filter : {X : Type 0} (p : X → Bool) (xs : List X) (x : X) → Contains (filter p xs) x → Contains xs x × (p x ≡ true)
from_filter p xs x is = (
  All-contains (Contains xs) (filter p xs) x (All-filter p (Contains xs) xs (All-contains_itself xs)) is,
  All-contains (λ y. p y ≡ true) (filter p xs) x (filter_passes p xs) is,
)

-- what was there and passes is kept
pub into_filter : {X : Type 0} (p : X → Bool) (xs : List X) (x : X) → Contains xs x → p x ≡ true → Contains (filter p xs) x
into_filter p [] x is passes = is
into_filter p (y ∷ ys) x is passes =
    let kept : p y ≡ true → Contains (cond (p y) (y ∷ filter p ys) (filter p ys)) y = λ e.
    subst (λ (b : Bool). Contains (cond b (y ∷ filter p ys) (filter p ys)) y) (sym e) (contains_first y (filter p ys)) in
    elim (contains_cases x y ys is) [
      | inl same ↦ subst (Contains (filter p (y ∷ ys))) same (kept (ap p same ∙ passes))
      | inr later ↦
          let more = into_filter p ys x later passes in
          elim (p y) as (λ b. Contains (cond b (y ∷ filter p ys) (filter p ys)) x) [
            | true ↦ contains_rest x y (filter p ys) more
            | false ↦ more
          ]
    ]

-- where one passes
pub one_passes : {X : Type 0} (p : X → Bool) (xs : List X) → list_any p xs ≡ true → (x : X) × Contains xs x × (p x ≡ true)
one_passes p xs some = let a = Any-from_list_any p xs some in (a.1, (a.0, a.2, a.3), a.4)

-- two lists side by side, a pair on
pub all_zip-push : {A B : Type 0} (R : A → B → Type 0) (xs : List A) (ys : List B) (x : A) (y : B) → AllZip R xs ys → R x y
    → AllZip R (xs ++ x ∷ []) (ys ++ y ∷ [])
all_zip-push R [] [] x y all here = (here, tt)
all_zip-push R [] (b ∷ ys) x y all here = absurd all
all_zip-push R (a ∷ xs) [] x y all here = absurd all
all_zip-push R (a ∷ xs) (b ∷ ys) x y all here = (all.0, all_zip-push R xs ys x y all.1 here)

-- an element of the first of two lists, and the one behind a list
pub slice_get-front : {X : Type 0} (xs ys : List X) (i : ℕ) → i < length xs → slice_get (xs ++ ys) i ≡ slice_get xs i
slice_get-front [] ys i below = absurd (omega arith)
slice_get-front (x ∷ xs) ys zero below = refl
slice_get-front (x ∷ xs) ys (suc i) below = slice_get-front xs ys i (omega arith)

pub slice_get-append : {X : Type 0} (xs ys : List X) (i : ℕ) (x : X) → slice_get xs i ≡ Some x → slice_get (xs ++ ys) i ≡ Some x
slice_get-append xs ys i x is = slice_get-front xs ys i (slice_get_within xs i x is) ∙ is

pub slice_get-last : {X : Type 0} (xs : List X) (x : X) → slice_get (xs ++ x ∷ []) (length xs) ≡ Some x
slice_get-last [] x = refl
slice_get-last (y ∷ ys) x = slice_get-last ys x

-- lists of one element
pub slice_get-replicate : {X : Type 0} (n k : ℕ) (x : X) → k < n → slice_get (replicate n x) k ≡ Some x
slice_get-replicate zero k x below = absurd (omega arith)
slice_get-replicate (suc n) zero x below = refl
slice_get-replicate (suc n) (suc k) x below = slice_get-replicate n k x (omega arith)

pub slice_get-replicate-is : {X : Type 0} (n k : ℕ) (x y : X) → slice_get (replicate n x) k ≡ Some y → y ≡ x
slice_get-replicate-is zero k x y is = absurd cc
slice_get-replicate-is (suc n) zero x y is = sym (same_Some x y is)
slice_get-replicate-is (suc n) (suc k) x y is = slice_get-replicate-is n k x y is

pub slice_index-replicate : (n k : ℕ) → slice_index (replicate n 0) k ≡ 0
slice_index-replicate zero k = refl
slice_index-replicate (suc n) zero = refl
slice_index-replicate (suc n) (suc k) = slice_index-replicate n k

-- a list after a write
pub slice_get-set_same : {X : Type 0} (xs : List X) (i : ℕ) (y : X) → i < length xs → slice_get (set xs i y) i ≡ Some y
slice_get-set_same [] i y below = absurd (omega arith)
slice_get-set_same (x ∷ xs) zero y below = refl
slice_get-set_same (x ∷ xs) (suc i) y below = slice_get-set_same xs i y (omega arith)

pub slice_get-set_other : {X : Type 0} (xs : List X) (i j : ℕ) (y : X) → j ≢ i → slice_get (set xs i y) j ≡ slice_get xs j
slice_get-set_other [] i j y other = refl
slice_get-set_other (x ∷ xs) zero zero y other = absurd (other refl)
slice_get-set_other (x ∷ xs) zero (suc j) y other = refl
slice_get-set_other (x ∷ xs) (suc i) zero y other = refl
slice_get-set_other (x ∷ xs) (suc i) (suc j) y other = slice_get-set_other xs i j y (λ e. other (ap (λ n. suc n) e))

-- at each index of a list something stands
pub at_below : {X : Type 0} (xs : List X) (i : ℕ) → i < length xs → (x : X) × (slice_get xs i ≡ Some x)
at_below [] i below = absurd (omega (arith, below))
at_below (x ∷ xs) zero below = (x, refl)
at_below (x ∷ xs) (suc i) below = at_below xs i (omega (arith, below))

-- lists that further elements follow
pub extends_none : {X : Type 0} (xs : List X) → Extends xs xs
extends_none xs = ([], sym (append-nil xs))

pub extends_on : {X : Type 0} (a b c : List X) → Extends a b → Extends b c → Extends a c
extends_on a b c ab bc = (ab.0 ++ bc.0, bc.1 ∙ ap (λ xs. xs ++ bc.0) ab.1 ∙ append_assoc a ab.0 bc.0)

pub extends_one : {X : Type 0} (old new : List X) (x : X) → new ≡ old ++ x ∷ [] → Extends old new
extends_one old new x e = (x ∷ [], e)

-- in a list of one element stands no other
pub contains_only : {X : Type 0} (x y : X) → Contains (x ∷ []) y → y ≡ x
contains_only x y (zero, below, is) = sym is
contains_only x y (suc k, below, is) = absurd (omega (arith, below))

-- the element behind a list and before another
pub slice_get-middle : {X : Type 0} (xs : List X) (y : X) (ys : List X) → slice_get (xs ++ y ∷ ys) (length xs) ≡ Some y
slice_get-middle [] y ys = refl
slice_get-middle (x ∷ xs) y ys = slice_get-middle xs y ys
