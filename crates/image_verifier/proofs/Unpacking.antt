-- A list that is made from indices, one element after the other.
use Rattle.std.proofs.Common.{◌≡◌, ℕ, zero, suc, ◌+◌, ◌-◌, ◌<◌, ◌≤◌, List, [], ◌∷◌, ◌++◌, length, take, map, sym, ap, ◌∙◌, arith}
use Rattle.std.specs.List.{flat_map, range_with_len}
use Rattle.std.proofs.lemmas.List.{append_assoc, append-nil, map-append, take_more}
use Rattle.std.proofs.lemmas.List.FromFn.{map-range_with_len_more}
use Rattle.std.proofs.lemmas.Option.{get_or_from_slice_get}
use Rattle.timetable.specs.Legal.{At}

-- one more of those from index a on, behind others
pub one_more : {X : Type 0} (f : ℕ → X) (a k : ℕ) (front xs : List X) (x : X) → a ≤ k
    → xs ≡ front ++ map f (range_with_len a (k - a)) → x ≡ f k
    → xs ++ x ∷ [] ≡ front ++ map f (range_with_len a ((k + 1) - a))
one_more {X} f a k front xs x le so_far is =
    let next : (k + 1) - a ≡ (k - a) + 1 = omega (arith, le) in
    ap (λ (ys : List X). ys ++ x ∷ []) so_far
    ∙ append_assoc front (map f (range_with_len a (k - a))) (x ∷ [])
    ∙ ap (λ (y : X). front ++ (map f (range_with_len a (k - a)) ++ y ∷ [])) is
    ∙ ap (λ (ys : List X). front ++ ys) (sym (map-range_with_len_more f a (k - a) k (omega (arith, le))))
    ∙ ap (λ (n : ℕ). front ++ map f (range_with_len a n)) (sym next)

-- one more of those from 0 on
pub next_one : {X : Type 0} (f : ℕ → X) (k : ℕ) (xs : List X) (x : X) → xs ≡ map f (range_with_len 0 k) → x ≡ f k
    → xs ++ x ∷ [] ≡ map f (range_with_len 0 (k + 1))
next_one {X} f k xs x so_far is =
    ap (λ (ys : List X). ys ++ x ∷ []) so_far
    ∙ ap (λ (y : X). map f (range_with_len 0 k) ++ y ∷ []) is
    ∙ sym (map-range_with_len_more f 0 k k (omega arith))

-- one more, by what it shows
pub next_shown : {X Y : Type 0} (show : Y → X) (f : ℕ → X) (k : ℕ) (ys : List Y) (y : Y)
    → map show ys ≡ map f (range_with_len 0 k) → show y ≡ f k
    → map show (ys ++ y ∷ []) ≡ map f (range_with_len 0 (k + 1))
next_shown show f k ys y so_far is = map-append show ys (y ∷ []) ∙ next_one f k (map show ys) (show y) so_far is

-- the pieces from 0 on, and one more
pub next_piece : {X : Type 0} (f : ℕ → List X) (k : ℕ) → flat_map f (range_with_len 0 (k + 1)) ≡ flat_map f (range_with_len 0 k) ++ f k
next_piece {X} f k = all f k 0 k (omega arith)
  where
    all : (f : ℕ → List X) (n a k : ℕ) → a + n ≡ k → flat_map f (range_with_len a (n + 1)) ≡ flat_map f (range_with_len a n) ++ f k
    all f zero a k e = let same : a ≡ k = omega (arith, e) in ap (λ (j : ℕ). f j ++ []) same ∙ append-nil (f k)
    all f (suc n) a k e =
        let size : suc n + 1 ≡ suc (n + 1) = omega arith in
        ap (λ (m : ℕ). flat_map f (range_with_len a m)) size
        ∙ ap (λ (ys : List X). f a ++ ys) (all f n (a + 1) k (omega (arith, e)))
        ∙ sym (append_assoc (f a) (flat_map f (range_with_len (a + 1) n)) (f k))

-- one more of a list that is there
pub next_taken : {X : Type 0} (xs taken : List X) (k : ℕ) (x : X) → k < length xs → taken ≡ take k xs → At xs k x → taken ++ x ∷ [] ≡ take (k + 1) xs
next_taken {X} xs taken k x lt so_far at =
    ap (λ (ys : List X). ys ++ x ∷ []) so_far
    ∙ ap (λ (y : X). take k xs ++ y ∷ []) (sym (get_or_from_slice_get xs k x x at))
    ∙ sym (take_more xs k x lt)

-- all of them, once as many are made as there are
pub all_made : {X : Type 0} (made : ℕ → List X) (k count : ℕ) (xs : List X) → xs ≡ made k → k ≡ count → xs ≡ made count
all_made made k count xs so_far all = so_far ∙ ap made all
