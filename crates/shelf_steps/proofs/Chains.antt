-- A block of slots is taken at once, and given back at once.
use Rattle.std.proofs.Common.{◌≡◌, ℕ, zero, suc, ◌+◌, ◌<◌, ◌≤◌, ◌⊎◌, List, [], ◌∷◌, ◌++◌, length, set, refl, ap, sym}
use Rattle.std.proofs.Common.{◌∙◌, subst, arith, inl, inr, length-set, append_assoc, ◌-◌}
use mathlib.Core.Logic.{dite}
use mathlib.Core.Option.{Option, none, some}
use native.Mathlib.Decide.{ℕ_discrete}
use lib.ListN.{get_elem?}
use Rattle.atomic_table.specs.Table.{Act, keeps, takes, gives, chain, Valid, homes_after, carried_after, put_back, rest, turned}
use Rattle.atomic_table.proofs.Lists.{set_here, set_else}
use Rattle.shelf_steps.specs.Slots.{down_from}

module _ {S : Type 0} where
  -- the slots from k on, of which there are n, each with its value
  abbrev pub take_block : (ℕ → S) → ℕ → ℕ → Act S
  take_block f k zero = keeps
  take_block f k (suc n) = chain (takes k (f k)) (take_block f (suc k) n)

  -- the block is at home with these values
  abbrev pub IsHome : List (Option S) → (ℕ → S) → ℕ → ℕ → Type 0
  IsHome homes f k n = (j : ℕ) → k ≤ j → j < k + n → get_elem? homes j ≡ some (some (f j))

  pub block_valid : (homes : List (Option S)) (c : List (ℕ × S)) (f : ℕ → S) (k n : ℕ) → IsHome homes f k n → Valid homes c (take_block f k n)
  block_valid homes c f k zero h = tt
  block_valid homes c f k (suc n) h = (
    h k (omega arith) (omega arith),
    block_valid (set homes k none) ((
      k,
      f k,
    ) ∷ c) f (suc k) n (λ j l m. set_else homes k j none (λ e. omega arith) ∙ h j (omega arith) (omega arith)),
  )

  -- after it each other slot is as it was, and the block is out
  pub block_else : (homes : List (Option S)) (c : List (ℕ × S)) (f : ℕ → S) (k n j : ℕ) → (j < k) ⊎ (k + n ≤ j)
      → get_elem? (homes_after homes c (take_block f k n)) j ≡ get_elem? homes j
  block_else homes c f k zero j h = refl
  block_else homes c f k (suc n) j h =
      block_else (set homes k none) ((k, f k) ∷ c) f (suc k) n j (elim h [ inl a ↦ inl (omega arith) | inr b ↦ inr (omega arith) ])
      ∙ set_else homes k j none (λ e. elim h as (λ z. ⊥) [ inl a ↦ omega arith | inr b ↦ omega arith ])

  pub block_out : (homes : List (Option S)) (c : List (ℕ × S)) (f : ℕ → S) (k n j : ℕ) → k + n ≤ length homes → k ≤ j
      → j < k + n → get_elem? (homes_after homes c (take_block f k n)) j ≡ some none
  block_out homes c f k zero j room l m = absurd (omega arith)
  block_out homes c f k (suc n) j room l m = dite (ℕ_discrete j k)
      (λ e. block_else (set homes k none) ((k, f k) ∷ c) f (suc k) n j (inl (omega arith))
      ∙ (ap (λ x. get_elem? (set homes k none) x) e ∙ set_here homes k none (omega arith)))
      (λ ne. block_out (set homes k none) ((k, f k) ∷ c) f (suc k) n j (omega (arith, length-set homes k none)) (omega arith) (omega arith))

  -- the first n slots of the list are given back
  abbrev pub give_block : ℕ → Act S
  give_block zero = keeps
  give_block (suc n) = chain gives (give_block n)

  pub gives_valid : (homes : List (Option S)) (c : List (ℕ × S)) (n : ℕ) → Valid homes c (give_block n)
  gives_valid homes c zero = tt
  gives_valid homes c (suc n) = (tt, gives_valid (put_back homes c) (rest c) n)

  -- n slots are given back with their values
  pub given_else : (homes : List (Option S)) (c : List (ℕ × S)) (f : ℕ → S) (k n j : ℕ) → (j < k) ⊎ (k + n ≤ j)
      → get_elem? (homes_after homes (down_from f k n c) (give_block n)) j ≡ get_elem? homes j
  given_else homes c f k zero j h = refl
  given_else homes c f k (suc n) j h =
      given_else (set homes (k + n) (some (f (k + n)))) c f k n j (elim h [ inl a ↦ inl a | inr b ↦ inr (omega arith) ])
      ∙ set_else homes (k + n) j (some (f (k + n))) (λ e. elim h as (λ z. ⊥) [ inl a ↦ omega arith | inr b ↦ omega arith ])

  pub given_home : (homes : List (Option S)) (c : List (ℕ × S)) (f : ℕ → S) (k n j : ℕ) → k + n ≤ length homes → k ≤ j
      → j < k + n → get_elem? (homes_after homes (down_from f k n c) (give_block n)) j ≡ some (some (f j))
  given_home homes c f k zero j room l m = absurd (omega arith)
  given_home homes c f k (suc n) j room l m = dite (ℕ_discrete j (k + n))
      (λ e. given_else (set homes (k + n) (some (f (k + n)))) c f k n j (inr (omega arith))
      ∙ (ap (λ x. get_elem? (set homes (k + n) (some (f (k + n)))) x) e
      ∙ set_here homes (k + n) (some (f (k + n))) (omega arith) ∙ ap (λ x. some (some (f x))) (sym e)))
      (λ ne. given_home (set homes (k + n) (some (f (k + n)))) c f k n j (omega (arith, length-set homes (k + n) (some (f (k + n))))) l (omega arith))

  -- what lies below goes to the end
  pub down_snoc : (f : ℕ → S) (k n : ℕ) → down_from f (k + 1) n [] ++ (k, f k) ∷ [] ≡ down_from f k (suc n) []
  down_snoc f k zero = let e : k ≡ k + 0 = omega arith in ap (λ z. (z, f z) ∷ []) e
  down_snoc f k (suc n) = let e : k + 1 + n ≡ k + suc n = omega arith in λ i. (e i, f (e i)) ∷ down_snoc f k n i

  block_front_at : (f : ℕ → S) (k m : ℕ) (l tail : List (ℕ × S)) → l ≡ down_from f k (suc m) [] ++ tail → (x : S) × (l ≡ (k + m, x) ∷ rest l)
  block_front_at f k m l tail e = (f (k + m), e ∙ ap (λ z. (k + m, f (k + m)) ∷ z) (sym (ap rest e)))

  -- the front of the block, while some of it is left
  pub block_front : (f : ℕ → S) (k i : ℕ) (l tail : List (ℕ × S)) → i < 16 → l ≡ down_from f k (16 - i) [] ++ tail → (x : S) × (l ≡ (k + (15 - i), x) ∷ rest l)
  block_front f k i l tail less e = let n : 16 - i ≡ suc (15 - i) =
      omega arith in block_front_at f k (15 - i) l tail (e
      ∙ ap (λ z. down_from f k z [] ++ tail) n)

  rotates_at : (f g : ℕ → S) (k m i : ℕ) (l l' : List (ℕ × S)) → l ≡ down_from f k (suc m) [] ++ down_from g (k + suc m) i [] → l' ≡ (k + m, g (k + m)) ∷ rest l
      → turned l' ≡ down_from f k m [] ++ down_from g (k + m) (i + 1) []
  rotates_at f g k m i l l' e e' =
      let up : k + suc m ≡ k + m + 1 = omega arith in
      let more : suc i ≡ i + 1 = omega arith in
      ap turned e' ∙ (ap (λ z. z ++ (k + m, g (k + m)) ∷ []) (ap rest e)
      ∙ (append_assoc (down_from f k m []) (down_from g (k + suc m) i []) ((k + m, g (k + m)) ∷ [])
      ∙ ap (λ z. down_from f k m [] ++ z) (ap (λ z. down_from g z i [] ++ (k + m, g (k + m)) ∷ []) up
      ∙ (down_snoc g (k + m) i ∙ ap (λ z. down_from g (k + m) z []) more))))

  -- the slot at the front is written and goes behind the others
  pub rotates : (f g : ℕ → S) (k i : ℕ) (l l' : List (ℕ × S)) → i < 16
      → l ≡ down_from f k (16 - i) [] ++ down_from g (k + (16 - i)) i []
      → l' ≡ (k + (15 - i), g (k + (15 - i))) ∷ rest l
      → turned l' ≡ down_from f k (16 - (i + 1)) [] ++ down_from g (k + (16 - (i + 1))) (i + 1) []
  rotates f g k i l l' less e e' =
      let n : 16 - i ≡ suc (15 - i) = omega arith in
      let m : 15 - i ≡ 16 - (i + 1) = omega arith in
      subst (λ z. turned l' ≡ down_from f k z [] ++ down_from g (k + z) (i + 1) []) m
      (rotates_at f g k (15 - i) i l l' (e ∙ ap (λ z. down_from f k z [] ++ down_from g (k + z) i []) n) e')

  pub rotated : (f g : ℕ → S) (k i : ℕ) (l : List (ℕ × S)) → i ≡ 16 → l ≡ down_from f k (16 - i) [] ++ down_from g (k + (16 - i)) i [] → l ≡ down_from g k 16 []
  rotated f g k i l is e = let z : k + 0 ≡ k =
      omega arith in e ∙ (ap (λ n. down_from f k (16 - n) []
      ++ down_from g (k + (16 - n)) n []) is ∙ ap (λ n. down_from g n 16 []) z)

  -- a block that is taken lies with its last slot at the front
  down_tail : (f : ℕ → S) (k n : ℕ) (c : List (ℕ × S)) → down_from f (suc k) n ((k, f k) ∷ c) ≡ (k + n, f (k + n)) ∷ down_from f k n c
  down_tail f k zero c = let e : k ≡ k + 0 = omega arith in ap (λ z. (z, f z) ∷ c) e
  down_tail f k (suc n) c = let e : suc k + n ≡ k + suc n = omega arith in λ i. (e i, f (e i)) ∷ down_tail f k n c i

  pub carried_down : (f : ℕ → S) (k n : ℕ) (c : List (ℕ × S)) → carried_after c (take_block f k n) ≡ down_from f k n c
  carried_down f k zero c = refl
  carried_down f k (suc n) c = carried_down f (suc k) n ((k, f k) ∷ c) ∙ down_tail f k n c

  -- and what lay before the block is left once it was given back
  pub given_rest : (f : ℕ → S) (k n : ℕ) (c : List (ℕ × S)) → carried_after (down_from f k n c) (give_block n) ≡ c
  given_rest f k zero c = refl
  given_rest f k (suc n) c = given_rest f k n c
