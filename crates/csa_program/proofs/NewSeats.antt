-- Seats of workers that have done nothing.
use Rattle.std.proofs.Common.{◌≡◌, ◌<◌, ◌≤◌, ◌∙◌, ℕ, zero, suc, List, [], ◌∷◌, arith, length, refl, slice_get, subst, sym, take}
use Rattle.std.proofs.lemmas.List.{length-take-le}
use Rattle.atomic_table.specs.Seated.{TableId}
use Rattle.shelves.specs.ShelfSeats.{ShelfSeatValue, SeatsHanded}

-- what stands at a place of the first so many
at_take : {X : Type 0} (xs : List X) (k j : ℕ) → j < k → slice_get (take k xs) j ≡ slice_get xs j
at_take [] zero j small = refl
at_take [] (suc k) j small = refl
at_take (x ∷ xs) zero j small = absurd (omega (arith, small))
at_take (x ∷ xs) (suc k) zero small = refl
at_take (x ∷ xs) (suc k) (suc j) small = at_take xs k j (omega (arith, small))

-- the first so many of the seats
pub fewer_seats : (table : TableId) (n k : ℕ) (seats fewer : List ShelfSeatValue) → k ≤ n → SeatsHanded table n seats
    → fewer ≡ take k seats → SeatsHanded table k fewer
fewer_seats table n k seats fewer few handed same =
    let all = handed.0 in
    let some : SeatsHanded table k (take k seats) = (
      length-take-le k seats (omega (arith, few, all)),
      λ j small. at_take seats k j small ∙ handed.1 j (omega (arith, small, few)),
    ) in
    subst (SeatsHanded table k) (sym same) some

-- as many were handed out as there are
pub all_handed : (table : TableId) (n : ℕ) (seats : List ShelfSeatValue) → SeatsHanded table n seats → SeatsHanded table (length seats) seats
all_handed table n seats handed = subst (λ k. SeatsHanded table k seats) (sym handed.0) handed
