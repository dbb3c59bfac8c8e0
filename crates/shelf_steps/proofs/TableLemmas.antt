-- What a step on a shelf's word requires of the table, and what it says of that table.
use Rattle.std.proofs.Common.{◌≡◌, ℕ, ◌+◌, ◌<◌, arith, ap, sym, ◌∙◌, subst}
use Rattle.atomic_table.specs.Seated.{TableId}
use Rattle.shelf_steps.specs.Plays.{SeatAndSlots, TableSeatValue}

-- the seat is at the table, the word is one of its nine, and what follows from what the place may do follows from what its seat may
pub at_word : (inside outside : TableSeatValue) (inner table : TableId) (shelf : ℕ) (May : TableSeatValue
    → Type 0) (Then : Type 0) → inside ≡ outside → outside.table ≡ table → inner ≡ table → inner.words ≡ 9 → shelf < 8
    → May outside → (May inside → Then) → (inside.table ≡ inner) × (shelf + 1 < inner.words) × Then
at_word inside outside inner table shelf May Then is at same nine small may then =
    (ap (λ (p : TableSeatValue). p.table) is ∙ (at ∙ sym same), omega arith, then (subst May (sym is) may))

-- what was done at the word was done at its shelf
pub at_shelf : (inside outside : TableSeatValue) (shelf : ℕ) (Does : ℕ → SeatAndSlots → SeatAndSlots → Type 0) (m' : SeatAndSlots) → inside ≡ outside
    → ((k : ℕ) × (shelf + 1 ≡ k + 1) × Does k inside.me m') → Does shelf outside.me m'
at_shelf inside outside shelf Does m' is h =
    let e = h.1 in let same : h.0 ≡ shelf = omega arith in
    subst (λ (p : TableSeatValue). Does shelf p.me m') is (subst (λ k. Does k inside.me m') same h.2)
