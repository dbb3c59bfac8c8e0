-- Seats that are handed out.
use Rattle.std.proofs.Common.{◌≡◌, ℕ, ◌+◌, List, [], ◌∷◌, ◌++◌, length, Some, slice_get, ap, sym, ◌∙◌, arith, length-append}
use Rattle.std.specs.List.{All}
use Rattle.atomic_table.specs.Seated.{TableId}
use mathlib.Core.Logic.{dite}
use native.Mathlib.Decide.{ℕ_discrete}
use Rattle.std.proofs.lemmas.Option.{get_or_from_slice_get}
use Rattle.reasoning.proofs.ListLemmas.{slice_get-append, slice_get-last}
use Rattle.shelves.specs.ShelfSeats.{ShelfSeatValue, SeatsHanded, new_seat}

-- one more seat is handed out
pub one_more_seat : (table : TableId) (n : ℕ) (seats more : List ShelfSeatValue) (seat : ShelfSeatValue)
    → SeatsHanded table n seats → more ≡ seats ++ seat ∷ [] → seat ≡ new_seat table n → SeatsHanded table (n + 1) more
one_more_seat table n seats more seat handed added new = (
  ap (λ (l : List ShelfSeatValue). length l) added ∙ (length-append seats (seat ∷ []) ∙ ap (λ m. m + 1) handed.0),
  λ j less. dite (ℕ_discrete j n)
      (λ e. ap (λ (l : List ShelfSeatValue). slice_get l j) added
      ∙ (ap (λ m. slice_get (seats ++ seat ∷ []) m) (e ∙ sym handed.0)
      ∙ (slice_get-last seats seat ∙ ap (λ (x : ShelfSeatValue). Some x) (new
      ∙ ap (λ m. new_seat table m) (sym e)))))
      (λ ne. ap (λ (l : List ShelfSeatValue). slice_get l j) added ∙ slice_get-append seats (seat ∷ []) j (new_seat table j) (handed.1 j (omega arith))),
)

-- seats that were handed out are seats of that table
pub handed_fit : (table : TableId) (n : ℕ) (seats : List ShelfSeatValue) → SeatsHanded table n seats → All (λ (seat : ShelfSeatValue). seat.table ≡ table) seats
handed_fit table n seats handed k d less =
    ap (λ (seat : ShelfSeatValue). seat.table) (get_or_from_slice_get seats k (new_seat table k) d (handed.1 k (let e = handed.0 in omega arith)))
