-- Where the slots are after a step.
use Rattle.reasoning.proofs.ListLemmas.{slice_get-set_same, slice_get-set_other}
use Rattle.image_layout.specs.Image.{ImageValue}
use Rattle.std.proofs.Common.{◌≡◌, ◌≢◌, ℕ, ◌+◌, ◌*◌, ◌<◌, ◌≤◌, ◌⊎◌, List, length, set, Option, Some, slice_get, ap, sym}
use Rattle.std.proofs.Common.{◌∙◌, subst, arith, inl, inr, lt_of_not-le}
use Rattle.std.proofs.lemmas.Option.{slice_get_within}
use mathlib.Core.Logic.{dite}
use mathlib.Core.Option.{Option as Maybe, some}
use mathlib.Core.List.{IsPrefix}
use native.Mathlib.Decide.{ℕ_discrete, dec_le}
use lib.ListN.{get_elem?}
use Rattle.atomic_table.proofs.Lists.{set_here, set_else}
use Rattle.version_core.specs.declared.state.Shelf.{Shelf}
use Rattle.version_core.specs.declared.state.Worker.{Worker}
use Rattle.version_core.specs.Invariants.{version_of}
use Rattle.shelf_steps.specs.declared.edition.Edition.{Edition}
use Rattle.shelf_steps.specs.Slots.{Slot, IsFilled, IsSpare, SlotFits, SlotsFit, held_by}
use Rattle.shelf_steps.proofs.Courses.{edition_later, prefix_same}

filled_on : (images more : List ImageValue) (workers ws : List Worker) (k u v : ℕ) (slot : Slot) → IsPrefix images more
    → (slice_get workers u ≡ Some (Worker.Holding k v) → slice_get ws u ≡ Some (Worker.Holding k v))
    → (slice_get ws u ≡ Some (Worker.Holding k v) → slice_get workers u ≡ Some (Worker.Holding k v))
    → IsFilled images (slice_get workers u) k v slot → IsFilled more (slice_get ws u) k v slot
filled_on images more workers ws k u v slot p holds held f = elim f as (λ _. IsFilled more (slice_get ws u) k v slot) [
  | inl a ↦ inl (a.0, a.1, edition_later images more v a.0 p a.2, (λ h. a.3 (held h)))
  | inr b ↦ inr (b.0, holds b.1)
]

spare_on : (hand hand' : Option ℕ) (k : ℕ) (slot : Slot) → (hand ≡ Some k → hand' ≡ Some k)
    → (hand' ≡ Some k → hand ≡ Some k) → IsSpare hand k slot → IsSpare hand' k slot
spare_on hand hand' k slot to from f = elim f as (λ _. IsSpare hand' k slot) [ inl a ↦ inl ((λ e. a.0 (from e)), a.1) | inr b ↦ inr (to b.0, b.1) ]

-- a slot of a shelf with a version is filled, and the loader has none of that shelf in its hand
pub slot_filled : (images : List ImageValue) (workers : List Worker) (hand : Option ℕ) (x : Shelf) (k u v : ℕ) (slot : Slot)
    → version_of x ≡ Some v → SlotFits (held_by images workers hand) x k u slot → (hand ≢ Some k) × IsFilled images (slice_get workers u) k v slot
slot_filled images workers hand Shelf.Free k u v slot e f = absurd (cc)
slot_filled images workers hand (Shelf.Open x) k u v slot e f =
    let same : x ≡ v = cc in (f.0, subst (λ n. IsFilled images (slice_get workers u) k n slot) same f.1)
slot_filled images workers hand (Shelf.Closing x) k u v slot e f =
    let same : x ≡ v = cc in (f.0, subst (λ n. IsFilled images (slice_get workers u) k n slot) same f.1)

pub filled_fits : (images : List ImageValue) (workers : List Worker) (hand : Option ℕ) (x : Shelf) (k u v : ℕ) (slot : Slot)
    → version_of x ≡ Some v → hand ≢ Some k → IsFilled images (slice_get workers u) k v slot → SlotFits (held_by images workers hand) x k u slot
filled_fits images workers hand Shelf.Free k u v slot e away f = absurd (cc)
filled_fits images workers hand (Shelf.Open x) k u v slot e away f =
    let same : v ≡ x = cc in (away, subst (λ n. IsFilled images (slice_get workers u) k n slot) same f)
filled_fits images workers hand (Shelf.Closing x) k u v slot e away f =
    let same : v ≡ x = cc in (away, subst (λ n. IsFilled images (slice_get workers u) k n slot) same f)

-- a slot that stays where it is
pub slot_on : (images more : List ImageValue) (workers ws : List Worker) (hand hand' : Option ℕ) (x : Shelf) (k u : ℕ) (slot : Slot)
    → IsPrefix images more
    → ((v : ℕ) → slice_get workers u ≡ Some (Worker.Holding k v) → slice_get ws u ≡ Some (Worker.Holding k v))
    → ((v : ℕ) → slice_get ws u ≡ Some (Worker.Holding k v) → slice_get workers u ≡ Some (Worker.Holding k v))
    → (hand ≡ Some k → hand' ≡ Some k) → (hand' ≡ Some k → hand ≡ Some k) → SlotFits (held_by images workers hand) x k u slot
    → SlotFits (held_by more ws hand') x k u slot
slot_on images more workers ws hand hand' Shelf.Free k u slot p holds held to from f = spare_on hand hand' k slot to from f
slot_on images more workers ws hand hand' (Shelf.Open v) k u slot p holds held to from f =
    ((λ q. f.0 (from q)), filled_on images more workers ws k u v slot p (holds v) (held v) f.1)
slot_on images more workers ws hand hand' (Shelf.Closing v) k u slot p holds held to from f =
    ((λ q. f.0 (from q)), filled_on images more workers ws k u v slot p (holds v) (held v) f.1)

-- who held something else, or nothing, was not this worker
still_holds : (workers : List Worker) (w u k v : ℕ) (was now : Worker) → slice_get workers w ≡ Some was
    → was ≢ Worker.Holding k v → slice_get workers u ≡ Some (Worker.Holding k v)
    → slice_get (set workers w now) u ≡ Some (Worker.Holding k v)
still_holds workers w u k v was now is other holds =
    slice_get-set_other workers w u now (λ e. let z : Some was ≡ Some (Worker.Holding k v) =
    sym is ∙ (ap (λ n. slice_get workers n) (sym e) ∙ holds) in
    other (cc)) ∙ holds

-- who holds the shelf after a worker has come to do something else held it before
held_before : (workers : List Worker) (w u k v : ℕ) (was now : Worker) → slice_get workers w ≡ Some was
    → now ≢ Worker.Holding k v → slice_get (set workers w now) u ≡ Some (Worker.Holding k v)
    → slice_get workers u ≡ Some (Worker.Holding k v)
held_before workers w u k v was now is other holds =
    dite (ℕ_discrete u w)
    (λ e. let here : slice_get (set workers w now) w ≡ Some now = slice_get-set_same workers w now (slice_get_within workers w was is) in
    let z : Some now ≡ Some (Worker.Holding k v) = sym here ∙ (ap (λ n. slice_get (set workers w now) n) (sym e) ∙ holds) in
    absurd (other (cc)))
    (λ ne. sym (slice_get-set_other workers w u now ne) ∙ holds)

-- a worker that holds nothing does something else than holding, and no slot is moved
pub slots_worker : (homes : List (Maybe (Option Edition))) (shelves : List Shelf) (workers : List Worker)
    (images : List ImageValue) (hand : Option ℕ) (w : ℕ) (was now : Worker)
    → slice_get workers w ≡ Some was → ((k v : ℕ) → was ≢ Worker.Holding k v) → ((k v : ℕ) → now ≢ Worker.Holding k v)
    → SlotsFit homes shelves workers images hand → SlotsFit homes shelves (set workers w now) images hand
slots_worker homes shelves workers images hand w was now is no_shelf none fit k u x at small =
    slot_on images images workers (set workers w now) hand hand x k u (get_elem? homes (16 * k + u))
    (prefix_same images) (λ v h. still_holds workers w u k v was now is (no_shelf k v) h)
    (λ v h. held_before workers w u k v was now is (none k v) h) (λ e. e) (λ e. e)
    (fit k u x at small)

-- a worker takes or gives back its slot of the shelf k
pub slots_one : (homes : List (Maybe (Option Edition))) (shelves : List Shelf) (workers : List Worker)
    (images : List ImageValue) (hand : Option ℕ) (k w : ℕ) (was now : Worker) (y : Shelf)
    (value : Maybe (Option Edition))
    → slice_get workers w ≡ Some was → ((j v : ℕ) → j ≢ k → was ≢ Worker.Holding j v)
    → ((j v : ℕ) → j ≢ k → now ≢ Worker.Holding j v)
    → slice_get shelves k ≡ Some y → w < 16 → 16 * k + w < length homes
    → SlotFits (held_by images (set workers w now) hand) y k w (some value) → SlotsFit homes shelves workers images hand
    → SlotsFit (set homes (16 * k + w) value) shelves (set workers w now) images hand
slots_one homes shelves workers images hand k w was now y value is here_alone there_alone at less room here fit j u x at' small =
    let P : ℕ → ℕ → Shelf → Type 0 =
    λ j u x. SlotFits (held_by images (set workers w now) hand) x j u (get_elem? (set homes (16 * k + w) value) (16 * j + u)) in
    dite (ℕ_discrete j k)
    (λ e. dite (ℕ_discrete u w)
    (λ d. let z : Some y ≡ Some x = sym at ∙ (ap (λ n. slice_get shelves n) (sym e) ∙ at') in let same : y ≡ x = cc in
    subst (λ n. P n u x) (sym e) (subst (λ n. P k n x) (sym d) (subst (λ q. P k w q) same
    (subst (λ (slot : Slot). SlotFits (held_by images (set workers w now) hand) y k w slot) (sym (set_here homes (16 * k + w) value room)) here))))
    (λ nd. subst (λ (slot : Slot). SlotFits (held_by images (set workers w now) hand) x j u slot)
    (sym (set_else homes (16 * k + w) (16 * j + u) value (λ q. nd (omega arith))))
    (slot_on images images workers (set workers w now) hand hand x j u (get_elem? homes (16 * j + u))
    (prefix_same images) (λ v h. slice_get-set_other workers w u now nd ∙ h)
    (λ v h. sym (slice_get-set_other workers w u now nd) ∙ h) (λ q. q) (λ q. q) (fit j u x at' small))))
    (λ ne. subst (λ (slot : Slot). SlotFits (held_by images (set workers w now) hand) x j u slot)
    (sym (set_else homes (16 * k + w) (16 * j + u) value (λ q. ne (omega arith))))
    (slot_on images images workers (set workers w now) hand hand x j u (get_elem? homes (16 * j + u))
    (prefix_same images) (λ v h. still_holds workers w u j v was now is (here_alone j v ne) h)
    (λ v h. held_before workers w u j v was now is (there_alone j v ne) h) (λ q. q) (λ q. q)
    (fit j u x at' small)))

-- the sixteen slots of the shelf k change, and no others
pub slots_block : (homes homes' : List (Maybe (Option Edition))) (shelves shelves' : List Shelf) (workers : List Worker)
    (images more : List ImageValue) (hand hand' : Option ℕ) (k : ℕ) (y : Shelf)
    → slice_get shelves' k ≡ Some y → ((j : ℕ) → j ≢ k → slice_get shelves' j ≡ slice_get shelves j)
    → ((i : ℕ) → (i < 16 * k) ⊎ (16 * k + 16 ≤ i) → get_elem? homes' i ≡ get_elem? homes i) → IsPrefix images more
    → ((j : ℕ) → j ≢ k → hand ≡ Some j → hand' ≡ Some j) → ((j : ℕ) → j ≢ k → hand' ≡ Some j → hand ≡ Some j)
    → ((u : ℕ) → u < 16 → SlotFits (held_by more workers hand') y k u (get_elem? homes' (16 * k + u)))
    → SlotsFit homes shelves workers images hand → SlotsFit homes' shelves' workers more hand'
slots_block homes homes' shelves shelves' workers images more hand hand' k y at others else p to from here fit j u x at' small =
    dite (ℕ_discrete j k)
    (λ e. let z : Some y ≡ Some x = sym at ∙ (ap (λ n. slice_get shelves' n) (sym e) ∙ at') in let same : y ≡ x = cc in
    subst (λ n. SlotFits (held_by more workers hand') x n u (get_elem? homes' (16 * n + u))) (sym e)
    (subst (λ q. SlotFits (held_by more workers hand') q k u (get_elem? homes' (16 * k + u))) same (here u small)))
    (λ ne. subst (λ (slot : Slot). SlotFits (held_by more workers hand') x j u slot) (sym (else (16 * j + u) (outside j k u small ne)))
    (slot_on images more workers workers hand hand' x j u (get_elem? homes (16 * j + u)) p (λ v h. h) (λ v h. h) (to j ne)
    (from j ne) (fit j u x (sym (others j ne) ∙ at') small)))
  where
    outside : (j k u : ℕ) → u < 16 → j ≢ k → (16 * j + u < 16 * k) ⊎ (16 * k + 16 ≤ 16 * j + u)
    outside j k u small ne = dite (dec_le k j) (λ le. inr (omega arith)) (λ not. let l : j < k = lt_of_not-le not in inl (omega arith))
