-- What seats hold stays what was published.
use Rattle.std.proofs.Common.{◌≡◌, ℕ, List, ◌∷◌, [], Some, ap, sym, ◌∙◌, inl, inr}
use Rattle.image_layout.specs.Image.{ImageValue}
use Rattle.epochs.specs.WorkerSeats.{WorkerSeatValue}
use Rattle.epochs.specs.Pins.{PinsCurrent}
use Rattle.epochs.specs.History.{TableValue, image_of}
use Rattle.epochs.specs.TableLaws.{HoldsPublished, TableCall}
use Rattle.shelf_steps.proofs.Loads.{image_of-append}

same_images : (before after : List ImageValue) (seat : WorkerSeatValue) → after ≡ before → HoldsPublished before seat → HoldsPublished after seat
same_images before after seat same h version image held = ap (λ l. image_of l version) same ∙ h version image held

pub pins_hold_published : (a b : TableValue) (seat after : WorkerSeatValue) → PinsCurrent a seat b after → HoldsPublished b.images after
pins_hold_published a b seat after h version image held =
    let both : Some (a.state.current, h.held.0) ≡ Some (version, image) = sym h.held.2 ∙ held in
    let pair : (a.state.current, h.held.0) ≡ (version, image) = cc in
    let number : version ≡ a.state.current = sym (ap (λ (p : ℕ × ImageValue). p.0) pair) in
    let shown : h.held.0 ≡ image = ap (λ (p : ℕ × ImageValue). p.1) pair in
    ap (λ l. image_of l version) h.taken.images ∙ (ap (λ n. image_of a.images n) number ∙ (h.held.1 ∙ ap (λ i. Some i) shown))

pub calls_keep_published : (a b : TableValue) (seat : WorkerSeatValue) → TableCall a b → HoldsPublished a.images seat → HoldsPublished b.images seat
calls_keep_published a b seat (inl pin) before v image is = same_images a.images b.images seat pin.2.taken.images before v image is
calls_keep_published a b seat (inr (inl release)) before v image is = same_images a.images b.images seat release.2.dropped.images before v image is
calls_keep_published a b seat (inr (inr (inl publish))) before v image is =
    ap (λ l. image_of l v) publish.2.images ∙ image_of-append a.images (publish.0 ∷ []) v image (before v image is)
calls_keep_published a b seat (inr (inr (inr collect))) before v image is = same_images a.images b.images seat collect.1.images before v image is
