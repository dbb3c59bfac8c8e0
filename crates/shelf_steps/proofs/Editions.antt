-- Editions side by side.
use Rattle.reasoning.proofs.ListLemmas.{slice_get-append, slice_get-last, slice_get-middle}
use Rattle.image_layout.specs.Image.{ImageValue}
use Rattle.std.proofs.Common.{◌≡◌, ℕ, ◌+◌, ◌-◌, ◌*◌, List, [], ◌∷◌, ◌++◌, length, length-append, Some, slice_get, ap, sym, ◌∙◌, arith, append_assoc}
use Rattle.std.specs.Arc.{arc_value}
use mathlib.Core.Logic.{dite}
use native.Mathlib.Decide.{ℕ_discrete}
use Rattle.shelf_steps.specs.declared.edition.Edition.{Edition}
use Rattle.shelf_steps.specs.Plays.{AllHave}
use Rattle.shelf_steps.specs.Blocks.{laid, EachHas}

pub laid_at : (items new rest : List Edition) (e : Edition) (first n : ℕ) → new ++ e ∷ rest ≡ items → length new ≡ n → laid items first (first + n) ≡ Some e
laid_at items new rest e first n is long =
    let z : first + n - first ≡ n = omega arith in
    ap (λ m. slice_get items m) (z ∙ sym long) ∙ (ap (λ (l : List Edition). slice_get l (length new)) (sym is) ∙ slice_get-middle new e rest)

pub one_popped : (items old new rest : List Edition) (e : Edition) → old ++ rest ≡ items → old ≡ new ++ e ∷ [] → new ++ e ∷ rest ≡ items
one_popped items old new rest e all is = sym (append_assoc new (e ∷ []) rest) ∙ (ap (λ (l : List Edition). l ++ rest) (sym is) ∙ all)

pub each_grows : (version : ℕ) (image : ImageValue) (n : ℕ) (items : List Edition) (e : Edition)
    → EachHas version image n items → e.version ≡ version → arc_value e.image ≡ image
    → EachHas version image (n + 1) (items ++ e ∷ [])
each_grows version image n items e all is its = (
  (let long = length-append items (e ∷ []) in let many = all.0 in omega arith),
  λ j less. dite (ℕ_discrete j n)
      (λ q. (e, ap (λ m. slice_get (items ++ e ∷ []) m) (q ∙ sym all.0) ∙ slice_get-last items e, is, its))
      (λ ne. let h = all.1 j (omega arith) in (h.0, slice_get-append items (e ∷ []) j h.0 h.1, h.2, h.3)),
)

-- sixteen editions, laid from the first slot of a shelf on
pub laid_have : (version : ℕ) (image : ImageValue) (items : List Edition) (k : ℕ) → EachHas version image 16 items
    → AllHave version image k (laid items (16 * k))
laid_have version image items k all j from to =
    let h = all.1 (j - 16 * k) (omega arith) in (h.0, h.1, h.2, h.3)
