use Rattle.std.proofs.Common.{◌≡◌, ℕ, ◌<◌, ◌^◌, List, None, sym, subst, ◌∙◌, inl, inr}
use Rattle.std.specs.Prelude.{slice_index}
use Rattle.reasoning.proofs.OptionLemmas.{some-none}
use Rattle.image_verifier.specs.declared.fault.ImageFault.{ImageFault}
use Rattle.image_verifier.specs.declared.fault.ImageFault.TheVariants.{OutOfMemory}
use Rattle.image_verifier.specs.FirstFault.{first_fault, Tells}
use Rattle.image_verifier.specs.Accepted.{IsAccepted}
use Rattle.image_verifier.proofs.ImageLemmas.{IsImage-from}
use Rattle.image_verifier.proofs.OnlyLemmas.{image_is_faultless}
use Rattle.image_verifier.proofs.verified.verify.Goals as goal

pub returns-in-Ok-clause-shown : goal.returns-in-Ok-clause-shown
returns-in-Ok-clause-shown c = IsImage-from c.args.words.items (subst (λ (w : List ℕ). IsAccepted w) c.deref.ensures.value c.in-Ok.ensures.judged)

-- where nothing is first, the error is want of memory
tells_memory : (w : List ℕ) (f : ImageFault) → Tells w f → first_fault w ≡ None → f ≡ OutOfMemory
tells_memory w f fact none = elim fact [ inl first ↦ absurd (some-none f (sym first ∙ none)) | inr memory ↦ memory.0 ]

pub returns-in-Err-clause-every_image : goal.returns-in-Err-clause-every_image
returns-in-Err-clause-every_image c = λ p n is_image.
    let w = c.args.words.items in
    let fits : (i : ℕ) → slice_index w i < 2 ^ 32 = subst (λ (x : List ℕ). (i : ℕ) → slice_index x i < 2 ^ 32) c.deref.ensures.value c.in-Err.ensures.fits in
    let fact : Tells w c.in-Err.fault = subst (λ (x : List ℕ). Tells x c.in-Err.fault) c.deref.ensures.value c.in-Err.ensures.judged in
    tells_memory w c.in-Err.fault fact (image_is_faultless w p n fits is_image)
