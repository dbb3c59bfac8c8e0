-- Bytes spell at most one list of words.
use Rattle.std.proofs.Common.{◌≡◌, ℕ, ◌*◌, ◌<◌, ◌≤◌, ◌^◌, List, [], length, get_or, drop, sym, ap, ◌∙◌, arith, refl, inl, inr}
use Rattle.std.specs.Prelude.{All}
use Rattle.std.proofs.lemmas.Bool.{cases_lt}
use Rattle.std.proofs.lemmas.List.{take_all, drop_all, get_or_past}
use Rattle.image_layout.specs.Text.{bytes_of}
use Rattle.image_layout.specs.Spelling.{text_words}
use Rattle.image_layout.proofs.Whole.{text_words_again, length-bytes_of}

-- words are those that their own bytes spell
spelled_again : (v : List ℕ) → All (λ x. x < 2 ^ 32) v → text_words (bytes_of v) ≡ v
spelled_again v small =
    let size = 4 * length v in
    let long : length (bytes_of v) ≤ size = omega (arith, length-bytes_of v) in
    let each : (i : ℕ) → get_or v i 0 < 2 ^ 32 =
    λ i. elim (cases_lt i (length v)) [
      | inl lt ↦ small i 0 lt
      | inr ge ↦
          rw (get_or_past v i 0 ge) (omega arith)
    ] in
    let none : drop size (bytes_of v) ≡ [] = drop_all size (bytes_of v) long in
    ap text_words (sym (take_all size (bytes_of v) long))
    ∙ text_words_again v size each (omega arith) (rw none refl)

pub same_words : (v w : List ℕ) → All (λ x. x < 2 ^ 32) v → All (λ x. x < 2 ^ 32) w → bytes_of v ≡ bytes_of w → v ≡ w
same_words v w small_v small_w same = sym (spelled_again v small_v) ∙ ap text_words same ∙ spelled_again w small_w
