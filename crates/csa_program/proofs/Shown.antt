-- What is shown of bytes that are cut, and of bytes that are shown as they are.
use Rattle.std.proofs.Common.{◌≡◌, ◌++◌, ◌==◌, ◌≤◌, ◌∙◌, ◌∷◌, [], ℕ, Bool, Err, IfOk, List, Ok, Option, Result, ap, arith, false, if◌then◌else◌}
use Rattle.std.proofs.Common.{length, length-take-le, refl, subst, suc, sym, take, take-take, true, zero}
use Rattle.std.specs.Io.{WritesAtMost}
use Rattle.std.specs.Io.KnownBytes.{Appends, WriteAppends}
use Rattle.std.specs.declared.io.Error.{Error}
use Rattle.std.proofs.lemmas.List.{append_assoc}
use Rattle.csa_program.specs.Showing.{IsPlain, byte_text, is_held_after, is_low, shown_text}

pub shown_of_two : (held : Bool) (first second : List ℕ)
    → shown_text held (first ++ second) ≡ shown_text held first ++ shown_text (is_held_after held first) second
shown_of_two held [] second = refl
shown_of_two held (byte ∷ rest) second =
    ap (λ after. byte_text held byte ++ after) (shown_of_two (byte == 194) rest second)
    ∙ sym (append_assoc (byte_text held byte) (shown_text (byte == 194) rest) (shown_text (is_held_after (byte == 194) rest) second))

pub held_of_two : (held : Bool) (first second : List ℕ) → is_held_after held (first ++ second) ≡ is_held_after (is_held_after held first) second
held_of_two held [] second = refl
held_of_two held (byte ∷ rest) second = held_of_two (byte == 194) rest second

-- a byte that is shown as it is is no control character of one byte, and isn't held back
neither : (low lead : Bool) → (if low then false else (if lead then false else true)) ≡ true → (low ≡ false) × (lead ≡ false)
neither false false is = (refl, refl)
neither false true is = absurd (cc is)
neither true lead is = absurd (cc is)

one_text : (low lead : Bool) (escaped alone : List ℕ) → low ≡ false → lead ≡ false
    → (if low then escaped else (if lead then [] else alone)) ≡ alone
one_text false false escaped alone not_low not_lead = refl
one_text false true escaped alone not_low not_lead = absurd (cc not_lead)
one_text true lead escaped alone not_low not_lead = absurd (cc not_low)

pub plain_shown : (bytes : List ℕ) (count n : ℕ) → IsPlain bytes count → n ≤ count
    → (shown_text false (take n bytes) ≡ take n bytes) × (is_held_after false (take n bytes) ≡ false)
plain_shown [] count zero plain le = (refl, refl)
plain_shown [] count (suc n) plain le = (refl, refl)
plain_shown (byte ∷ rest) count zero plain le = (refl, refl)
plain_shown (byte ∷ rest) zero (suc n) plain le = absurd (omega (arith, le))
plain_shown (byte ∷ rest) (suc count) (suc n) plain le =
    let (low, lead) = neither (is_low byte) (byte == 194) (plain 0 (omega arith)) in
    let (text, held) = plain_shown rest count n (λ i lt. plain (suc i) (omega (arith, lt))) (omega (arith, le)) in (
      ap (λ shown. shown ++ shown_text (byte == 194) (take n rest)) (one_text (is_low byte) (byte == 194) _ (byte ∷ []) low lead)
          ∙ ap (λ is. byte ∷ shown_text is (take n rest)) lead ∙ ap (λ after. byte ∷ after) text,
      ap (λ is. is_held_after is (take n rest)) lead ∙ held,
    )

-- a write of the first bytes, which are shown as they are
pub plain_written : (bytes : List ℕ) (count : ℕ) (result : Result ℕ Error) (before after : Option (List ℕ)) → IsPlain bytes count → count ≤ length bytes
    → WritesAtMost result (take count bytes) → WriteAppends before after result (take count bytes)
    → IfOk result (λ n. Appends before after (shown_text false (take n bytes)) × (is_held_after false (take n bytes) ≡ false))
plain_written bytes count (Ok n) before after plain le most appends =
    let within : n ≤ count = subst (λ len. n ≤ len) (length-take-le count bytes le) most in
    let (text, held) = plain_shown bytes count n plain within in
    (subst (Appends before after) (take-take n count bytes within ∙ sym text) appends, held)
plain_written bytes count (Err error) before after plain le most appends = tt
