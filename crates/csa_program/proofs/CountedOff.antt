-- Clients are counted off.
use Rattle.std.proofs.Common.{◌≡◌, ◌≤◌, ◌+◌, ◌-◌, ◌^◌, ◌∙◌, ◌⊎◌, ℕ, Bool, true, false, List, [], ◌∷◌, ◌++◌}
use Rattle.std.proofs.Common.{arith, ap, inl, inr, length, min, sym, subst, true≢false}
use Rattle.std.proofs.lemmas.List.{length-append}
use Rattle.csa_program.specs.Acceptor.{AreCountedOff, AreNumbered}
use Rattle.workers.specs.Ends.{capped}

-- one more has the next number
numbered_also : (earlier : ℕ) (numbers : List ℕ) (number : ℕ) → AreNumbered earlier numbers → number ≡ capped (earlier + length numbers + 1)
    → AreNumbered earlier (numbers ++ number ∷ [])
numbered_also earlier [] number were is = (is ∙ ap (λ n. capped (n + 1)) (omega arith), tt)
numbered_also earlier (first ∷ numbers) number were is =
    let same : earlier + length (first ∷ numbers) + 1 ≡ earlier + 1 + length numbers + 1 = omega arith in
    (were.0, numbered_also (earlier + 1) numbers number were.1 (is ∙ ap capped same))

-- the number behind a greatest one is the greatest
next_capped : (accepted count next : ℕ) → accepted ≡ capped count → next ≡ min (accepted + 1) (2 ^ 64 - 1) → next ≡ capped (count + 1)
next_capped accepted count next is more = omega (arith, is, more)

one_less : (wanted left left_then count count_then : ℕ) (is_endless : Bool) → is_endless ≡ false → (is_endless ≡ true) ⊎ (left_then + 1 ≡ left)
    → count_then ≡ count + 1 → left_then + count_then ≡ left + count
one_less wanted left left_then count count_then is_endless bounded (inl endless) more = absurd (true≢false (sym endless ∙ bounded))
one_less wanted left left_then count count_then is_endless bounded (inr less) more = omega (arith, less, more)

-- one more came, and one is left less, if there is an end to them
pub counted_next : (wanted left left_then accepted accepted_then : ℕ) (is_endless is_endless_then failed failed_then : Bool)
    (numbers numbers_then : List ℕ) (number : ℕ)
    → is_endless_then ≡ is_endless → failed_then ≡ failed → (is_endless ≡ true) ⊎ (left_then + 1 ≡ left)
    → accepted_then ≡ min (accepted + 1) (2 ^ 64 - 1) → number ≡ accepted_then → numbers_then ≡ numbers ++ number ∷ []
    → AreCountedOff wanted left accepted is_endless failed numbers
    → AreCountedOff wanted left_then accepted_then is_endless_then failed_then numbers_then
counted_next wanted left left_then accepted accepted_then is_endless is_endless_then failed failed_then numbers numbers_then number
    same whole less more is grown was =
    let next : accepted_then ≡ capped (length numbers + 1) = next_capped accepted (length numbers) accepted_then was.accepted_are more in
    let longer : length numbers_then ≡ length numbers + 1 = ap length grown ∙ length-append numbers (number ∷ []) in
    let behind : length numbers + 1 ≡ 0 + length numbers + 1 = omega arith in
    let many = one_less wanted left left_then (length numbers) (length numbers_then) is_endless in
    record {
      numbered = subst (AreNumbered 0) (sym grown) (numbered_also 0 numbers number was.numbered (is ∙ next ∙ ap capped behind));
      accepted_are = next ∙ ap capped (sym longer);
      endless = λ endless. was.endless (sym same ∙ endless);
      bounded = λ ends. was.bounded (sym same ∙ ends);
      most = λ ends. subst (λ n. n ≤ wanted) (sym (many (sym same ∙ ends) less longer)) (was.most (sym same ∙ ends));
      all = λ ends fine. many (sym same ∙ ends) less longer ∙ was.all (sym same ∙ ends) (sym whole ∙ fine);
    }
