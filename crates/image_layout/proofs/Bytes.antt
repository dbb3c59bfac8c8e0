-- The text of names is made of bytes.
use Rattle.std.proofs.Common.{◌≡◌, ℕ, zero, suc, ◌+◌, ◌/◌, ◌<◌, true, List, [], ◌∷◌, ◌++◌, Some, get_or, slice_get, refl, subst, arith, inl, inr}
use Rattle.std.proofs.lemmas.Bool.{cases_Bool, and_parts}
use Rattle.std.proofs.Math.Utf8.{encode}
use Rattle.std.specs.List.{concat}
use Rattle.std.specs.Str.{IsUtf8}
use lib.Dec.{ltb}
use lib.Utf8.{scalars, encodes, scalar, scalar_cases, next}
use borrow.Author.Tests.{ltb-true}

-- every number of the list is a byte; past its end stands 0
abbrev pub AreBytes : List ℕ → Type 0
AreBytes bs = (i : ℕ) → get_or bs i 0 < 256

none_are_bytes : AreBytes []
none_are_bytes i = omega arith

cons_are_bytes : (b : ℕ) (bs : List ℕ) → b < 256 → AreBytes bs → AreBytes (b ∷ bs)
cons_are_bytes b bs lt rest zero = lt
cons_are_bytes b bs lt rest (suc i) = rest i

pub append_are_bytes : (xs ys : List ℕ) → AreBytes xs → AreBytes ys → AreBytes (xs ++ ys)
append_are_bytes [] ys first second = second
append_are_bytes (x ∷ xs) ys first second = cons_are_bytes x (xs ++ ys) (first zero) (append_are_bytes xs ys (λ i. first (suc i)) second)

one_is_byte : (a : ℕ) → a < 256 → AreBytes (a ∷ [])
one_is_byte a p = cons_are_bytes a [] p none_are_bytes

two_are_bytes : (a b : ℕ) → a < 256 → b < 256 → AreBytes (a ∷ b ∷ [])
two_are_bytes a b p q = cons_are_bytes a (b ∷ []) p (one_is_byte b q)

three_are_bytes : (a b c : ℕ) → a < 256 → b < 256 → c < 256 → AreBytes (a ∷ b ∷ c ∷ [])
three_are_bytes a b c p q r = cons_are_bytes a (b ∷ c ∷ []) p (two_are_bytes b c q r)

four_are_bytes : (a b c d : ℕ) → a < 256 → b < 256 → c < 256 → d < 256 → AreBytes (a ∷ b ∷ c ∷ d ∷ [])
four_are_bytes a b c d p q r s = cons_are_bytes a (b ∷ c ∷ d ∷ []) p (three_are_bytes b c d q r s)

encode_are_bytes : (c : ℕ) → scalar c ≡ true → AreBytes (encode c)
unfolding encode
encode_are_bytes c ok =
    let most : c < 1114112 = elim (scalar_cases c ok) [ inl low ↦ omega (arith, low) | inr high ↦ high.1 ] in
    elim (cases_Bool (ltb c 128)) [
      | inl one ↦ (let lt = ltb-true c 128 one in rw one (one_is_byte c (omega (arith, lt))))
      | inr more ↦ rw more (elim (cases_Bool (ltb c 2048)) [
        | inl two ↦ (let lt = ltb-true c 2048 two in rw two (two_are_bytes (192 + c / 64) (next c) (omega (arith, lt)) (omega arith)))
        | inr yet_more ↦ rw yet_more (elim (cases_Bool (ltb c 65536)) [
          | inl three ↦ (let lt = ltb-true c 65536 three in
              rw three (three_are_bytes (224 + c / 4096) (next (c / 64)) (next c) (omega (
                arith,
                lt,
              )) (omega arith) (omega arith)))
          | inr four ↦ rw four (four_are_bytes (240 + c / 262144) (next (c / 4096)) (next (c / 64)) (next c)
              (omega (arith, most)) (omega arith) (omega arith) (omega arith))
        ])
      ])
    ]

encodes_are_bytes : (cs : List ℕ) → scalars cs ≡ true → AreBytes (encodes cs)
encodes_are_bytes [] ok = none_are_bytes
encodes_are_bytes (c ∷ cs) ok =
    let parts = and_parts (scalar c) (scalars cs) ok in
    append_are_bytes (encode c) (encodes cs) (encode_are_bytes c parts.0) (encodes_are_bytes cs parts.1)

pub utf8_are_bytes : (bs : List ℕ) → IsUtf8 bs → AreBytes bs
utf8_are_bytes bs (cs, (ok, is)) = subst AreBytes is (encodes_are_bytes cs ok)

-- names of UTF-8 make a text of bytes
pub concat_are_bytes : (names : List (List ℕ)) → ((i : ℕ) (name : List ℕ) → slice_get names i ≡ Some name → IsUtf8 name) → AreBytes (concat names)
concat_are_bytes [] each = none_are_bytes
concat_are_bytes (name ∷ names) each = append_are_bytes name (concat names) (utf8_are_bytes name (each zero name refl))
    (concat_are_bytes names (λ i. each (suc i)))
