-- What a reader gave so far, piece by piece.
use Rattle.std.proofs.Common.{inl, inr, ◌<◌, ◌≡◌, ◌≢◌, ℕ, ◌+◌, ◌-◌, ◌%◌, ◌≤◌, List, ◌++◌, Option, IfSome, length, take, sym, ap, ◌∙◌, subst}
use Rattle.std.proofs.Common.{length-take-le, length-append, arith}
use Rattle.std.proofs.lemmas.Bool.{cases_eq}
use Rattle.std.proofs.Math.Seq.{take-append-add}
use Rattle.std.proofs.lemmas.List.{take-append-le}
use Rattle.std.specs.Io.KnownBytes.{Consumes, IsAtEnd}
use Rattle.std.proofs.KnownBytes.{Consumes-trans, Consumes-whole}
use Rattle.image_layout.specs.Text.{bytes_of}
use Rattle.image_layout.proofs.Whole.{length-bytes_of}
use borrow.Rule.Slice.PartMut.{put_mid, post_of}

-- the front that was filled, and n bytes of the part behind it
front_grows : (at n : ℕ) (old part : List ℕ) → at ≤ length old → n ≤ length part
    → take at old ++ take n part ≡ take (at + n) (put_mid at (length old - at) old part)
front_grows at n old part within fits =
    let after = post_of at (length old - at) old in
    let size : length (take at old) ≡ at = length-take-le at old within in
    ap (λ (xs : List ℕ). take at old ++ xs) (sym (take-append-le n part after fits))
    ∙ sym (take-append-add (take at old) (part ++ after) n)
    ∙ ap (λ (k : ℕ). take (k + n) (take at old ++ (part ++ after))) size

pub filled_further : (a b c : Option (List ℕ)) (at n : ℕ) (old part : List ℕ) → at ≤ length old → n ≤ length part → Consumes a b (take at old)
    → Consumes b c (take n part) → Consumes a c (take (at + n) (put_mid at (length old - at) old part))
filled_further a b c at n old part within fits before now =
    subst (λ (bytes : List ℕ). Consumes a c bytes) (front_grows at n old part within fits) (Consumes-trans a b c (take at old) (take n part) before now)

-- bytes that end behind whole words, with a rest that is none
pub odd_rest : (a b c : Option (List ℕ)) (words rest : List ℕ) → Consumes a b (bytes_of words) → Consumes b c rest → IsAtEnd c → length rest % 4 ≢ 0
    → IfSome a (λ bytes. length bytes % 4 ≢ 0)
odd_rest a b c words rest before now ended odd =
    Consumes-whole a c (bytes_of words ++ rest) (λ bytes. length bytes % 4 ≢ 0) (Consumes-trans a b c (bytes_of words) rest before now) ended
    (λ whole. odd (omega (arith, whole, length-append (bytes_of words) rest, length-bytes_of words)))

-- so many bytes, which aren't whole words, don't fill a piece of whole words
pub not_whole : (n m : ℕ) → n ≤ m → m % 4 ≡ 0 → (n % 4 ≡ 0 → ⊥) → n < m
not_whole n m le whole odd =
    elim (cases_eq n m) [
      | inl same ↦ absurd (odd (ap (λ (k : ℕ). k % 4) same ∙ whole))
      | inr other ↦ omega arith
    ]
