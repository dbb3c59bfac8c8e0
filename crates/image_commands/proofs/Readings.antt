-- Bytes are read in one way.
use Rattle.std.proofs.Common.{◌≡◌, ◌≢◌, ◌<◌, ◌^◌, ◌%◌, ◌*◌, ◌∙◌, ◌⊎◌, ◌||◌, ℕ, Bool, true, false, List, None, Some}
use Rattle.std.proofs.Common.{ap, arith, eqb, inl, inr, length, refl, subst, sym}
use Rattle.std.specs.Prelude.{All}
use Rattle.std.proofs.lemmas.Bool.{eqb-true}
use Rattle.std.proofs.lemmas.List.{get_or_default}
use Rattle.std.proofs.lemmas.Option.{none-some, same_Some}
use Rattle.image_layout.specs.declared.layout.TheConstants.{FIRST_LAYOUT, LAYOUT}
use Rattle.image_layout.specs.Fields.{layout_of}
use Rattle.image_layout.specs.Image.{ImageValue, IsImage, Spells}
use Rattle.image_layout.specs.Offsets.{is_layout}
use Rattle.image_layout.specs.Shown.{names_of, timetable_of}
use Rattle.image_layout.specs.Text.{bytes_of}
use Rattle.image_layout.proofs.Back.{timetable_back}
use Rattle.image_layout.proofs.BackNames.{names_back}
use Rattle.image_layout.proofs.Whole.{length-bytes_of}
use Rattle.image_layout.proofs.WordList.{same_words}
use Rattle.image_verifier.specs.FirstFault.{first_fault}
use Rattle.image_verifier.proofs.OnlyLemmas.{image_is_faultless}
use Rattle.image_verifier.proofs.WordLemmas.{image_fits, word_at}
use Rattle.image_commands.specs.Opening.{HaveWordBits, IsNoImage, SpellsImage}
use Rattle.image_commands.specs.declared.refusal.CommandRefusal.{CommandRefusal}
use Rattle.image_commands.specs.declared.refusal.CommandRefusal.TheVariants.{BadText, Image, Journey, OddLength, Query}

-- a layout that is read fits a word
layout_fits : (layout : ℕ) → is_layout layout ≡ true → layout < 2 ^ 32
layout_fits layout known = elim (either (eqb layout FIRST_LAYOUT) (eqb layout LAYOUT) known) [
  | inl first ↦ (let is = eqb-true layout FIRST_LAYOUT first in omega (arith, is))
  | inr second ↦ (let is = eqb-true layout LAYOUT second in omega (arith, is))
]
  where
    either : (a b : Bool) → (a || b) ≡ true → (a ≡ true) ⊎ (b ≡ true)
    either true b e = inl refl
    either false b e = inr e

-- the words of an image have 32 bits
image_bits : (words : List ℕ) (image : ImageValue) → Spells words image → All (λ x. x < 2 ^ 32) words
image_bits words image spelled =
    let is : IsImage words image.timetable image.names = spelled.0 in
    subst (All (λ x. x < 2 ^ 32)) (sym is.spelled)
    (image_fits (layout_of words) image.timetable image.names (layout_fits (layout_of words) is.layout) is.can_be)

word_bits : (words : List ℕ) → HaveWordBits words → All (λ x. x < 2 ^ 32) words
word_bits words bits i d lt = subst (λ (x : ℕ). x < 2 ^ 32) (get_or_default words i 0 d lt) (bits i)

-- whole words have a multiple of four bytes
not_odd : (words bytes : List ℕ) → bytes_of words ≡ bytes → length bytes % 4 ≢ 0 → ⊥
not_odd words bytes same odd = odd (let long = length-bytes_of words in let e = ap length same in omega (arith, long, e))

-- bytes that spell an image spell no words with a fault
pub never_both : (image : ImageValue) (refusal : CommandRefusal) (bytes : List ℕ) → SpellsImage image bytes → IsNoImage refusal bytes → ⊥
never_both image OddLength bytes (words, same, spelled) odd = not_odd words bytes same odd
never_both image (Image fault) bytes (words, same, spelled) (others, bits, like, first) =
    let small = image_bits words image spelled in
    let one : words ≡ others = same_words words others small (word_bits others bits) (same ∙ sym like) in
    let none : first_fault words ≡ None = image_is_faultless words image.timetable image.names (word_at words small) spelled.0 in
    none-some fault (sym none ∙ ap first_fault one ∙ first)
never_both image (Query fault) bytes spells refused = refused
never_both image BadText bytes spells refused = refused
never_both image (Journey fault) bytes spells refused = refused

-- and they have one fault
pub refused_once : (first second : CommandRefusal) (bytes : List ℕ) → IsNoImage first bytes → IsNoImage second bytes → first ≡ second
refused_once OddLength OddLength bytes odd also = refl
refused_once OddLength (Image fault) bytes odd (words, bits, same, is) = absurd (not_odd words bytes same odd)
refused_once (Image fault) OddLength bytes (words, bits, same, is) odd = absurd (not_odd words bytes same odd)
refused_once (Image one) (Image other) bytes (words, bits, same, is) (others, small, like, has) =
    let one_list : words ≡ others = same_words words others (word_bits words bits) (word_bits others small) (same ∙ sym like) in
    ap Image (same_Some one other (sym is ∙ ap first_fault one_list ∙ has))
refused_once (Query fault) second bytes none also = absurd none
refused_once BadText second bytes none also = absurd none
refused_once (Journey fault) second bytes none also = absurd none
refused_once OddLength (Query fault) bytes odd none = absurd none
refused_once OddLength BadText bytes odd none = absurd none
refused_once OddLength (Journey fault) bytes odd none = absurd none
refused_once (Image one) (Query fault) bytes is none = absurd none
refused_once (Image one) BadText bytes is none = absurd none
refused_once (Image one) (Journey fault) bytes is none = absurd none

-- what words show is the image that they spell
abbrev shown : List ℕ → ImageValue
shown words = record { layout = layout_of words; timetable = timetable_of words; names = names_of words }

shows : (words : List ℕ) (image : ImageValue) → Spells words image → shown words ≡ image
shows words image is =
    let t = image.timetable in
    let n = image.names in
    let layout : layout_of words ≡ image.layout = is.1 in
    let timetable : timetable_of words ≡ t =
    ap (λ (w : List ℕ). timetable_of w) is.0.spelled ∙ timetable_back (layout_of words) t n is.0.can_be in
    let names : names_of words ≡ n =
    ap (λ (w : List ℕ). names_of w) is.0.spelled ∙ names_back (layout_of words) t n is.0.layout is.0.first is.0.can_be in
    λ i. record { layout = layout i; timetable = timetable i; names = names i }

-- and they spell one image
pub image_once : (first second : ImageValue) (bytes : List ℕ) → SpellsImage first bytes → SpellsImage second bytes → first ≡ second
image_once first second bytes (words, same, is) (others, like, also) =
    let one : words ≡ others = same_words words others (image_bits words first is) (image_bits others second also) (same ∙ sym like) in
    sym (shows words first is) ∙ shows words second (subst (λ (w : List ℕ). Spells w second) (sym one) also)
