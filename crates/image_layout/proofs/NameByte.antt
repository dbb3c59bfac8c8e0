-- A byte of a name, in the word of the text that it is part of.
use Rattle.std.proofs.Common.{◌≡◌, ℕ, ◌+◌, ◌-◌, ◌*◌, ◌/◌, ◌%◌, ◌<◌, List, length, get_or, drop, Some, refl, sym, ap, ◌∙◌, arith}
use Rattle.std.specs.Prelude.{slice_get}
use Rattle.std.specs.Int.{w32, to_le_bytes}
use Rattle.std.proofs.lemmas.List.{length-take, length-drop, get_or-take, get_or-drop}
use Rattle.std.proofs.lemmas.Option.{slice_get-get_or}
use Rattle.image_layout.specs.Offsets.{header_of, text_offset}
use Rattle.image_layout.specs.Fields.{name_index_of}
use Rattle.image_layout.specs.Text.{bytes_of, padded_text_of}
use Rattle.image_layout.specs.Shown.{name_of}
use Rattle.image_layout.proofs.Whole.{length-bytes_of}
use Rattle.image_layout.proofs.Spelled.{piece_word}

-- a byte of words is one of the four of its word
byte_of_word : (v : List ℕ) (k : ℕ) → k / 4 < length v → get_or (bytes_of v) k 0 ≡ get_or (to_le_bytes w32 (get_or v (k / 4) 0)) (k % 4) 0
byte_of_word v k lt =
    let parts : 4 * (k / 4) + k % 4 ≡ k = omega arith in
    ap (λ (j : ℕ). get_or (bytes_of v) j 0) (sym parts)
    ∙ piece_word (to_le_bytes w32) 4 (λ x. refl) v (k / 4) (k % 4) (get_or v (k / 4) 0) (slice_get-get_or v (k / 4) 0 lt) (omega arith)

-- the words of the text hold the byte
pub name_byte_within : (w : List ℕ) (i j : ℕ) → j < length (name_of w i) → text_offset (header_of w) + (name_index_of w i + j) / 4 < length w
name_byte_within w i j lt =
    let position = text_offset (header_of w) in
    let index = name_index_of w i in
    omega (
      arith,
      lt,
      length-take (name_index_of w (i + 1) - index) (drop index (padded_text_of w)),
      length-drop index (padded_text_of w),
      length-bytes_of (drop position w),
      length-drop position w,
    )

pub name_byte : (w : List ℕ) (i j : ℕ) → j < length (name_of w i)
    → slice_get (name_of w i) j ≡ Some (get_or
    (to_le_bytes w32 (get_or w (text_offset (header_of w) + (name_index_of w i + j) / 4) 0))
    ((name_index_of w i + j) % 4) 0)
name_byte w i j lt =
    let position = text_offset (header_of w) in
    let index = name_index_of w i in
    let size = name_index_of w (i + 1) - index in
    let short : j < size = omega (arith, lt, length-take size (drop index (padded_text_of w))) in
    let inside : (index + j) / 4 < length (drop position w) = omega (arith, name_byte_within w i j lt, length-drop position w) in
    slice_get-get_or (name_of w i) j 0 lt
    ∙ ap Some (get_or-take size (drop index (padded_text_of w)) j 0 short
    ∙ get_or-drop index (padded_text_of w) j 0
    ∙ byte_of_word (drop position w) (index + j) inside
    ∙ ap (λ (x : ℕ). get_or (to_le_bytes w32 x) ((index + j) % 4) 0) (get_or-drop position w ((index + j) / 4) 0))
