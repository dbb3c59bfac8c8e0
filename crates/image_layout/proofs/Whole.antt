-- Well-formed words are the image of what they show.
use Rattle.std.proofs.Common.{◌≡◌, ℕ, zero, suc, ◌+◌, ◌*◌, ◌/◌, ◌%◌, ◌^◌, ◌<◌, ◌≤◌, Bool, true, eqb, ◌&&◌, List, []}
use Rattle.std.proofs.Common.{◌∷◌, ◌++◌, length, get_or, take, drop, map, refl, sym, ap, ◌∙◌, arith}
use Rattle.std.specs.Prelude.{slice_index, slice_get, Some}
use Rattle.std.proofs.lemmas.Option.{slice_get-get_or}
use Rattle.std.specs.List.{flat_map, range_with_len, list_all, concat}
use Rattle.std.specs.Int.{w32, w64, to_le_bytes, from_le_bytes, cast_signed, cast_unsigned, byte_at}
use Rattle.std.proofs.Math.Seq.{take-add}
use Rattle.std.proofs.lemmas.Bool.{and_parts, eqb-true}
use Rattle.std.proofs.lemmas.Int.{of_z-to_z}
use Rattle.std.proofs.lemmas.Nat.{from_le_bytes-to_le_bytes_4}
use Rattle.std.proofs.lemmas.List.{drop-drop, take-append-drop, nil_from_length, get_or-drop, length-append, length-drop, length-take-le}
use Rattle.std.proofs.lemmas.List.FromFn.{length-map-range_with_len, get_or-map-range_with_len}
use Rattle.timetable.specs.declared.network.Footpath.{Footpath}
use Rattle.image_layout.specs.Offsets.{is_layout, header_of, foot_index_offset, footpath_offset, name_index_offset}
use Rattle.image_layout.specs.Offsets.{day_offset, repeat_offset, repeat_words, text_offset, IsWhole}
use Rattle.image_layout.specs.Fields.{layout_of, flags_of}
use Rattle.image_layout.specs.Text.{bytes_of, padded_text_of}
use Rattle.image_layout.specs.declared.layout.TheConstants.{MAGIC}
use Rattle.image_layout.specs.Spelling.{footpath_words, text, text_words, header, image_in, byte_count_before}
use Rattle.image_layout.specs.Shown.{name_count, connection_of, connections_of, footpaths_of, timetable_of, names_of}
use Rattle.image_layout.proofs.Sections.{take_next, take_six, connections_again}
use Rattle.image_layout.proofs.Feet.{IsFootIndex, foot_index_again, footpaths_again}
use Rattle.image_layout.proofs.Names.{IsNameIndex, days_again, repeats_again, name_index_again, text_again}

-- four bytes are the word that spells them
word_again : (x : ℕ) → x < 2 ^ 32 → from_le_bytes w32 (byte_at 0 x ∷ byte_at 1 x ∷ byte_at 2 x ∷ byte_at 3 x ∷ []) ≡ x
word_again x fits = from_le_bytes-to_le_bytes_4 x fits

is_zero : (b : ℕ) (rest : Bool) → (eqb b 0 && rest) ≡ true → (b ≡ 0) × (rest ≡ true)
is_zero b rest e = let p = and_parts (eqb b 0) rest e in (eqb-true b 0 p.0, p.1)

below_shift : (x : ℕ) (xs : List ℕ) → ((i : ℕ) → get_or (x ∷ xs) i 0 < 2 ^ 32) → (i : ℕ) → get_or xs i 0 < 2 ^ 32
below_shift x xs fits i = fits (suc i)

one_byte : (x : ℕ) → x < 2 ^ 32 → byte_at 1 x ≡ 0 → byte_at 2 x ≡ 0 → byte_at 3 x ≡ 0 → from_le_bytes w32 (byte_at 0 x ∷ 0 ∷ 0 ∷ 0 ∷ []) ≡ x
one_byte x fits b1 b2 b3 = omega arith

two_bytes : (x : ℕ) → x < 2 ^ 32 → byte_at 2 x ≡ 0 → byte_at 3 x ≡ 0 → from_le_bytes w32 (byte_at 0 x ∷ byte_at 1 x ∷ 0 ∷ 0 ∷ []) ≡ x
two_bytes x fits b2 b3 = omega arith

three_bytes : (x : ℕ) → x < 2 ^ 32 → byte_at 3 x ≡ 0 → from_le_bytes w32 (byte_at 0 x ∷ byte_at 1 x ∷ byte_at 2 x ∷ 0 ∷ []) ≡ x
three_bytes x fits b3 = omega arith

-- words are text_words of their bytes, spare ones left out
pub text_words_again : (ws : List ℕ) (n : ℕ) → ((i : ℕ) → get_or ws i 0 < 2 ^ 32) → length ws ≡ (n + 3) / 4
    → list_all (λ b. eqb b 0) (drop n (bytes_of ws)) ≡ true → text_words (take n (bytes_of ws)) ≡ ws
unfolding text_words
text_words_again [] zero fits long spare = refl
text_words_again [] (suc n) fits long spare = absurd (omega arith)
text_words_again (x ∷ xs) zero fits long spare = absurd (omega arith)
text_words_again (x ∷ xs) (suc zero) fits long spare =
    let none : xs ≡ [] = nil_from_length xs (omega arith) in
    let b1 = is_zero (byte_at 1 x) _ spare in
    let b2 = is_zero (byte_at 2 x) _ b1.1 in
    let b3 = is_zero (byte_at 3 x) _ b2.1 in
    rw none (ap (λ (y : ℕ). y ∷ []) (one_byte x (fits 0) b1.0 b2.0 b3.0))
text_words_again (x ∷ xs) (suc (suc zero)) fits long spare =
    let none : xs ≡ [] = nil_from_length xs (omega arith) in
    let b2 = is_zero (byte_at 2 x) _ spare in
    let b3 = is_zero (byte_at 3 x) _ b2.1 in
    rw none (ap (λ (y : ℕ). y ∷ []) (two_bytes x (fits 0) b2.0 b3.0))
text_words_again (x ∷ xs) (suc (suc (suc zero))) fits long spare =
    let none : xs ≡ [] = nil_from_length xs (omega arith) in
    let b3 = is_zero (byte_at 3 x) _ spare in
    rw none (ap (λ (y : ℕ). y ∷ []) (three_bytes x (fits 0) b3.0))
text_words_again (x ∷ xs) (suc (suc (suc (suc n)))) fits long spare =
    let rest = text_words_again xs n (below_shift x xs fits) (omega arith) spare in
    ap (λ (y : ℕ). y ∷ text_words (take n (bytes_of xs))) (word_again x (fits 0)) ∙ ap (λ (ys : List ℕ). x ∷ ys) rest

-- what the verifier's steps see of words, the legality of the timetable aside
pub record IsWellFormed (w : List ℕ) : Type 0 where
  pub whole : IsWhole w
  pub fits : (i : ℕ) → get_or w i 0 < 2 ^ 32
  pub magic : slice_index w 0 ≡ MAGIC
  pub layout : is_layout (layout_of w) ≡ true
  pub flags : (i : ℕ) → i < (header_of w).connections → flags_of w i ≤ 3
  pub feet : IsFootIndex w
  pub names : IsNameIndex w
  pub spare : list_all (λ b. eqb b 0) (drop (header_of w).name_bytes (padded_text_of w)) ≡ true

-- a list from index p on: so many words, and the rest
cut : (w : List ℕ) (p n : ℕ) → drop p w ≡ take n (drop p w) ++ drop (p + n) w
cut w p n = sym (take-append-drop n (drop p w)) ∙ ap (λ (x : List ℕ). take n (drop p w) ++ x) (drop-drop n p w)

-- a section, and what follows it
join : (w : List ℕ) (p n q : ℕ) (section rest : List ℕ) → p + n ≡ q → section ≡ take n (drop p w) → rest ≡ drop q w → section ++ rest ≡ drop p w
join w p n q section rest e is_section is_rest =
    ap (λ (x : List ℕ). x ++ rest) is_section ∙ ap (λ (x : List ℕ). take n (drop p w) ++ x) (is_rest ∙ ap (λ (x : ℕ). drop x w) (sym e)) ∙ sym (cut w p n)

pub length-bytes_of : (ws : List ℕ) → length (bytes_of ws) ≡ 4 * length ws
length-bytes_of [] = refl
length-bytes_of (x ∷ xs) = let h : length (bytes_of xs) ≡ 4 * length xs = length-bytes_of xs in omega (arith, length-append (to_le_bytes w32 x) (bytes_of xs))

-- the names' bytes are there
pub text_is_long : (w text : List ℕ) → IsWhole w → text ≡ padded_text_of w → (header_of w).name_bytes ≤ length text
text_is_long w text whole e =
    let h = length-drop (text_offset (header_of w)) w in
    omega (arith, ap length e, length-bytes_of (drop (text_offset (header_of w)) w), h, whole.all_there)

length-footpath_words : (fs : List Footpath) → length (flat_map footpath_words fs) ≡ 2 * length fs
length-footpath_words [] = refl
length-footpath_words (f ∷ fs) = let h : length (flat_map footpath_words fs) ≡ 2 * length fs =
    length-footpath_words fs in omega (
      arith,
      length-append (footpath_words f) (flat_map footpath_words fs),
    )

pub length-connections_of : (w : List ℕ) → length (connections_of w) ≡ (header_of w).connections
unfolding connections_of
length-connections_of w = length-map-range_with_len (connection_of w) 0 (header_of w).connections

pub length-footpaths_of : (w : List ℕ) → IsWhole w → IsFootIndex w → length (footpaths_of w) ≡ (header_of w).footpaths
length-footpaths_of w whole feet =
    let f = (header_of w).footpaths in
    let position = footpath_offset (header_of w) in
    let words = length-footpath_words (footpaths_of w) in
    let same = ap length (footpaths_again w whole feet) in
    let size = length-take-le (2 * f) (drop position w) (omega (arith, length-drop position w, whole.all_there)) in
    omega (arith, words, same, size)

low_again : (a b : ℕ) → a < 2 ^ 32 → b < 2 ^ 32 → cast_unsigned w64 (cast_signed w64 (a + 4294967296 * b)) % 4294967296 ≡ a
low_again a b fits_a fits_b =
    let e : cast_unsigned w64 (cast_signed w64 (a + 4294967296 * b)) ≡ a + 4294967296 * b = of_z-to_z w64 (a + 4294967296 * b) (omega arith) in
    rw e (omega arith)

high_again : (a b : ℕ) → a < 2 ^ 32 → b < 2 ^ 32 → cast_unsigned w64 (cast_signed w64 (a + 4294967296 * b)) / 4294967296 ≡ b
high_again a b fits_a fits_b =
    let e : cast_unsigned w64 (cast_signed w64 (a + 4294967296 * b)) ≡ a + 4294967296 * b = of_z-to_z w64 (a + 4294967296 * b) (omega arith) in
    rw e (omega arith)

-- nine words of one list are those of another
nine : (w : List ℕ) (a b c d e f g h i : ℕ) → 9 ≤ length w → a ≡ get_or w 0 0 → b ≡ get_or w 1 0 → c ≡ get_or w 2 0
    → d ≡ get_or w 3 0 → e ≡ get_or w 4 0 → f ≡ get_or w 5 0 → g ≡ get_or w 6 0 → h ≡ get_or w 7 0 → i ≡ get_or w 8 0
    → a ∷ b ∷ c ∷ d ∷ e ∷ f ∷ g ∷ h ∷ i ∷ [] ≡ take 9 w
nine w a b c d e f g h i long pa pb pc pd pe pf pg ph pi =
    let first : take 6 w ≡ get_or w 0 0 ∷ get_or w 1 0 ∷ get_or w 2 0 ∷ get_or w 3 0 ∷ get_or w 4 0 ∷ get_or w 5 0 ∷ [] = take_six w 0 (omega arith) in
    let last : take 3 (drop 6 w) ≡ get_or w 6 0 ∷ get_or w 7 0 ∷ get_or w 8 0 ∷ [] =
    take_next w 2 6 (omega arith) ∙ ap (λ (x : List ℕ). get_or w 6 0 ∷ x) (take_next w 1 7 (omega arith)
    ∙ ap (λ (x : List ℕ). get_or w 7 0 ∷ x) (take_next w 0 8 (omega arith))) in
    let all : take 9 w ≡ take 6 w ++ take 3 (drop 6 w) = take-add 6 3 w in
    rw (pa, pb, pc, pd, pe, pf, pg, ph, pi) (sym (all ∙ ap (λ (x : List ℕ). x ++ take 3 (drop 6 w)) first
    ∙ ap (λ (x : List ℕ). get_or w 0 0 ∷ get_or w 1 0 ∷ get_or w 2 0 ∷ get_or w 3 0 ∷ get_or w 4 0 ∷ get_or w 5 0
    ∷ x) last))

header_again : (w : List ℕ) → IsWellFormed w → (header_of w).name_bytes ≤ length (padded_text_of w)
    → header (layout_of w) (timetable_of w) (names_of w) ≡ take 9 (drop 0 w)
header_again w form long =
    nine w _ _ _ _ _ _ _ _ _ form.whole.has_header (sym form.magic) refl refl refl
    (length-connections_of w) (length-footpaths_of w form.whole form.feet)
    (ap length (text_again w form.names) ∙ length-take-le (header_of w).name_bytes (padded_text_of w) long)
    (low_again (slice_index w 7) (slice_index w 8) (form.fits 7) (form.fits 8))
    (high_again (slice_index w 7) (slice_index w 8) (form.fits 7) (form.fits 8))

-- the words are the image of what they show
pub image_again : (w : List ℕ) → IsWellFormed w → image_in (layout_of w) (timetable_of w) (names_of w) ≡ w
unfolding image_in
image_again w form =
    let h = header_of w in
    let long : h.name_bytes ≤ length (padded_text_of w) = text_is_long w (padded_text_of w) form.whole refl in
    let last : text_words (text (names_of w)) ≡ drop (text_offset h) w =
    ap text_words (text_again w form.names) ∙ text_words_again (drop (text_offset h) w) h.name_bytes
    (λ i. rw get_or-drop (form.fits (text_offset h + i))) (omega (
      arith,
      length-drop (text_offset h) w,
      form.whole.all_there,
    )) form.spare in
    join w 0 9 9 (header (layout_of w) (timetable_of w) (names_of w)) _ (omega arith) (header_again w form long)
    (join w 9 (6 * h.connections) (foot_index_offset h) _ _ (omega arith) (connections_again w form.whole form.flags)
    (join w (foot_index_offset h) (h.stops + 1) (footpath_offset h) _ _ (omega arith) (foot_index_again w form.whole form.feet)
    (join w (footpath_offset h) (2 * h.footpaths) (name_index_offset h) _ _ (omega arith) (footpaths_again w form.whole form.feet)
    (join w (name_index_offset h) (name_count w + 1) (day_offset h) _ _ (omega arith) (name_index_again w form.whole form.names long)
    (join w (day_offset h) h.trips (repeat_offset h) _ _ (omega arith) (days_again w form.whole)
    (join w (repeat_offset h) (repeat_words h) (text_offset h) _ _ (omega arith) (repeats_again w form.whole) last))))))

-- what a shown connection is at its index
pub connection_is : (w : List ℕ) (i : ℕ) → i < (header_of w).connections → slice_get (connections_of w) i ≡ Some (connection_of w i)
unfolding connections_of
connection_is w i lt =
    let count = (header_of w).connections in
    let size = length-map-range_with_len (connection_of w) 0 count in
    slice_get-get_or (map (connection_of w) (range_with_len 0 count)) i (connection_of w 0) (omega (arith, size))
    ∙ ap Some (get_or-map-range_with_len (connection_of w) 0 count i i (connection_of w 0) lt (omega arith))

-- no more bytes stand before a name than there are
pub count_within : (ns : List (List ℕ)) (i : ℕ) → byte_count_before ns i ≤ length (concat ns)
count_within [] zero = omega arith
count_within [] (suc i) = omega arith
count_within (x ∷ xs) zero = omega arith
count_within (x ∷ xs) (suc i) = omega (arith, count_within xs i, length-append x (concat (take i xs)), length-append x (concat xs))
