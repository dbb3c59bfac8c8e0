-- Every word of an image fits 32 bits.
use Rattle.std.proofs.Common.{ℕ, suc, ◌+◌, ◌/◌, ◌%◌, ◌^◌, ◌<◌, Bool, true, false, cond, eqb, List, [], ◌∷◌, length, map, refl, arith, inl, inr}
use Rattle.std.specs.Prelude.{FitsSigned, ℤ, All, nat_lt, slice_index}
use Rattle.std.specs.List.{flat_map, range_with_len}
use Rattle.std.specs.Int.{w32, w64, from_le_bytes, cast_unsigned}
use Rattle.std.proofs.lemmas.Bool.{cases_Bool, cases_lt}
use Rattle.std.proofs.Math.Facts.{Fits-of_z}
use Rattle.std.proofs.lemmas.List.{get_or_past}
use Rattle.std.proofs.lemmas.List.Sums.{count_by-le-length}
use Rattle.std.proofs.lemmas.List.Elements.{All-nil, All-cons, All-append, All-get_or}
use Rattle.timetable.specs.declared.network.Connection.{Connection}
use Rattle.timetable.specs.declared.network.Footpath.{Footpath}
use Rattle.timetable.specs.TimetableValue.{TimetableValue}
use Rattle.timetable.specs.NamesValue.{NamesValue, TripNameValue}
use Rattle.timetable.specs.Legal.{At}
use Rattle.image_layout.specs.declared.layout.TheConstants.{LAYOUT}
use Rattle.image_layout.specs.Spelling.{connection_words, footpath_words, footpath_count_below, name_list}
use Rattle.image_layout.specs.Spelling.{byte_count_before, text, text_words, header, repeats_in, image_in}
use Rattle.image_layout.specs.Image.{HasImage}
use Rattle.image_layout.proofs.Bytes.{concat_are_bytes}
use Rattle.image_layout.proofs.Whole.{count_within}

abbrev IsWord : ℕ → Type 0
IsWord x = x < 4294967296

-- each is a word, one by one
abbrev AreWords : List ℕ → Type 0
AreWords [] = Unit
AreWords (x ∷ xs) = IsWord x × AreWords xs

all_words : (xs : List ℕ) → AreWords xs → All IsWord xs
all_words [] are = All-nil IsWord
all_words (x ∷ xs) are = All-cons IsWord x xs are.0 (all_words xs are.1)

-- lists set end to end, each of words
all_flat : {X : Type 0} (f : X → List ℕ) (xs : List X) → ((i : ℕ) (x : X) → At xs i x → All IsWord (f x)) → All IsWord (flat_map f xs)
all_flat f [] each = All-nil IsWord
all_flat f (x ∷ xs) each = All-append IsWord (f x) (flat_map f xs) (each 0 x refl) (all_flat f xs (λ i y at. each (suc i) y at))

all_mapped : {X : Type 0} (f : X → ℕ) (xs : List X) → ((i : ℕ) (x : X) → At xs i x → IsWord (f x)) → All IsWord (map f xs)
all_mapped f [] each = All-nil IsWord
all_mapped f (x ∷ xs) each = All-cons IsWord (f x) (map f xs) (each 0 x refl) (all_mapped f xs (λ i y at. each (suc i) y at))

flags_small : (a b : Bool) → cond {A = ℕ} a 1 0 + cond {A = ℕ} b 2 0 < 4294967296
flags_small true true = omega arith
flags_small true false = omega arith
flags_small false true = omega arith
flags_small false false = omega arith

word_small : (a b c d : ℕ) → a < 256 → b < 256 → c < 256 → d < 256 → from_le_bytes w32 (a ∷ b ∷ c ∷ d ∷ []) < 4294967296
word_small a b c d ha hb hc hd = omega (arith, ha, hb, hc, hd)

all_text : (bytes : List ℕ) → ((i : ℕ) → slice_index bytes i < 256) → All IsWord (text_words bytes)
unfolding text_words
all_text [] h = All-nil IsWord
all_text (a ∷ []) h = All-cons IsWord _ [] (word_small a 0 0 0 (h 0) (omega arith) (omega arith) (omega arith)) (All-nil IsWord)
all_text (a ∷ b ∷ []) h = All-cons IsWord _ [] (word_small a b 0 0 (h 0) (h 1) (omega arith) (omega arith)) (All-nil IsWord)
all_text (a ∷ b ∷ c ∷ []) h = All-cons IsWord _ [] (word_small a b c 0 (h 0) (h 1) (h 2) (omega arith)) (All-nil IsWord)
all_text (a ∷ b ∷ c ∷ d ∷ rest) h = All-cons IsWord _ (text_words rest) (word_small a b c d (h 0) (h 1) (h 2) (h 3))
    (all_text rest (λ i. h (suc (suc (suc (suc i))))))

half_small : (a : ℕ) → a < 2 ^ 64 → (a % 4294967296 < 4294967296) × (a / 4294967296 < 4294967296)
half_small a lt = (omega (arith, lt), omega (arith, lt))

header_fits : (layout : ℕ) (p : TimetableValue) (n : NamesValue) → IsWord layout → HasImage p n → All IsWord (header layout p n)
header_fits layout p n fits can =
    let base = half_small (cast_unsigned w64 n.base) (base_fits n.base can.names.base) in
    all_words (header layout p n) (
      omega arith,
      (
        fits,
        (
          omega (arith, can.limits.stops),
          (
            omega (arith, can.limits.trips),
            (
              omega (arith, can.limits.connections),
              (omega (arith, can.limits.footpaths), (omega (arith, can.names.bytes), (base.0, (base.1, tt)))),
            ),
          ),
        ),
      ),
    )
  where
    base_fits : (z : ℤ) → FitsSigned w64 z → cast_unsigned w64 z < 2 ^ 64
    base_fits z fits = let f = Fits-of_z {w = w64} {z = z} fits in omega (arith, f.fits)

connection_fits : (p : TimetableValue) (n : NamesValue) → HasImage p n → (i : ℕ) (c : Connection) → At p.connections i c → All IsWord (connection_words c)
connection_fits p n can i c at =
    let stops = can.legal.stops_in_range i c at in
    let time = can.limits.times i c at in
    all_words (connection_words c) (
      omega (arith, stops.0, can.limits.stops),
      (
        omega (arith, stops.1, can.limits.stops),
        (
          omega (arith, time, can.legal.takes_time i c at),
          (
            omega (arith, time),
            (
              omega (arith, can.legal.trips_in_range i c at, can.limits.trips),
              (flags_small c.board c.alight, tt),
            ),
          ),
        ),
      ),
    )

footpath_fits : (p : TimetableValue) (n : NamesValue) → HasImage p n → (k : ℕ) (f : Footpath) → At p.footpaths k f → All IsWord (footpath_words f)
footpath_fits p n can k f at =
    let ends = can.legal.ends_in_range k f at in
    all_words (footpath_words f) (omega (arith, ends.0, can.limits.stops), (omega (arith, can.limits.walks k f at), tt))

all_repeats : (layout : ℕ) (p : TimetableValue) (n : NamesValue) → HasImage p n → All IsWord (repeats_in layout n)
all_repeats layout p n can =
    elim (cases_Bool (eqb layout LAYOUT)) [
      | inl has ↦ rw has (all_mapped (λ (t : TripNameValue). t.repeat) n.trips can.names.repeats)
      | inr lacks ↦ rw lacks (All-nil IsWord)
    ]

-- each word of an image fits 32 bits
pub image_fits : (layout : ℕ) (p : TimetableValue) (n : NamesValue) → IsWord layout → HasImage p n → All IsWord (image_in layout p n)
unfolding image_in
image_fits layout p n fits can =
    All-append IsWord (header layout p n) _ (header_fits layout p n fits can)
    (All-append IsWord _ _ (all_flat connection_words p.connections (connection_fits p n can))
    (All-append IsWord _ _ (all_mapped (footpath_count_below p.footpaths) (range_with_len 0 (p.stops + 1))
    (λ i s at. omega (
      arith,
      count_by-le-length (λ (f : Footpath). nat_lt f.to s) p.footpaths,
      can.limits.footpaths,
    )))
    (All-append IsWord _ _ (all_flat footpath_words p.footpaths (footpath_fits p n can))
    (All-append IsWord _ _ (all_mapped (byte_count_before (name_list n)) (range_with_len 0 (length (name_list n) + 1))
    (λ i k at. omega (arith, count_within (name_list n) k, can.names.bytes)))
    (All-append IsWord _ _ (all_mapped (λ (t : TripNameValue). t.day) n.trips can.names.days)
    (All-append IsWord _ _ (all_repeats layout p n can)
    (all_text (text n) (concat_are_bytes (name_list n) can.names.utf8))))))))

-- each word of a list by its index, also past its end
pub word_at : (w : List ℕ) → All (λ x. x < 2 ^ 32) w → (i : ℕ) → slice_index w i < 2 ^ 32
word_at w fits i =
    elim (cases_lt i (length w)) [
      | inl within ↦ All-get_or (λ (x : ℕ). x < 2 ^ 32) w i 0 within fits
      | inr past ↦ omega (arith, get_or_past w i 0 past)
    ]
