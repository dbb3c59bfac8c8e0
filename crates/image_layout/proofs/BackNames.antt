-- An image shows the names that it was spelled from.
use Rattle.std.proofs.Common.{◌≡◌, ℕ, zero, suc, ◌+◌, ◌-◌, ◌*◌, ◌/◌, ◌%◌, ◌^◌, ◌<◌, ◌≤◌, Bool, true, false, ◌||◌, cond}
use Rattle.std.proofs.Common.{eqb, List, [], ◌∷◌, ◌++◌, length, get_or, take, drop, map, Some, refl, sym, ap, ◌∙◌}
use Rattle.std.proofs.Common.{arith, inl, inr}
use Rattle.std.specs.Prelude.{ℤ, slice_get, slice_index, slice_range}
use Rattle.std.specs.List.{flat_map, concat, range_with_len, list_all}
use Rattle.std.specs.Int.{w32, w64, to_le_bytes, from_le_bytes, cast_signed, cast_unsigned}
use Rattle.std.proofs.lemmas.Bool.{cases_Bool, eqb-true}
use Rattle.std.proofs.lemmas.Int.{to_z-of_z}
use Rattle.std.proofs.lemmas.Nat.{le_bytes_4}
use Rattle.std.proofs.lemmas.Option.{slice_get-get_or, slice_get_within}
use Rattle.std.proofs.Math.Seq.{drop-append-add}
use Rattle.std.proofs.lemmas.List.{take_all, append_assoc, append-nil, length-append, length-map, take_at, drop_at}
use Rattle.std.proofs.lemmas.List.{get_or_append_left, get_or-append_right, get_or-map}
use Rattle.std.proofs.lemmas.List.FromFn.{fill_by_all, length-map-range_with_len, get_or-map-range_with_len}
use Rattle.timetable.specs.TimetableValue.{TimetableValue}
use Rattle.timetable.specs.NamesValue.{NamesValue, TripNameValue}
use Rattle.image_layout.specs.declared.layout.TheConstants.{FIRST_LAYOUT, LAYOUT}
use Rattle.image_layout.specs.Offsets.{is_layout, header_of, name_index_offset, day_offset, repeat_offset, text_offset}
use Rattle.image_layout.specs.Fields.{name_index_of, day_of, repeat_of}
use Rattle.image_layout.specs.Text.{bytes_of, padded_text_of}
use Rattle.image_layout.specs.Spelling.{connection_words, footpath_words, footpath_count_below, foot_index, name_list}
use Rattle.image_layout.specs.Spelling.{byte_count_before, name_index, text, text_words, repeats_in, image_in}
use Rattle.image_layout.specs.Shown.{connection_of, name_of, trip_name_of, names_of}
use Rattle.image_layout.specs.Image.{AreFirst, HasImage}
use Rattle.image_layout.proofs.Spelled.{flags_back, skip, word_in, pieces_long, from_repeats, from_days, from_names, from_footpaths, from_foot_index}
use Rattle.image_layout.proofs.Bytes.{concat_are_bytes}
use Rattle.image_layout.proofs.Back.{length-repeats_in, length-name_list, image_is_whole, image_has_index}
use Rattle.image_layout.proofs.Whole.{IsWellFormed, connection_is}

abbrev IsBytes : List ℕ → Type 0
IsBytes bytes = (i : ℕ) → slice_index bytes i < 256

-- the bytes of text_words bytes, and spare ones of 0
pub record IsUnpacked (bytes : List ℕ) : Type 0 where
  pub spare : List ℕ
  pub is : bytes_of (text_words bytes) ≡ bytes ++ spare
  pub zero : list_all (λ b. eqb b 0) spare ≡ true

-- one more byte, below
cons_bytes : (a : ℕ) (bytes : List ℕ) → a < 256 → IsBytes bytes → IsBytes (a ∷ bytes)
cons_bytes a bytes h rest zero = h
cons_bytes a bytes h rest (suc i) = rest i

word_bytes : (a b c d : ℕ) → a < 256 → b < 256 → c < 256 → d < 256 → to_le_bytes w32 (from_le_bytes w32 (a ∷ b ∷ c ∷ d ∷ [])) ≡ a ∷ b ∷ c ∷ d ∷ []
word_bytes a b c d ha hb hc hd =
    le_bytes_4 (a ∷ b ∷ c ∷ d ∷ []) (from_le_bytes w32 (a ∷ b ∷ c ∷ d ∷ [])) refl
    (cons_bytes a (b ∷ c ∷ d ∷ []) ha (cons_bytes b (c ∷ d ∷ []) hb (cons_bytes c (d ∷ []) hc (cons_bytes d [] hd (λ i. omega arith))))) refl

pub open_words : (bytes : List ℕ) → IsBytes bytes → IsUnpacked bytes
unfolding text_words
open_words [] h = record { spare = []; is = refl; zero = refl }
open_words (a ∷ []) h = record { spare = 0 ∷ 0 ∷ 0 ∷ []; is = rw (word_bytes a 0 0 0 (h 0) (omega arith) (omega arith) (omega arith)) refl; zero = refl }
open_words (a ∷ b ∷ []) h = record { spare = 0 ∷ 0 ∷ []; is = rw (word_bytes a b 0 0 (h 0) (h 1) (omega arith) (omega arith)) refl; zero = refl }
open_words (a ∷ b ∷ c ∷ []) h = record { spare = 0 ∷ []; is = rw (word_bytes a b c 0 (h 0) (h 1) (h 2) (omega arith)) refl; zero = refl }
open_words (a ∷ b ∷ c ∷ d ∷ rest) h =
    let r = open_words rest (λ i. h (suc (suc (suc (suc i))))) in
    record {
      spare = r.spare;
      is = ap (λ (x : List ℕ). x ++ bytes_of (text_words rest)) (word_bytes a b c d (h 0) (h 1) (h 2) (h 3)) ∙ ap (λ (x : List ℕ). a ∷ b ∷ c ∷ d ∷ x) r.is;
      zero = r.zero;
    }

-- name i of names set end to end, whatever follows
name_there : (ns : List (List ℕ)) (rest : List ℕ) (i : ℕ) (name : List ℕ) → slice_get ns i ≡ Some name
    → slice_range (concat ns ++ rest) (byte_count_before ns i) (byte_count_before ns (i + 1)) ≡ name
name_there [] rest i name e = absurd cc
name_there (x ∷ xs) rest zero name e =
    let same : x ≡ name = cc in
    let size : length (x ++ []) - 0 ≡ length x = omega (arith, ap length (append-nil x)) in
    ap (λ (k : ℕ). take k ((x ++ concat xs) ++ rest)) size
    ∙ ap (λ (t : List ℕ). take (length x) t) (append_assoc x (concat xs) rest) ∙ take_at x (concat xs ++ rest) (length x) refl ∙ same
name_there (x ∷ xs) rest (suc i) name e =
    let k : suc i + 1 ≡ suc (i + 1) = omega arith in
    let before : byte_count_before (x ∷ xs) (suc i) ≡ length x + byte_count_before xs i = length-append x (concat (take i xs)) in
    let after : byte_count_before (x ∷ xs) (suc i + 1) ≡ length x + byte_count_before xs (i + 1) =
    ap (λ (j : ℕ). byte_count_before (x ∷ xs) j) k ∙ length-append x (concat (take (i + 1) xs)) in
    let long : byte_count_before (x ∷ xs) (suc i + 1) - byte_count_before (x ∷ xs) (suc i)
    ≡ byte_count_before xs (i + 1) - byte_count_before xs i = omega (arith, before, after) in
    let at : drop (byte_count_before (x ∷ xs) (suc i)) ((x ++ concat xs) ++ rest) ≡ drop (byte_count_before xs i) (concat xs ++ rest) =
    ap (λ (j : ℕ). drop j ((x ++ concat xs) ++ rest)) before
    ∙ ap (λ (t : List ℕ). drop (length x + byte_count_before xs i) t) (append_assoc x (concat xs) rest)
    ∙ drop-append-add x (concat xs ++ rest) (byte_count_before xs i) in
    ap (λ (j : ℕ). take j (drop (byte_count_before (x ∷ xs) (suc i)) ((x ++ concat xs) ++ rest))) long
    ∙ ap (λ (t : List ℕ). take (byte_count_before xs (i + 1) - byte_count_before xs i) t) at
    ∙ name_there xs rest i name e

-- where the sections behind the footpaths stand
record AreBehind (layout : ℕ) (p : TimetableValue) (n : NamesValue) : Type 0 where
  index : drop (name_index_offset (header_of (image_in layout p n))) (image_in layout p n) ≡ from_names layout n
  days : drop (day_offset (header_of (image_in layout p n))) (image_in layout p n) ≡ from_days layout n
  repeats : drop (repeat_offset (header_of (image_in layout p n))) (image_in layout p n) ≡ from_repeats layout n
  text : drop (text_offset (header_of (image_in layout p n))) (image_in layout p n) ≡ text_words (text n)

behind : (layout : ℕ) (p : TimetableValue) (n : NamesValue) → HasImage p n → AreBehind layout p n
unfolding image_in
behind layout p n can =
    let w = image_in layout p n in
    let connections = flat_map connection_words p.connections in
    let feet = flat_map footpath_words p.footpaths in
    let days = map (λ (t : TripNameValue). t.day) n.trips in
    let index1 : ℕ = 9 + 6 * length p.connections in
    let index2 : ℕ = index1 + (p.stops + 1) in
    let index3 : ℕ = index2 + 2 * length p.footpaths in
    let index4 : ℕ = index3 + (length (name_list n) + 1) in
    let index5 : ℕ = index4 + length n.trips in
    let index6 : ℕ = index5 + length (repeats_in layout n) in
    let at1 : drop index1 w ≡ from_foot_index layout p n =
    skip w connections (from_foot_index layout p n) 9 (6 * length p.connections)
    (pieces_long connection_words 6 (λ x. refl) p.connections) refl in
    let at2 : drop index2 w ≡ from_footpaths layout p n =
    skip w (foot_index p) (from_footpaths layout p n) index1 (p.stops + 1)
    (length-map-range_with_len (footpath_count_below p.footpaths) 0 (p.stops + 1)) at1 in
    let at3 : drop index3 w ≡ from_names layout n =
    skip w feet (from_names layout n) index2 (2 * length p.footpaths)
    (pieces_long footpath_words 2 (λ x. refl) p.footpaths) at2 in
    let at4 : drop index4 w ≡ from_days layout n =
    skip w (name_index n) (from_days layout n) index3 (length (name_list n) + 1)
    (length-map-range_with_len (byte_count_before (name_list n)) 0 (length (name_list n) + 1)) at3 in
    let at5 : drop index5 w ≡ from_repeats layout n =
    skip w days (from_repeats layout n) index4 (length n.trips)
    (length-map n.trips (λ (t : TripNameValue). t.day)) at4 in
    let at6 : drop index6 w ≡ text_words (text n) = skip w (repeats_in layout n) (text_words (text n)) index5 (length (repeats_in layout n)) refl at5 in
    let many = length-name_list p n can in
    let e3 : name_index_offset (header_of w) ≡ index3 = omega arith in
    let e4 : day_offset (header_of w) ≡ index4 = omega (arith, many) in
    let e5 : repeat_offset (header_of w) ≡ index5 = omega (arith, many, can.names.trip_names) in
    let e6 : text_offset (header_of w) ≡ index6 = omega (arith, e5, length-repeats_in layout n p.trips can.names.trip_names) in
    record {
      index = ap (λ (k : ℕ). drop k w) e3 ∙ at3;
      days = ap (λ (k : ℕ). drop k w) e4 ∙ at4;
      repeats = ap (λ (k : ℕ). drop k w) e5 ∙ at5;
      text = ap (λ (k : ℕ). drop k w) e6 ∙ at6;
    }

pub name_index_back : (layout : ℕ) (p : TimetableValue) (n : NamesValue) → HasImage p n → (i : ℕ)
    → i ≤ length (name_list n) → name_index_of (image_in layout p n) i ≡ byte_count_before (name_list n) i
name_index_back layout p n can i le =
    let size = length-map-range_with_len (byte_count_before (name_list n)) 0 (length (name_list n) + 1) in
    word_in (image_in layout p n) (name_index n) (from_days layout n)
    (name_index_offset (header_of (image_in layout p n))) i (behind layout p n can).index (omega (arith, size))
    ∙ get_or-map-range_with_len (byte_count_before (name_list n)) 0 (length (name_list n) + 1) i i 0 (omega arith) (omega arith)

pub name_back : (layout : ℕ) (p : TimetableValue) (n : NamesValue) → HasImage p n → (i : ℕ) (name : List ℕ)
    → slice_get (name_list n) i ≡ Some name → name_of (image_in layout p n) i ≡ name
name_back layout p n can i name e =
    let open_text = open_words (text n) (concat_are_bytes (name_list n) can.names.utf8) in
    let t : padded_text_of (image_in layout p n) ≡ text n ++ open_text.spare = ap bytes_of (behind layout p n can).text ∙ open_text.is in
    let within : i < length (name_list n) = slice_get_within (name_list n) i name e in
    let first = name_index_back layout p n can i (omega arith) in
    let next = name_index_back layout p n can (i + 1) (omega arith) in
    rw (t, first, next) (name_there (name_list n) open_text.spare i name e)

day_back : (layout : ℕ) (p : TimetableValue) (n : NamesValue) → HasImage p n → (i : ℕ) → i < length n.trips
    → (d : TripNameValue) → day_of (image_in layout p n) i ≡ (get_or n.trips i d).day
day_back layout p n can i lt d =
    let size = length-map n.trips (λ (t : TripNameValue). t.day) in
    word_in (image_in layout p n) (map (λ (t : TripNameValue). t.day) n.trips) (from_repeats layout n)
    (day_offset (header_of (image_in layout p n))) i (behind layout p n can).days (omega (arith, size))
    ∙ get_or-map (λ (t : TripNameValue). t.day) n.trips i d 0 lt

-- what is read and isn't the layout that is written is the first one
the_first : (k : ℕ) → is_layout k ≡ true → eqb k LAYOUT ≡ false → k ≡ FIRST_LAYOUT
the_first k known other = eqb-true k FIRST_LAYOUT (one_of_two (eqb k FIRST_LAYOUT) (eqb k LAYOUT) known other)
  where
    one_of_two : (a b : Bool) → (a || b) ≡ true → b ≡ false → a ≡ true
    one_of_two true b e f = refl
    one_of_two false true e f = absurd cc
    one_of_two false false e f = absurd cc

repeat_back : (layout : ℕ) (p : TimetableValue) (n : NamesValue) → is_layout layout ≡ true → (layout ≡ FIRST_LAYOUT → AreFirst n) → HasImage p n
    → (i : ℕ) → i < length n.trips → (d : TripNameValue) → repeat_of (image_in layout p n) i ≡ (get_or n.trips i d).repeat
unfolding image_in
repeat_back layout p n known first can i lt d =
    let w = image_in layout p n in
    let word = slice_index w (repeat_offset (header_of w) + i) in
    elim (cases_Bool (eqb layout LAYOUT)) [
      | inl has ↦
          let repeats = map (λ (t : TripNameValue). t.repeat) n.trips in
          let section : repeats_in layout n ≡ repeats = ap (λ (b : Bool). cond {A = List ℕ} b repeats []) has in
          let size = length-map n.trips (λ (t : TripNameValue). t.repeat) in
          ap (λ (b : Bool). cond {A = ℕ} b word 0) has
          ∙ word_in w (repeats_in layout n) (text_words (text n)) (repeat_offset (header_of w)) i
          (behind layout p n can).repeats (omega (arith, size, ap length section))
          ∙ ap (λ (x : List ℕ). get_or x i 0) section
          ∙ get_or-map (λ (t : TripNameValue). t.repeat) n.trips i d 0 lt
      | inr lacks ↦
          ap (λ (b : Bool). cond {A = ℕ} b word 0) lacks ∙ sym (first (the_first layout known lacks) i d lt)
    ]

abbrev pub label : List ℕ → ℕ → ℕ → TripNameValue
label name day repeat = record { name = name; day = day; repeat = repeat }

abbrev labels : ℤ → List (List ℕ) → List TripNameValue → NamesValue
labels base stops trips = record { base = base; stops = stops; trips = trips }

-- a name of a stop, and of a trip, among all names
stop_named : (n : NamesValue) (k : ℕ) (d : List ℕ) → k < length n.stops → slice_get (name_list n) k ≡ Some (get_or n.stops k d)
stop_named n k d lt =
    let all = length-append n.stops (map (λ (t : TripNameValue). t.name) n.trips) in
    slice_get-get_or (name_list n) k d (omega (arith, all)) ∙ ap Some (get_or_append_left n.stops (map (λ (t : TripNameValue). t.name) n.trips) d k lt)

pub trip_named : (n : NamesValue) (k : ℕ) (d : TripNameValue) → k < length n.trips
    → slice_get (name_list n) (length n.stops + k) ≡ Some (get_or n.trips k d).name
trip_named n k d lt =
    let all = length-append n.stops (map (λ (t : TripNameValue). t.name) n.trips) in
    let many = length-map n.trips (λ (t : TripNameValue). t.name) in
    let back : (length n.stops + k) - length n.stops ≡ k = omega arith in
    slice_get-get_or (name_list n) (length n.stops + k) [] (omega (arith, all, many))
    ∙ ap Some (get_or-append_right n.stops (map (λ (t : TripNameValue). t.name) n.trips) (length n.stops) (length n.stops + k) [] refl (omega arith)
    ∙ ap (λ (j : ℕ). get_or (map (λ (t : TripNameValue). t.name) n.trips) j []) back ∙ get_or-map (λ (t : TripNameValue). t.name) n.trips k d [] lt)

-- labels of equal parts
pub label_is : (name : List ℕ) (day repeat : ℕ) (t : TripNameValue) → name ≡ t.name → day ≡ t.day → repeat ≡ t.repeat → label name day repeat ≡ t
label_is name day repeat t e f g = rw (e, f, g) refl

labels_are : (base : ℤ) (stops : List (List ℕ)) (trips : List TripNameValue) (n : NamesValue) → base ≡ n.base
    → stops ≡ n.stops → trips ≡ n.trips → labels base stops trips ≡ n
labels_are base stops trips n e f g = rw (e, f, g) refl

halves : (a : ℕ) → a % 4294967296 + 4294967296 * (a / 4294967296) ≡ a
halves a = omega arith

-- an image shows the names that it was spelled from
pub names_back : (layout : ℕ) (p : TimetableValue) (n : NamesValue) → is_layout layout ≡ true
    → (layout ≡ FIRST_LAYOUT → AreFirst n) → HasImage p n → names_of (image_in layout p n) ≡ n
unfolding image_in
names_back layout p n known first can =
    let w = image_in layout p n in
    let base : cast_signed w64 (cast_unsigned w64 n.base % 4294967296 + 4294967296 * (cast_unsigned w64 n.base / 4294967296)) ≡ n.base =
    ap (λ (a : ℕ). cast_signed w64 a) (halves (cast_unsigned w64 n.base)) ∙ to_z-of_z w64 n.base can.names.base in
    let stops : map (name_of w) (range_with_len 0 p.stops) ≡ n.stops =
    sym (fill_by_all (name_of w) n.stops p.stops [] can.names.stop_names
    (λ k lt. sym (name_back layout p n can k (get_or n.stops k [])
    (stop_named n k [] (omega (arith, can.names.stop_names)))))) in
    let d : TripNameValue = trip_name_of w 0 in
    let trips : map (trip_name_of w) (range_with_len 0 p.trips) ≡ n.trips =
    sym (fill_by_all (trip_name_of w) n.trips p.trips d can.names.trip_names (λ k lt.
    let within : k < length n.trips = omega (arith, can.names.trip_names) in
    let position : p.stops + k ≡ length n.stops + k = omega (arith, can.names.stop_names) in
    let name : name_of w (p.stops + k) ≡ (get_or n.trips k d).name =
    ap (λ (j : ℕ). name_of w j) position ∙ name_back layout p n can (length n.stops + k) (get_or n.trips k d).name
    (trip_named n k d within) in
    let day : day_of w k ≡ (get_or n.trips k d).day = day_back layout p n can k within d in
    let repeat : repeat_of w k ≡ (get_or n.trips k d).repeat = repeat_back layout p n known first can k within d in
    sym (label_is (name_of w (p.stops + k)) (day_of w k) (repeat_of w k) (get_or n.trips k d) name day repeat))) in
    labels_are (cast_signed w64 (cast_unsigned w64 n.base % 4294967296 + 4294967296 *
    (cast_unsigned w64 n.base / 4294967296))) (map (name_of w) (range_with_len 0 p.stops))
    (map (trip_name_of w) (range_with_len 0 p.trips)) n base stops trips

flags_small : (a b : Bool) → cond {A = ℕ} a 1 0 + cond {A = ℕ} b 2 0 ≤ 3
flags_small true true = omega arith
flags_small true false = omega arith
flags_small false true = omega arith
flags_small false false = omega arith

-- each front of names is no longer than the next
before_rises : (ns : List (List ℕ)) (i : ℕ) → byte_count_before ns i ≤ byte_count_before ns (i + 1)
before_rises [] zero = omega arith
before_rises [] (suc i) = omega arith
before_rises (x ∷ xs) zero = omega arith
before_rises (x ∷ xs) (suc i) =
    let k : suc i + 1 ≡ suc (i + 1) = omega arith in
    let before = length-append x (concat (take i xs)) in
    let after : byte_count_before (x ∷ xs) (suc i + 1) ≡ length x + byte_count_before xs (i + 1) =
    ap (λ (j : ℕ). byte_count_before (x ∷ xs) j) k ∙ length-append x (concat (take (i + 1) xs)) in
    let rest = before_rises xs i in
    omega (arith, before, after, rest)

-- an image is well-formed
pub well_formed_back : (layout : ℕ) (p : TimetableValue) (n : NamesValue) → is_layout layout ≡ true → HasImage p n
    → ((i : ℕ) → slice_index (image_in layout p n) i < 2 ^ 32) → IsWellFormed (image_in layout p n)
unfolding image_in
well_formed_back layout p n known can fits =
    let w = image_in layout p n in
    let count = length-name_list p n can in
    let open_text = open_words (text n) (concat_are_bytes (name_list n) can.names.utf8) in
    let t : padded_text_of w ≡ text n ++ open_text.spare = ap bytes_of (behind layout p n can).text ∙ open_text.is in
    record {
      whole = image_is_whole layout p n can;
      fits = fits;
      magic = refl;
      layout = known;
      flags = λ i lt. (
          let c = connection_of w i in
          let at = connection_is w i lt in
          let c_at : slice_get p.connections i ≡ Some (get_or p.connections i c) = slice_get-get_or p.connections i c lt in
          let word = flags_back layout p n i (get_or p.connections i c) c_at in
          omega (arith, word, flags_small (get_or p.connections i c).board (get_or p.connections i c).alight));
      feet = image_has_index layout p n can;
      names = record {
        start = name_index_back layout p n can 0 (omega arith);
        rises = λ i lt. (
            let one = name_index_back layout p n can i (omega (arith, count)) in
            let two = name_index_back layout p n can (i + 1) (omega (arith, count)) in
            omega (arith, one, two, before_rises (name_list n) i));
        end =
            (let position : p.stops + p.trips ≡ length (name_list n) = omega (arith, count) in
            ap (λ (j : ℕ). name_index_of w j) position
            ∙ name_index_back layout p n can (length (name_list n)) (omega arith)
            ∙ ap (λ (x : List (List ℕ)). length (concat x))
            (take_all (length (name_list n)) (name_list n) (omega arith)));
      };
      spare = rw (t, drop_at (text n) open_text.spare (length (text n)) refl) open_text.zero;
    }
