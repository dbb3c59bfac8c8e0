-- The names that words show spell the index and the text of these words.
use Rattle.std.proofs.Common.{◌≡◌, ℕ, zero, suc, ◌+◌, ◌-◌, ◌<◌, ◌≤◌, Bool, cond, eqb, List, [], ◌∷◌, ◌++◌, length}
use Rattle.std.proofs.Common.{get_or, take, drop, map, refl, sym, ap, ◌∙◌, arith, add-zero, inl, inr}
use Rattle.std.specs.Prelude.{slice_range}
use Rattle.std.specs.List.{concat, range_with_len}
use Rattle.std.proofs.Math.Seq.{take-add}
use Rattle.std.proofs.lemmas.Bool.{cases_Bool}
use Rattle.std.proofs.lemmas.List.{take_all, drop-drop, length-take, length-take-le, length-drop, get_or-take, get_or-drop}
use Rattle.std.proofs.lemmas.List.FromFn.{fill_by_all, length-map-range_with_len, get_or-map-range_with_len, take-map-range_with_len}
use Rattle.timetable.specs.NamesValue.{TripNameValue}
use Rattle.image_layout.specs.declared.layout.TheConstants.{FIRST_LAYOUT, LAYOUT}
use Rattle.image_layout.specs.Offsets.{header_of, name_index_offset, day_offset, repeat_offset, repeat_words, IsWhole}
use Rattle.image_layout.specs.Fields.{layout_of, name_index_of, day_of, repeat_of}
use Rattle.image_layout.specs.Text.{padded_text_of}
use Rattle.image_layout.specs.Spelling.{name_list, byte_count_before, name_index, text, repeats_in}
use Rattle.image_layout.specs.Shown.{name_count, name_of, trip_name_of, names_of}
use Rattle.image_layout.specs.Image.{AreFirst}

-- the index of the names begins with 0, never falls, and ends with the number of bytes
pub record IsNameIndex (w : List ℕ) : Type 0 where
  pub start : name_index_of w 0 ≡ 0
  pub rises : (i : ℕ) → i < name_count w → name_index_of w i ≤ name_index_of w (i + 1)
  pub end : name_index_of w (name_count w) ≡ (header_of w).name_bytes

map-map : {X Y Z : Type 0} (f : Y → Z) (g : X → Y) (xs : List X) → map f (map g xs) ≡ map (λ x. f (g x)) xs
map-map f g [] = refl
map-map f g (x ∷ xs) = ap (λ (ys : List _). f (g x) ∷ ys) (map-map f g xs)

-- a range that begins further on
map-shift : {X : Type 0} (f : ℕ → X) (m n k : ℕ) → map (λ t. f (m + t)) (range_with_len k n) ≡ map f (range_with_len (m + k) n)
map-shift f m zero k = refl
map-shift f m (suc n) k =
    let e : m + (k + 1) ≡ (m + k) + 1 = omega arith in
    ap (λ (ys : List _). f (m + k) ∷ ys) (map-shift f m n (k + 1) ∙ ap (λ (j : ℕ). map f (range_with_len j n)) e)

-- one range after the other
map-join : {X : Type 0} (f : ℕ → X) (m n a : ℕ) → map f (range_with_len a m) ++ map f (range_with_len (a + m) n) ≡ map f (range_with_len a (m + n))
map-join f zero n a =
    let e : a + 0 ≡ a = omega arith in
    let z : 0 + n ≡ n = omega arith in
    ap (λ (j : ℕ). map f (range_with_len j n)) e ∙ ap (λ (j : ℕ). map f (range_with_len a j)) (sym z)
map-join f (suc m) n a =
    let e : a + suc m ≡ (a + 1) + m = omega arith in
    let z : suc (m + n) ≡ suc m + n = omega arith in
    ap (λ (ys : List _). f a ∷ ys) (ap (λ (j : ℕ). map f (range_with_len (a + 1) m) ++ map f (range_with_len j n)) e ∙ map-join f m n (a + 1))
    ∙ ap (λ (j : ℕ). map f (range_with_len a j)) z

-- the names that words show, stops' and then trips', are those by the index
pub names_are : (w : List ℕ) → name_list (names_of w) ≡ map (name_of w) (range_with_len 0 (name_count w))
names_are w =
    let stops = (header_of w).stops in
    let trips = (header_of w).trips in
    let e : stops + 0 ≡ 0 + stops = omega arith in
    ap (λ (ys : List (List ℕ)). map (name_of w) (range_with_len 0 stops) ++ ys)
    (map-map (λ (t : TripNameValue). t.name) (trip_name_of w) (range_with_len 0 trips)
    ∙ map-shift (name_of w) stops trips 0 ∙ ap (λ (j : ℕ). map (name_of w) (range_with_len j trips)) e)
    ∙ map-join (name_of w) stops trips 0

-- the days that words show are the words of their section
pub days_again : (w : List ℕ) → IsWhole w → map (λ (t : TripNameValue). t.day) (names_of w).trips ≡ take (header_of w).trips (drop (day_offset (header_of w)) w)
days_again w whole =
    let trips = (header_of w).trips in
    let position = day_offset (header_of w) in
    let long : length (take trips (drop position w)) ≡ trips = omega (arith, length-take trips (drop position w), length-drop position w, whole.all_there) in
    map-map (λ (t : TripNameValue). t.day) (trip_name_of w) (range_with_len 0 trips)
    ∙ sym (fill_by_all (day_of w) (take trips (drop position w)) trips 0 long (λ t lt. get_or-take trips (drop position w) t 0 lt ∙ get_or-drop position w t 0))

-- and so are the repeats, where there are any
pub repeats_again : (w : List ℕ) → IsWhole w → repeats_in (layout_of w) (names_of w) ≡ take (repeat_words (header_of w)) (drop (repeat_offset (header_of w)) w)
repeats_again w whole =
    let trips = (header_of w).trips in
    let position = repeat_offset (header_of w) in
    let shown = map (λ (t : TripNameValue). t.repeat) (names_of w).trips in
    elim (cases_Bool (eqb (layout_of w) LAYOUT)) [
      | inl has ↦
          let many : repeat_words (header_of w) ≡ trips = ap (λ (b : Bool). cond {A = ℕ} b trips 0) has in
          let long : length (take trips (drop position w)) ≡ trips = omega
          (arith, many, length-take trips (drop position w), length-drop position w, whole.all_there) in
          let word : (t : ℕ) → repeat_of w t ≡ get_or w (position + t) 0 = λ t. ap (λ (b : Bool). cond {A = ℕ} b (get_or w (position + t) 0) 0) has in
          ap (λ (b : Bool). cond {A = List ℕ} b shown []) has
          ∙ map-map (λ (t : TripNameValue). t.repeat) (trip_name_of w) (range_with_len 0 trips)
          ∙ sym (fill_by_all (repeat_of w) (take trips (drop position w)) trips 0 long
          (λ t lt. get_or-take trips (drop position w) t 0 lt ∙ get_or-drop position w t 0 ∙ sym (word t)))
          ∙ ap (λ (k : ℕ). take k (drop position w)) (sym many)
      | inr lacks ↦
          let none : repeat_words (header_of w) ≡ 0 = ap (λ (b : Bool). cond {A = ℕ} b trips 0) lacks in
          ap (λ (b : Bool). cond {A = List ℕ} b shown []) lacks ∙ ap (λ (k : ℕ). take k (drop position w)) (sym none)
    ]

-- words of the first layout show no repeats
pub first_again : (w : List ℕ) → layout_of w ≡ FIRST_LAYOUT → AreFirst (names_of w)
first_again w is_first k d lt =
    let trips = (header_of w).trips in
    let within : k < trips = omega (arith, lt, length-map-range_with_len (trip_name_of w) 0 trips) in
    ap (λ (t : TripNameValue). t.repeat) (get_or-map-range_with_len (trip_name_of w) 0 trips k k d within (omega arith))
    ∙ ap (λ (layout : ℕ). cond {A = ℕ} (eqb layout LAYOUT) (get_or w (repeat_offset (header_of w) + k) 0) 0) is_first

pub at_rises : (at : ℕ → ℕ) (n a : ℕ) → ((i : ℕ) → i < a + n → at i ≤ at (i + 1)) → at a ≤ at (a + n)
at_rises at zero a rises = let e : at (a + 0) ≡ at a = ap at (add-zero a) in omega (arith, e)
at_rises at (suc n) a rises =
    let e : at (a + suc n) ≡ at ((a + 1) + n) = (let k : a + suc n ≡ (a + 1) + n = omega arith in ap at k) in
    let rest = at_rises at n (a + 1) (λ i lt. rises i (omega arith)) in
    let up : at a ≤ at (a + 1) = rises a (omega arith) in
    omega (arith, e, rest, up)

-- pieces of a text, one after the other
joined : (t : List ℕ) (at : ℕ → ℕ) (n a m : ℕ) → ((i : ℕ) → i < a + n → at i ≤ at (i + 1)) → at a + m ≡ at (a + n)
    → concat (map (λ i. slice_range t (at i) (at (i + 1))) (range_with_len a n)) ≡ take m (drop (at a) t)
joined t at zero a m rises long =
    let e : at (a + 0) ≡ at a = ap at (add-zero a) in
    let none : m ≡ 0 = omega (arith, e) in
    rw none refl
joined t at (suc n) a m rises long =
    let b : ℕ = at (a + 1) - at a in
    let e : at (a + suc n) ≡ at ((a + 1) + n) = (let k : a + suc n ≡ (a + 1) + n = omega arith in ap at k) in
    let up : at a ≤ at (a + 1) = rises a (omega arith) in
    let far : at (a + 1) ≤ at ((a + 1) + n) = at_rises at n (a + 1) (λ i lt. rises i (omega arith)) in
    let rest = joined t at n (a + 1) (m - b) (λ i lt. rises i (omega arith)) (omega (arith, e)) in
    let many : m ≡ b + (m - b) = omega (arith, e) in
    let next : at a + b ≡ at (a + 1) = omega arith in
    ap (λ (x : List ℕ). take b (drop (at a) t) ++ x) rest
    ∙ sym (ap (λ (x : ℕ). take x (drop (at a) t)) many ∙ take-add b (m - b) (drop (at a) t)
    ∙ ap (λ (x : List ℕ). take b (drop (at a) t) ++ take (m - b) x) (drop-drop b (at a) t ∙ ap (λ (x : ℕ). drop x t) next))

-- what stands before name i in the text
front_is : (w : List ℕ) (i : ℕ) → IsNameIndex w → i ≤ name_count w → concat (take i (name_list (names_of w))) ≡ take (name_index_of w i) (padded_text_of w)
front_is w i index le =
    let z : 0 + i ≡ i = omega arith in
    let at_end : name_index_of w (0 + i) ≡ name_index_of w i = ap (λ (x : ℕ). name_index_of w x) z in
    ap (λ (x : List (List ℕ)). concat (take i x)) (names_are w)
    ∙ ap concat (take-map-range_with_len (name_of w) 0 (name_count w) i le)
    ∙ joined (padded_text_of w) (name_index_of w) i 0 (name_index_of w i) (λ k lt. index.rises k (omega arith)) (omega (arith, at_end, index.start))
    ∙ ap (λ (x : ℕ). take (name_index_of w i) (drop x (padded_text_of w))) index.start

-- the index of the names that words show is the section of words
pub name_index_again : (w : List ℕ) → IsWhole w → IsNameIndex w → (header_of w).name_bytes ≤ length (padded_text_of w)
    → name_index (names_of w) ≡ take (name_count w + 1) (drop (name_index_offset (header_of w)) w)
name_index_again w whole index long =
    let count = name_count w in
    let position = name_index_offset (header_of w) in
    let section : List ℕ = take (count + 1) (drop position w) in
    let size : length section ≡ count + 1 = omega (arith, length-take (count + 1) (drop position w), length-drop position w, whole.all_there) in
    let many : length (name_list (names_of w)) ≡ count = ap length (names_are w) ∙ length-map-range_with_len (name_of w) 0 count in
    ap (λ (n : ℕ). map (byte_count_before (name_list (names_of w))) (range_with_len 0 (n + 1))) many
    ∙ sym (fill_by_all (byte_count_before (name_list (names_of w))) section (count + 1) 0 size (λ i lt.
    let word : get_or section i 0 ≡ name_index_of w i = get_or-take (count + 1) (drop position w) i 0 lt ∙ get_or-drop position w i 0 in
    let last : name_index_of w i ≤ name_index_of w (i + (count - i)) = at_rises (name_index_of w) (count - i) i (λ k below. index.rises k (omega arith)) in
    let end : name_index_of w (i + (count - i)) ≡ (header_of w).name_bytes =
    (let k : i + (count - i) ≡ count = omega arith in ap (λ (x : ℕ). name_index_of w x) k ∙ index.end) in
    let inside : name_index_of w i ≤ length (padded_text_of w) = omega (arith, last, end) in
    word ∙ sym (ap length (front_is w i index (omega arith)) ∙ length-take-le (name_index_of w i) (padded_text_of w) inside)))

-- the text of the names that words show
pub text_again : (w : List ℕ) → IsNameIndex w → text (names_of w) ≡ take (header_of w).name_bytes (padded_text_of w)
text_again w index =
    let all : take (name_count w) (name_list (names_of w)) ≡ name_list (names_of w) =
    take_all (name_count w) (name_list (names_of w)) (omega (arith, ap length (names_are w) ∙ length-map-range_with_len (name_of w) 0 (name_count w))) in
    ap concat (sym all) ∙ front_is w (name_count w) index (omega arith) ∙ ap (λ (x : ℕ). take x (padded_text_of w)) index.end
