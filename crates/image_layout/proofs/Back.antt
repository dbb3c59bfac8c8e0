-- An image shows the timetable and the names that it was spelled from.
use Rattle.std.proofs.Common.{◌≡◌, ℕ, ◌+◌, ◌/◌, ◌<◌, cond, eqb, List, [], ◌∷◌, length, get_or, map, Some, refl, ap, ◌∙◌, arith, inl, inr}
use Rattle.std.specs.Prelude.{slice_get}
use Rattle.std.specs.List.{flat_map}
use Rattle.std.proofs.lemmas.Bool.{cases_Bool}
use Rattle.std.proofs.lemmas.Option.{slice_get-get_or, get_or_from_slice_get}
use Rattle.std.proofs.lemmas.List.{same_lists, length-append, length-map}
use Rattle.std.proofs.lemmas.List.FromFn.{length-map-range_with_len}
use Rattle.timetable.specs.declared.network.Footpath.{Footpath}
use Rattle.timetable.specs.TimetableValue.{TimetableValue}
use Rattle.timetable.specs.NamesValue.{NamesValue, TripNameValue}
use Rattle.timetable.specs.Legal.{At, IsLegal}
use Rattle.image_layout.specs.declared.layout.TheConstants.{LAYOUT}
use Rattle.image_layout.specs.Offsets.{IsWhole}
use Rattle.image_layout.specs.Spelling.{connection_words, footpath_words, footpath_count_below, foot_index, name_list}
use Rattle.image_layout.specs.Spelling.{byte_count_before, name_index, text, text_words, repeats_in, image_in}
use Rattle.image_layout.specs.Shown.{footpaths_of, timetable_of}
use Rattle.image_layout.specs.Image.{HasImage}
use Rattle.image_layout.proofs.Feet.{IsFootIndex}
use Rattle.image_layout.proofs.Whole.{length-footpaths_of}
use Rattle.image_layout.proofs.Found.{footpath_is}
use Rattle.image_layout.proofs.Spelled.{pieces_long, from_repeats, from_days, from_names, from_footpaths}
use Rattle.image_layout.proofs.Spelled.{from_foot_index, NeverFalls, offset_below, offset_above, none_below_zero}
use Rattle.image_layout.proofs.Spelled.{all_below, below_rises, foot_index_back, footpath_back, connections_back}

never_falls : (p : TimetableValue) → IsLegal p → NeverFalls p.footpaths
never_falls p legal i d e at_d at_e =
    (legal.in_order i d e at_d at_e).0

-- four bytes a word
length-text_words : (bytes : List ℕ) → length (text_words bytes) ≡ (length bytes + 3) / 4
unfolding text_words
length-text_words [] = refl
length-text_words (a ∷ []) = refl
length-text_words (a ∷ b ∷ []) = refl
length-text_words (a ∷ b ∷ c ∷ []) = refl
length-text_words (a ∷ b ∷ c ∷ d ∷ rest) = let h = length-text_words rest in omega (arith, h)

-- how many names an image has
pub length-name_list : (p : TimetableValue) (n : NamesValue) → HasImage p n → length (name_list n) ≡ p.stops + p.trips
length-name_list p n can =
    omega (
      arith,
      length-append n.stops (map (λ (t : TripNameValue). t.name) n.trips),
      length-map n.trips (λ (t : TripNameValue). t.name),
      can.names.stop_names,
      can.names.trip_names,
    )

-- the section of the repeats has a word for each trip, or none
pub length-repeats_in : (layout : ℕ) (n : NamesValue) (trips : ℕ) → length n.trips ≡ trips → length (repeats_in layout n) ≡ cond (eqb layout LAYOUT) trips 0
length-repeats_in layout n trips e =
    elim (cases_Bool (eqb layout LAYOUT)) [
      | inl has ↦ rw has (length-map n.trips (λ (t : TripNameValue). t.repeat) ∙ e)
      | inr lacks ↦ rw lacks refl
    ]

pub image_is_whole : (layout : ℕ) (p : TimetableValue) (n : NamesValue) → HasImage p n → IsWhole (image_in layout p n)
unfolding image_in
image_is_whole layout p n can =
    let connections = flat_map connection_words p.connections in
    let feet = flat_map footpath_words p.footpaths in
    let days = map (λ (t : TripNameValue). t.day) n.trips in
    let a = length-append connections (from_foot_index layout p n) in
    let b = length-append (foot_index p) (from_footpaths layout p n) in
    let d = length-append feet (from_names layout n) in
    let e = length-append (name_index n) (from_days layout n) in
    let f = length-append days (from_repeats layout n) in
    let g = length-append (repeats_in layout n) (text_words (text n)) in
    let connections_long = pieces_long connection_words 6 (λ x. refl) p.connections in
    let feet_long = pieces_long footpath_words 2 (λ x. refl) p.footpaths in
    let index_long = length-map-range_with_len (footpath_count_below p.footpaths) 0 (p.stops + 1) in
    let names_long = length-map-range_with_len (byte_count_before (name_list n)) 0 (length (name_list n) + 1) in
    let days_long = length-map n.trips (λ (t : TripNameValue). t.day) in
    let repeats_long = length-repeats_in layout n p.trips can.names.trip_names in
    record {
      has_header = omega arith;
      all_there = omega (
        arith,
        a,
        b,
        d,
        e,
        f,
        g,
        connections_long,
        feet_long,
        index_long,
        names_long,
        days_long,
        repeats_long,
        length-text_words (text n),
        length-name_list p n can,
        can.names.trip_names,
      );
    }

pub image_has_index : (layout : ℕ) (p : TimetableValue) (n : NamesValue) → HasImage p n → IsFootIndex (image_in layout p n)
unfolding image_in
image_has_index layout p n can = record {
  start = foot_index_back layout p n 0 (omega arith) ∙ none_below_zero p.footpaths;
  rises = λ s lt. (let one = foot_index_back layout p n s (omega arith) in let two =
      foot_index_back layout p n (s + 1)
      (omega arith) in let up =
      below_rises
      p.footpaths s in
      omega (
        arith,
        one,
        two,
        up,
      ));
  end = foot_index_back layout p n p.stops (omega arith) ∙ all_below p.footpaths p.stops (λ i f at. (can.legal.ends_in_range i f at).1);
}

-- at each index the image shows the footpath that it was spelled from
footpath_there : (layout : ℕ) (p : TimetableValue) (n : NamesValue) → HasImage p n → (k : ℕ) (f : Footpath)
    → At p.footpaths k f → slice_get (footpaths_of (image_in layout p n)) k ≡ Some f
unfolding image_in
footpath_there layout p n can k f at =
    let falls = never_falls p can.legal in
    let lt : f.to < p.stops = (can.legal.ends_in_range k f at).1 in
    let low = offset_above p.footpaths k f.to f falls at (omega arith) in
    let high = offset_below p.footpaths k (f.to + 1) f falls at (omega arith) in
    let first = foot_index_back layout p n f.to (omega arith) in
    let next = foot_index_back layout p n (f.to + 1) (omega arith) in
    footpath_is (image_in layout p n) f.to k (image_is_whole layout p n can) (image_has_index layout p n can) lt
    (omega (arith, first, low)) (omega (arith, next, high))
    ∙ ap Some (footpath_back layout p n k f at)

pub footpaths_back : (layout : ℕ) (p : TimetableValue) (n : NamesValue) → HasImage p n → footpaths_of (image_in layout p n) ≡ p.footpaths
unfolding image_in
footpaths_back layout p n can =
    let size : length (footpaths_of (image_in layout p n)) ≡ length p.footpaths =
    length-footpaths_of (image_in layout p n) (image_is_whole layout p n can) (image_has_index layout p n can) in
    same_lists (footpaths_of (image_in layout p n)) p.footpaths size (λ k d lt.
    let at : slice_get p.footpaths k ≡ Some (get_or p.footpaths k d) = slice_get-get_or p.footpaths k d (omega arith) in
    get_or_from_slice_get (footpaths_of (image_in layout p n)) k (get_or p.footpaths k d) d (footpath_there layout p n can k (get_or p.footpaths k d) at))

-- an image shows the timetable that it was spelled from
pub timetable_back : (layout : ℕ) (p : TimetableValue) (n : NamesValue) → HasImage p n → timetable_of (image_in layout p n) ≡ p
unfolding image_in
timetable_back layout p n can = rw (connections_back layout p n, footpaths_back layout p n can) refl
