-- The names that accepted words show.
use Rattle.std.proofs.Common.{◌≡◌, ℕ, ◌+◌, ◌-◌, ◌<◌, ◌≤◌, List, length, drop, map, Some, refl, sym, subst, ap, ◌∙◌, arith}
use Rattle.std.specs.Prelude.{slice_get}
use Rattle.std.specs.List.{range_with_len}
use Rattle.std.specs.Option.{option_map}
use Rattle.std.proofs.lemmas.List.{length-drop, length-take-le}
use Rattle.std.proofs.lemmas.Option.{slice_get-get_or}
use Rattle.std.proofs.lemmas.List.FromFn.{length-map-range_with_len, get_or-map-range_with_len}
use Rattle.timetable.specs.Legal.{At}
use Rattle.timetable.specs.NamesValue.{TripNameValue}
use Rattle.image_layout.specs.Offsets.{header_of}
use Rattle.image_layout.specs.Fields.{name_index_of, layout_of}
use Rattle.image_layout.specs.Text.{padded_text_of}
use Rattle.image_layout.specs.Spelling.{name_list}
use Rattle.image_layout.specs.Image.{ImageValue}
use Rattle.image_layout.specs.Shown.{name_count, name_of, trip_name_of, names_of, timetable_of}
use Rattle.image_layout.proofs.Names.{names_are}
use Rattle.image_layout.proofs.Whole.{text_is_long}
use Rattle.image_verifier.specs.Accepted.{IsAccepted}
use Rattle.image_verifier.proofs.AcceptedLemmas.{AreFaultless-from, IsName, IsName-from}
use Rattle.image_verifier.proofs.ImageLemmas.{shown_in}

-- at an index of a list that is made from indices stands what was made
made_at : {X : Type 0} (f : ℕ → X) (n i : ℕ) → i < n → slice_get (map f (range_with_len 0 n)) i ≡ Some (f i)
made_at f n i lt =
    let size = length-map-range_with_len f 0 n in
    slice_get-get_or (map f (range_with_len 0 n)) i (f i) (omega (arith, size)) ∙ ap Some (get_or-map-range_with_len f 0 n i i (f i) lt (omega arith))

pub is_a_name : (w : List ℕ) (i : ℕ) → IsAccepted w → i < name_count w → IsName w i
is_a_name w i accepted lt = IsName-from w i ((AreFaultless-from w accepted.faultless).names i lt)

pub name_rises : (w : List ℕ) (i : ℕ) → IsAccepted w → i < name_count w → name_index_of w i ≤ name_index_of w (i + 1)
name_rises w i accepted lt = (is_a_name w i accepted lt).rises

pub length-name_of : (w : List ℕ) (i : ℕ) → IsAccepted w → i < name_count w → length (name_of w i) ≡ name_index_of w (i + 1) - name_index_of w i
length-name_of w i accepted lt =
    let long = text_is_long w (padded_text_of w) accepted.whole refl in
    let rest = length-drop (name_index_of w i) (padded_text_of w) in
    let within : name_index_of w (i + 1) - name_index_of w i ≤ length (drop (name_index_of w i) (padded_text_of w)) =
    omega (arith, long, rest, (is_a_name w i accepted lt).within) in
    length-take-le (name_index_of w (i + 1) - name_index_of w i) (drop (name_index_of w i) (padded_text_of w)) within

pub length-name_list : (w : List ℕ) → length (name_list (names_of w)) ≡ name_count w
length-name_list w = ap length (names_are w) ∙ length-map-range_with_len (name_of w) 0 (name_count w)

pub name_is : (w : List ℕ) (i : ℕ) → i < name_count w → At (name_list (names_of w)) i (name_of w i)
name_is w i lt = ap (λ (x : List (List ℕ)). slice_get x i) (names_are w) ∙ made_at (name_of w) (name_count w) i lt

pub name_shown : (w : List ℕ) (i : ℕ) (name : List ℕ) → At (name_list (names_of w)) i name → (i < name_count w) × (name ≡ name_of w i)
name_shown w i name e = shown_in (name_of w) (name_count w) i name (ap (λ (x : List (List ℕ)). slice_get x i) (sym (names_are w)) ∙ e)

pub stop_name_is : (w : List ℕ) (s : ℕ) → s < (header_of w).stops → At (names_of w).stops s (name_of w s)
stop_name_is w s lt = made_at (name_of w) (header_of w).stops s lt

pub stop_name_shown : (w : List ℕ) (s : ℕ) (name : List ℕ) → At (names_of w).stops s name → (s < (header_of w).stops) × (name ≡ name_of w s)
stop_name_shown w s name e = shown_in (name_of w) (header_of w).stops s name e

pub trip_name_is : (w : List ℕ) (t : ℕ) → t < (header_of w).trips → At (names_of w).trips t (trip_name_of w t)
trip_name_is w t lt = made_at (trip_name_of w) (header_of w).trips t lt

-- what the words show
abbrev pub shown : List ℕ → ImageValue
shown w = record { layout = layout_of w; timetable = timetable_of w; names = names_of w }

-- a number of a name of the image is one of the words'
pub within_names : (image : ImageValue) (w words : List ℕ) (i : ℕ) → shown w ≡ image → words ≡ w
    → i < image.timetable.stops + image.timetable.trips → i < name_count words
within_names image w words i is same lt =
    subst (λ (x : List ℕ). i < name_count x) (sym same) (subst (λ (v : ImageValue). i < v.timetable.stops + v.timetable.trips) (sym is) lt)

-- a name of the image is that of the words
pub name_as_read : (image : ImageValue) (w words : List ℕ) (i : ℕ) (name : List ℕ) → shown w ≡ image → words ≡ w
    → At (name_list image.names) i name → name_of words i ≡ name
name_as_read image w words i name is same at =
    ap (λ (x : List ℕ). name_of x i) same ∙ sym (name_shown w i name (subst (λ (v : ImageValue). At (name_list v.names) i name) (sym is) at)).1

-- a trip of the image is one of the words'
pub within_trips : (image : ImageValue) (w words : List ℕ) (t : ℕ) → shown w ≡ image → words ≡ w → t < image.timetable.trips → t < (header_of words).trips
within_trips image w words t is same lt =
    subst (λ (x : List ℕ). t < (header_of x).trips) (sym same)
    (subst (λ (v : ImageValue). t < v.timetable.trips) (sym is) lt)

-- what is said of a trip's name in the words is said of the image's
pub trip_as_read : (tell : TripNameValue → ℕ) (image : ImageValue) (w words : List ℕ) (t fact : ℕ) → shown w ≡ image → words ≡ w
    → t < image.timetable.trips → fact ≡ tell (trip_name_of words t) → option_map tell (slice_get image.names.trips t) ≡ Some fact
trip_as_read tell image w words t fact is same lt e =
    ap (λ (v : ImageValue). option_map tell (slice_get v.names.trips t)) (sym is)
    ∙ ap (λ o. option_map tell o) (trip_name_is w t (within_trips image w w t is refl lt))
    ∙ ap Some (ap (λ (x : List ℕ). tell (trip_name_of x t)) (sym same) ∙ sym e)
