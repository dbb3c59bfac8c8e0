-- Accepted words are an image.
use Rattle.std.proofs.Common.{◌≡◌, ℕ, ◌+◌, ◌*◌, ◌^◌, ◌<◌, ◌≤◌, false, eqb, List, length, map, Some, refl, sym, ap, subst, ◌∙◌, arith, inl, inr, Fits}
use Rattle.std.specs.Prelude.{slice_get, slice_index}
use Rattle.std.specs.Int.{w64}
use Rattle.std.specs.List.{range_with_len}
use Rattle.std.specs.Str.{IsUtf8}
use Rattle.std.proofs.Math.Facts.{sfits_to_z}
use Rattle.std.proofs.lemmas.Bool.{cases_Bool, or_parts, ltb-false}
use Rattle.std.proofs.lemmas.Option.{slice_get_within, same_Some, slice_get-get_or}
use Rattle.std.proofs.lemmas.List.{length-take-le}
use Rattle.std.proofs.lemmas.List.FromFn.{length-map-range_with_len, get_or-map-range_with_len}
use Rattle.std.proofs.lemmas.Str.{IsUtf8-from_is_utf8}
use Rattle.timetable.specs.declared.network.Connection.{Connection}
use Rattle.timetable.specs.declared.network.Footpath.{Footpath}
use Rattle.timetable.specs.declared.limits.TheConstants.{MAX_STOPS, MAX_TRIPS, MAX_CONNECTIONS, MAX_FOOTPATHS, MAX_WALK_SECS, MAX_NAME_BYTES, TIME_END}
use Rattle.timetable.specs.NamesValue.{TripNameValue}
use Rattle.image_layout.specs.declared.layout.TheConstants.{LAYOUT}
use Rattle.image_layout.specs.Offsets.{header_of, day_offset, repeat_offset}
use Rattle.image_layout.specs.Fields.{layout_of, repeat_of}
use Rattle.image_layout.specs.Text.{padded_text_of}
use Rattle.image_layout.specs.Shown.{name_count, name_of, trip_name_of, timetable_of, names_of}
use Rattle.image_layout.specs.Image.{HasImage, IsImage}
use Rattle.image_layout.proofs.Names.{names_are, text_again, first_again}
use Rattle.image_layout.proofs.Whole.{IsWellFormed, text_is_long, length-connections_of, length-footpaths_of, image_again}
use Rattle.image_layout.proofs.Found.{connection_shown, footpath_shown}
use Rattle.image_verifier.specs.FirstFault.{is_too_large}
use Rattle.image_verifier.specs.Accepted.{IsAccepted}
use Rattle.image_verifier.proofs.AcceptedLemmas.{AreFaultless, AreFaultless-from, IsHeader-from, IsName-from, IsWellFormed-from}
use Rattle.image_verifier.proofs.FootLemmas.{HasFootRange-from}
use Rattle.image_verifier.proofs.LegalLemmas.{sound_at, IsLegal-from}

-- what stands at an index of a list that is made from indices
pub shown_in : {X : Type 0} (f : ℕ → X) (n i : ℕ) (x : X) → slice_get (map f (range_with_len 0 n)) i ≡ Some x → (i < n) × (x ≡ f i)
shown_in f n i x e =
    let size = length-map-range_with_len f 0 n in
    let within = slice_get_within (map f (range_with_len 0 n)) i x e in
    let lt : i < n = omega (arith, size, within) in (
      lt,
      same_Some x (f i) (sym e ∙ slice_get-get_or (map f (range_with_len 0 n)) i (f 0) within
          ∙ ap Some (get_or-map-range_with_len f 0 n i i (f 0) lt (omega arith))),
    )

-- the limits that a header keeps
record IsSmall (w : List ℕ) : Type 0 where
  stops : (header_of w).stops ≤ MAX_STOPS
  trips : (header_of w).trips ≤ MAX_TRIPS
  connections : (header_of w).connections ≤ MAX_CONNECTIONS
  footpaths : (header_of w).footpaths ≤ MAX_FOOTPATHS
  name_bytes : (header_of w).name_bytes ≤ MAX_NAME_BYTES

IsSmall-from : (w : List ℕ) → is_too_large (header_of w) ≡ false → IsSmall w
IsSmall-from w e =
    let a = or_parts _ _ e in
    let b = or_parts _ _ a.0 in
    let d = or_parts _ _ b.0 in
    let f = or_parts _ _ d.0 in
    record {
      stops = ltb-false _ _ f.0;
      trips = ltb-false _ _ f.1;
      connections = ltb-false _ _ d.1;
      footpaths =
          ltb-false _ _ b.1;
      name_bytes = ltb-false _ _ a.1;
    }

Fits-at : (a b : ℕ) → a < 2 ^ 32 → b < 2 ^ 32 → Fits w64 (a + 4294967296 * b)
Fits-at a b p q = record { fits = omega arith }

-- a repeat is a word of its section, or 0
repeat_fits : (w : List ℕ) (i : ℕ) → ((k : ℕ) → slice_index w k < 2 ^ 32) → repeat_of w i < 2 ^ 32
repeat_fits w i fits =
    elim (cases_Bool (eqb (layout_of w) LAYOUT)) [
      | inl has ↦ rw has (fits (repeat_offset (header_of w) + i))
      | inr lacks ↦ rw lacks (omega arith)
    ]

HasImage-from : (w : List ℕ) → IsWellFormed w → AreFaultless w → HasImage (timetable_of w) (names_of w)
HasImage-from w form good =
    let small = IsSmall-from w (IsHeader-from w good.header).limits in
    let stops = (header_of w).stops in
    let trips = (header_of w).trips in
    record {
      legal = IsLegal-from w form.whole good;
      limits = record {
        stops = small.stops;
        trips = small.trips;
        connections = omega (arith, length-connections_of w, small.connections);
        footpaths = omega (arith, length-footpaths_of w form.whole form.feet, small.footpaths);
        times = λ i c e. (let s = connection_shown w i c e in subst (λ (x : Connection). x.arr < TIME_END) (sym s.1) (sound_at w good i s.0).arr);
        walks = λ k f e. (let s = footpath_shown w k f form.whole form.feet e in
            subst (λ (x : Footpath). x.secs ≤ MAX_WALK_SECS) (sym s.2)
            ((HasFootRange-from w s.0 (good.feet s.0 s.1.stop)).secs k s.1.start s.1.end));
      };
      names = record {
        stop_names = length-map-range_with_len (name_of w) 0 stops;
        trip_names = length-map-range_with_len (trip_name_of w) 0 trips;
        utf8 = λ i name e. (
            let s = shown_in (name_of w) (name_count w) i name (ap (λ (x : List (List ℕ)). slice_get x i) (sym (names_are w)) ∙ e) in
            subst (λ (x : List ℕ). IsUtf8 x) (sym s.1) (IsUtf8-from_is_utf8 (name_of w i) (IsName-from w i (good.names i s.0)).utf8));
        bytes = omega (
          arith,
          small.name_bytes,
          ap length (text_again w form.names) ∙ length-take-le (header_of w).name_bytes (padded_text_of w)
              (text_is_long w (padded_text_of w) form.whole refl),
        );
        days = λ i t e. (let s = shown_in (trip_name_of w) trips i t e in
            subst (λ (x : TripNameValue). x.day < 2 ^ 32) (sym s.1)
            (form.fits (day_offset (header_of w) + i)));
        repeats = λ i t e. (let s = shown_in (trip_name_of w) trips i t e in
            subst (λ (x : TripNameValue). x.repeat < 2 ^ 32) (sym s.1)
            (repeat_fits w i form.fits));
        base = sfits_to_z {w = w64} {n = slice_index w 7 + 4294967296 * slice_index w 8}
            (Fits-at (slice_index w 7) (slice_index w 8) (form.fits 7) (form.fits 8));
      };
    }

-- accepted words are the image of what they show
pub IsImage-from : (w : List ℕ) → IsAccepted w → IsImage w (timetable_of w) (names_of w)
IsImage-from w accepted =
    let good = AreFaultless-from w accepted.faultless in
    let form = IsWellFormed-from w accepted.fits accepted.whole good in
    record { can_be = HasImage-from w form good; layout = form.layout; first = first_again w; spelled = sym (image_again w form) }
