-- Every image is accepted, and shows what it was spelled from.
use Rattle.std.proofs.Common.{◌≡◌, ℕ, ◌+◌, ◌-◌, ◌^◌, ◌<◌, false, not, ◌&&◌, eqb, List, length, map, Some, None, refl, sym, ap, subst, ◌∙◌, arith}
use Rattle.std.specs.Prelude.{slice_get, slice_index}
use Rattle.std.specs.List.{range_with_len}
use Rattle.std.proofs.lemmas.Bool.{or_from, and_right, le-ltb, eq-eqb}
use Rattle.std.proofs.lemmas.Option.{slice_get-get_or}
use Rattle.std.proofs.lemmas.Str.{is_utf8-from_IsUtf8}
use Rattle.std.proofs.lemmas.List.{length-take-le}
use Rattle.std.proofs.lemmas.List.FromFn.{length-map-range_with_len, get_or-map-range_with_len}
use Rattle.timetable.specs.TimetableValue.{TimetableValue}
use Rattle.timetable.specs.NamesValue.{NamesValue}
use Rattle.image_layout.specs.Offsets.{header_of}
use Rattle.image_layout.specs.Fields.{layout_of, name_index_of}
use Rattle.image_layout.specs.Text.{padded_text_of}
use Rattle.image_layout.specs.Spelling.{name_list, text, image_in}
use Rattle.image_layout.specs.Shown.{name_count, name_of, timetable_of, names_of}
use Rattle.image_layout.specs.Image.{HasImage, IsImage}
use Rattle.image_layout.proofs.Names.{names_are, at_rises, text_again}
use Rattle.image_layout.proofs.Whole.{IsWellFormed, length-connections_of, length-footpaths_of, text_is_long}
use Rattle.image_layout.proofs.Back.{timetable_back}
use Rattle.image_layout.proofs.BackNames.{names_back, well_formed_back}
use Rattle.image_verifier.specs.declared.fault.ImageFault.TheVariants.{BadMagic, BadLayout, BadLength, FootRange, BadNames}
use Rattle.timetable.specs.First.{or_else, first_below}
use Rattle.image_verifier.specs.ConnectionFaults.{connection_fault, connections_fault}
use Rattle.image_verifier.specs.FootFaults.{foot_fault, foot_end_fault, footpaths_fault}
use Rattle.image_verifier.specs.ClosureFaults.{into_fault, closure_fault}
use Rattle.image_verifier.specs.NameFaults.{is_bad_name_range, name_fault, names_end_fault, names_fault}
use Rattle.image_verifier.specs.FirstFault.{is_too_large, header_fault, section_fault, first_fault}
use Rattle.timetable.proofs.FirstLemmas.{or_else-none, passes, first_below-all}
use Rattle.image_verifier.proofs.FaultlessLemmas.{connection_faultless, foot_faultless, into_faultless}

header_faultless : (w : List ℕ) → IsWellFormed w → HasImage (timetable_of w) (names_of w) → header_fault w ≡ None
unfolding header_fault
header_faultless w form can =
    let h = header_of w in
    let bytes : length (text (names_of w)) ≡ h.name_bytes =
    ap length (text_again w form.names) ∙ length-take-le h.name_bytes (padded_text_of w)
    (text_is_long w (padded_text_of w) form.whole refl) in
    let small : is_too_large h ≡ false =
    or_from _ _ (or_from _ _ (or_from _ _ (or_from _ _ (le-ltb _ _ can.limits.stops) (le-ltb _ _ can.limits.trips))
    (le-ltb _ _ (omega (arith, can.limits.connections, length-connections_of w))))
    (le-ltb _ _ (omega (arith, can.limits.footpaths, length-footpaths_of w form.whole form.feet))))
    (le-ltb _ _ (omega (arith, can.names.bytes, bytes))) in
    passes _ BadLength _ (le-ltb _ _ form.whole.has_header)
    (passes _ BadMagic _ (ap not (eq-eqb _ _ form.magic))
    (passes _ BadLayout _ (ap not form.layout)
    (passes _ BadLength None (or_from _ _ small (ap not (eq-eqb _ _ form.whole.all_there))) refl)))

name_faultless : (w : List ℕ) → IsWellFormed w → HasImage (timetable_of w) (names_of w) → (i : ℕ) → i < name_count w → name_fault w i ≡ None
unfolding name_fault
name_faultless w form can i lt =
    let count = name_count w in
    let far = at_rises (name_index_of w) (count - (i + 1)) (i + 1) (λ k below. form.names.rises k (omega arith)) in
    let end : name_index_of w ((i + 1) + (count - (i + 1))) ≡ (header_of w).name_bytes =
    (let q : (i + 1) + (count - (i + 1)) ≡ count =
    omega arith in ap (λ (x : ℕ). name_index_of w x) q ∙ form.names.end) in
    let zero_first : (eqb i 0 && not (eqb (name_index_of w 0) 0)) ≡ false = and_right _ _ (ap not (eq-eqb _ _ form.names.start)) in
    let range : is_bad_name_range w i ≡ false =
    or_from _ _ (or_from _ _ zero_first (le-ltb _ _ (form.names.rises i lt)))
    (le-ltb _ _ (omega (arith, far, end))) in
    let size = length-map-range_with_len (name_of w) 0 count in
    let at : slice_get (name_list (names_of w)) i ≡ Some (name_of w i) =
    ap (λ (x : List (List ℕ)). slice_get x i) (names_are w)
    ∙ slice_get-get_or (map (name_of w) (range_with_len 0 count)) i (name_of w 0) (omega (arith, size))
    ∙ ap Some (get_or-map-range_with_len (name_of w) 0 count i i (name_of w 0) lt (omega arith)) in
    passes _ (BadNames i) None (or_from _ _ range (ap not (is_utf8-from_IsUtf8 (name_of w i) (can.names.utf8 i (name_of w i) at)))) refl

names_end_faultless : (w : List ℕ) → IsWellFormed w → names_end_fault w ≡ None
unfolding names_end_fault
names_end_faultless w form =
    passes _ (BadNames (name_count w)) None (or_from _ _
    (or_from _ _ (ap not (eq-eqb _ _ form.names.end)) (ap not (eq-eqb _ _ form.names.start))) (ap not form.spare))
    refl

foot_end_faultless : (w : List ℕ) → IsWellFormed w → foot_end_fault w ≡ None
foot_end_faultless w form =
    passes _ (FootRange (header_of w).stops) None (or_from _ _ (ap not (eq-eqb _ _ form.feet.end)) (ap not (eq-eqb _ _ form.feet.start))) refl

-- well-formed words of a legal timetable and names within the limits have no fault
pub faultless : (w : List ℕ) → IsWellFormed w → HasImage (timetable_of w) (names_of w) → first_fault w ≡ None
unfolding first_fault section_fault
faultless w form can =
    let connections : connections_fault w ≡ None = first_below-all (connection_fault w) (header_of w).connections (connection_faultless w form can) in
    let feet : footpaths_fault w ≡ None = or_else-none (first_below (foot_fault w) (header_of w).stops)
    (foot_end_fault w) (first_below-all (foot_fault w) (header_of w).stops (foot_faultless w form can))
    ∙ foot_end_faultless w form in
    let closure : closure_fault w ≡ None = first_below-all (into_fault w) (header_of w).stops (into_faultless w form can) in
    let named : names_fault w ≡ None = or_else-none (first_below (name_fault w) (name_count w)) (names_end_fault w)
    (first_below-all (name_fault w) (name_count w) (name_faultless w form can)) ∙ names_end_faultless w form in
    or_else-none (header_fault w) (section_fault w) (header_faultless w form can)
    ∙ or_else-none (connections_fault w) (or_else (footpaths_fault w) (or_else (closure_fault w) (names_fault w))) connections
    ∙ or_else-none (footpaths_fault w) (or_else (closure_fault w) (names_fault w)) feet
    ∙ or_else-none (closure_fault w) (names_fault w) closure
    ∙ named

-- an image of words of 32 bits has no fault
pub image_is_faultless : (w : List ℕ) (p : TimetableValue) (n : NamesValue) → ((i : ℕ) → slice_index w i < 2 ^ 32) → IsImage w p n → first_fault w ≡ None
image_is_faultless w p n fits is_image =
    let can = is_image.can_be in
    let e = is_image.spelled in
    let layout = layout_of w in
    let fits_image : (i : ℕ) → slice_index (image_in layout p n) i < 2 ^ 32 = subst (λ (x : List ℕ). (i : ℕ) → slice_index x i < 2 ^ 32) e fits in
    let timetable = sym (timetable_back layout p n can) in
    let names = sym (names_back layout p n is_image.layout is_image.first can) in
    let shown : HasImage (timetable_of (image_in layout p n)) (names_of (image_in layout p n)) =
    subst (λ (q : TimetableValue). HasImage q (names_of (image_in layout p n))) timetable (subst (λ (m : NamesValue). HasImage p m) names can) in
    subst (λ (x : List ℕ). first_fault x ≡ None) (sym e)
    (faultless (image_in layout p n) (well_formed_back layout p n is_image.layout can fits_image) shown)
