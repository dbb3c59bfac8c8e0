-- Accepted words are the image of a legal timetable and names within the limits.
use Rattle.std.proofs.Common.{◌≡◌, ℕ, ◌+◌, ◌^◌, ◌<◌, ◌≤◌, true, false, not, ◌||◌, eqb, ltb, List, length, get_or, drop, None}
use Rattle.std.specs.Prelude.{slice_index}
use Rattle.std.specs.List.{list_all}
use Rattle.std.specs.Str.{is_utf8}
use Rattle.std.proofs.lemmas.Bool.{or_parts, ltb-false, eqb-true, not-false}
use Rattle.image_layout.specs.Offsets.{is_layout, header_of, word_count, IsWhole}
use Rattle.image_layout.specs.Fields.{trip_of, foot_index_of, name_index_of}
use Rattle.image_layout.specs.Text.{padded_text_of}
use Rattle.image_layout.specs.Shown.{name_count, name_of}
use Rattle.image_layout.proofs.Feet.{IsFootIndex}
use Rattle.image_layout.proofs.Whole.{IsWellFormed}
use Rattle.image_verifier.specs.declared.fault.ImageFault.TheVariants.{BadMagic, BadLayout, BadLength, FootRange, BadNames}
use Rattle.timetable.specs.First.{or_else, first_below}
use Rattle.image_verifier.specs.ConnectionFaults.{own_fault, order_fault_of, is_break, connection_fault, connections_fault, last_of_trip}
use Rattle.image_verifier.specs.FootFaults.{foot_fault, foot_end_fault, footpaths_fault}
use Rattle.image_verifier.specs.ClosureFaults.{into_fault, closure_fault}
use Rattle.image_verifier.specs.NameFaults.{is_bad_name_range, name_fault, names_end_fault, names_fault}
use Rattle.image_layout.specs.declared.layout.TheConstants.{MAGIC}
use Rattle.image_verifier.specs.FirstFault.{is_too_large, header_fault, section_fault, first_fault}
use Rattle.timetable.proofs.FirstLemmas.{or_else_parts, no_fault, first_below-none}
use Rattle.image_verifier.proofs.ConnectionLemmas.{IsSound-from}
use Rattle.image_verifier.proofs.FootLemmas.{HasFootRange-from}

-- each step without fault
pub record AreFaultless (w : List ℕ) : Type 0 where
  pub header : header_fault w ≡ None
  pub connections : (i : ℕ) → i < (header_of w).connections → connection_fault w i ≡ None
  pub feet : (s : ℕ) → s < (header_of w).stops → foot_fault w s ≡ None
  pub feet_end : foot_end_fault w ≡ None
  pub closure : (c : ℕ) → c < (header_of w).stops → into_fault w c ≡ None
  pub names : (i : ℕ) → i < name_count w → name_fault w i ≡ None
  pub names_end : names_end_fault w ≡ None

pub AreFaultless-from : (w : List ℕ) → first_fault w ≡ None → AreFaultless w
unfolding first_fault section_fault
AreFaultless-from w e =
    let a = or_else_parts (header_fault w) (section_fault w) e in
    let b = or_else_parts (connections_fault w) (or_else (footpaths_fault w) (or_else (closure_fault w) (names_fault w))) a.1 in
    let d = or_else_parts (footpaths_fault w) (or_else (closure_fault w) (names_fault w)) b.1 in
    let f = or_else_parts (closure_fault w) (names_fault w) d.1 in
    let feet = or_else_parts (first_below (foot_fault w) (header_of w).stops) (foot_end_fault w) d.0 in
    let named = or_else_parts (first_below (name_fault w) (name_count w)) (names_end_fault w) f.1 in
    record {
      header = a.0;
      connections = λ i lt. first_below-none (connection_fault w) (header_of w).connections i lt b.0;
      feet = λ s lt. first_below-none (foot_fault w) (header_of w).stops s lt feet.0;
      feet_end = feet.1;
      closure = λ c lt. first_below-none (into_fault w) (header_of w).stops c lt f.0;
      names = λ i lt. first_below-none (name_fault w) (name_count w) i lt named.0;
      names_end = named.1;
    }

-- the header of faultless words
pub record IsHeader (w : List ℕ) : Type 0 where
  pub magic : slice_index w 0 ≡ MAGIC
  pub layout : is_layout (slice_index w 1) ≡ true
  pub limits : is_too_large (header_of w) ≡ false
  pub whole : IsWhole w

pub IsHeader-from : (w : List ℕ) → header_fault w ≡ None → IsHeader w
unfolding header_fault
IsHeader-from w e =
    let a = no_fault (ltb (length w) 9) BadLength _ e in
    let b = no_fault (not (eqb (slice_index w 0) MAGIC)) BadMagic _ a.1 in
    let d = no_fault (not (is_layout (slice_index w 1))) BadLayout _ b.1 in
    let f = no_fault (is_too_large (header_of w) || not (eqb (length w) (word_count (header_of w)))) BadLength None d.1 in
    record {
      magic = eqb-true _ _ (not-false _ b.0);
      layout = not-false _ d.0;
      limits = (or_parts (is_too_large (header_of w)) _ f.0).0;
      whole = record { has_header = ltb-false _ _ a.0; all_there = eqb-true _ _ (not-false _ (or_parts (is_too_large (header_of w)) _ f.0).1) };
    }

pub IsFootIndex-from : (w : List ℕ) → AreFaultless w → IsFootIndex w
IsFootIndex-from w good =
    let f = no_fault (not (eqb (foot_index_of w (header_of w).stops) (header_of w).footpaths) || not
    (eqb (foot_index_of w 0) 0)) (FootRange (header_of w).stops) None good.feet_end in
    let ends = or_parts _ _ f.0 in
    record {
      start = eqb-true _ _ (not-false _ ends.1);
      rises = λ s lt. (HasFootRange-from w s (good.feet s lt)).rises;
      end = eqb-true _ _ (not-false _ ends.0);
    }

-- name i is a range of bytes, and UTF-8
pub record IsName (w : List ℕ) (i : ℕ) : Type 0 where
  pub rises : name_index_of w i ≤ name_index_of w (i + 1)
  pub within : name_index_of w (i + 1) ≤ (header_of w).name_bytes
  pub utf8 : is_utf8 (name_of w i) ≡ true

pub IsName-from : (w : List ℕ) (i : ℕ) → name_fault w i ≡ None → IsName w i
unfolding name_fault
IsName-from w i e =
    let f = no_fault (is_bad_name_range w i || not (is_utf8 (name_of w i))) (BadNames i) None e in
    let parts = or_parts (is_bad_name_range w i) _ f.0 in
    let outer = or_parts _ _ parts.0 in
    let inner = or_parts _ _ outer.0 in
    record { rises = ltb-false _ _ inner.1; within = ltb-false _ _ outer.1; utf8 = not-false _ parts.1 }

record IsNamesEnd (w : List ℕ) : Type 0 where
  start : name_index_of w 0 ≡ 0
  end : name_index_of w (name_count w) ≡ (header_of w).name_bytes
  spare : list_all (λ b. eqb b 0) (drop (header_of w).name_bytes (padded_text_of w)) ≡ true

IsNamesEnd-from : (w : List ℕ) → names_end_fault w ≡ None → IsNamesEnd w
unfolding names_end_fault
IsNamesEnd-from w e =
    let f = no_fault (not (eqb (name_index_of w (name_count w)) (header_of w).name_bytes) || not
    (eqb (name_index_of w 0) 0) || not (list_all (λ b. eqb b 0)
    (drop (header_of w).name_bytes (padded_text_of w)))) (BadNames (name_count w)) None e in
    let outer = or_parts _ _ f.0 in
    let inner = or_parts _ _ outer.0 in
    record { start = eqb-true _ _ (not-false _ inner.1); end = eqb-true _ _ (not-false _ inner.0); spare = not-false _ outer.1 }

pub own-none : (w : List ℕ) (i : ℕ) → connection_fault w i ≡ None
    → (own_fault w i ≡ None) × (order_fault_of w i (is_break w i (last_of_trip w (trip_of w i) i)) ≡ None)
unfolding connection_fault
own-none w i e = or_else_parts (own_fault w i) (order_fault_of w i (is_break w i (last_of_trip w (trip_of w i) i))) e

pub IsWellFormed-from : (w : List ℕ) → ((i : ℕ) → get_or w i 0 < 2 ^ 32) → IsWhole w → AreFaultless w → IsWellFormed w
IsWellFormed-from w fits whole good =
    let head = IsHeader-from w good.header in
    let tail = IsNamesEnd-from w good.names_end in
    record {
      whole = whole;
      fits = fits;
      magic = head.magic;
      layout = head.layout;
      flags = λ i lt. (IsSound-from w i (own-none w i (good.connections i lt)).0).flags;
      feet = IsFootIndex-from w good;
      names = record { start = tail.start; rises = λ i lt. (IsName-from w i (good.names i lt)).rises; end = tail.end };
      spare = tail.spare;
    }
