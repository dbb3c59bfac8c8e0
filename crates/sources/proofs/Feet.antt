-- The footpaths in the words of an image: where those into each stop start, and what is said of each.
use Rattle.std.proofs.Common.{◌≡◌, ℕ, ◌+◌, ◌*◌, List, length, get_or, take, drop, refl, ap, sym, subst, ◌∙◌, arith, inl, inr}
use Rattle.std.specs.List.{flat_map}
use Rattle.std.proofs.lemmas.Bool.{cases_lt}
use Rattle.std.proofs.lemmas.List.{take_at}
use Rattle.std.proofs.lemmas.List.FromFn.{length-map-range_with_len, get_or-map-range_with_len}
use Rattle.std.proofs.lemmas.List.Sums.{count_by-le-length}
use Rattle.std.specs.Prelude.{nat_lt}
use Rattle.timetable.specs.declared.network.Footpath.{Footpath}
use Rattle.timetable.specs.TimetableValue.{TimetableValue}
use Rattle.timetable.specs.NamesValue.{NamesValue}
use Rattle.timetable.specs.Legal.{IsLegal}
use Rattle.image_layout.specs.Spelling.{connection_words, footpath_words, footpath_count_below, foot_index, image_in}
use Rattle.image_layout.specs.Image.{ImageValue, Spells}
use Rattle.image_layout.specs.Fields.{layout_of}
use Rattle.image_layout.specs.Offsets.{header_of, IsWhole, foot_index_offset, footpath_offset, name_index_offset}
use Rattle.image_layout.proofs.Back.{image_is_whole}
use Rattle.image_layout.proofs.Spelled.{NeverFalls, from_foot_index, from_footpaths, from_names, skip, pieces_long, offset_below, offset_above}
use Rattle.sources.specs.FootStarts.{IsStartIndex, AreStarts}

-- the foot index says where the footpaths into each stop start
pub index_starts : (t : TimetableValue) → IsLegal t → AreStarts t (foot_index t)
index_starts t legal =
    let fs = t.footpaths in
    let never_falls : NeverFalls fs = λ i d e at_d at_e. (legal.in_order i d e at_d at_e).0 in
    record {
      each = length-map-range_with_len (footpath_count_below fs) 0 (t.stops + 1);
      start = λ stop le. (
          let at : get_or (foot_index t) stop 0 ≡ footpath_count_below fs stop =
          get_or-map-range_with_len (footpath_count_below fs) 0 (t.stops + 1) stop stop 0 (omega arith) (omega (arith, le)) in
          subst (λ (x : ℕ). IsStartIndex t stop x) (sym at) (record {
            within = count_by-le-length (λ (f : Footpath). nat_lt f.to stop) fs;
            exact = λ k f at_k. (
              λ below. offset_below fs k stop f never_falls at_k below,
              λ early. elim (cases_lt f.to stop) [
                | inl below ↦ below
                | inr above ↦ absurd (omega (arith, early, offset_above fs k stop f never_falls at_k above))
              ],
            );
          })
          );
    }

-- the words behind those of the connections begin with the foot index
from_index : (layout : ℕ) (t : TimetableValue) (n : NamesValue)
    → drop (9 + 6 * length t.connections) (image_in layout t n) ≡ from_foot_index layout t n
unfolding image_in
from_index layout t n =
    skip (image_in layout t n) (flat_map connection_words t.connections) (from_foot_index layout t n) 9
    (6 * length t.connections) (pieces_long connection_words 6 (λ x. refl) t.connections) refl

index_long : (t : TimetableValue) → length (foot_index t) ≡ t.stops + 1
index_long t = length-map-range_with_len (footpath_count_below t.footpaths) 0 (t.stops + 1)

-- the section of the foot index
pub index_there : (layout : ℕ) (t : TimetableValue) (n : NamesValue)
    → take (t.stops + 1) (drop (9 + 6 * length t.connections) (image_in layout t n)) ≡ foot_index t
index_there layout t n =
    ap (λ (w : List ℕ). take (t.stops + 1) w) (from_index layout t n)
    ∙ take_at (foot_index t) (from_footpaths layout t n) (t.stops + 1) (index_long t)

-- the section of the footpaths
pub feet_there : (layout : ℕ) (t : TimetableValue) (n : NamesValue)
    → take (2 * length t.footpaths) (drop ((9 + 6 * length t.connections) + (t.stops + 1)) (image_in layout t n))
    ≡ flat_map footpath_words t.footpaths
feet_there layout t n =
    ap (λ (w : List ℕ). take (2 * length t.footpaths) w) (skip (image_in layout t n) (foot_index t) (from_footpaths layout t n)
    (9 + 6 * length t.connections) (t.stops + 1) (index_long t) (from_index layout t n))
    ∙ take_at (flat_map footpath_words t.footpaths) (from_names layout n) (2 * length t.footpaths)
    (pieces_long footpath_words 2 (λ x. refl) t.footpaths)

pub words_whole : (w : List ℕ) (image : ImageValue) → Spells w image → IsWhole w
words_whole w image spells =
    subst (λ (x : List ℕ). IsWhole x) (sym spells.0.spelled) (image_is_whole (layout_of w) image.timetable image.names spells.0.can_be)

-- where the sections of the footpaths stand in the words of an image, and what they say
pub record HasFeet (w : List ℕ) (t : TimetableValue) : Type 0 where
  pub index : foot_index_offset (header_of w) ≡ 9 + 6 * length t.connections
  pub feet : footpath_offset (header_of w) ≡ (9 + 6 * length t.connections) + (t.stops + 1)
  pub names : name_index_offset (header_of w) ≡ (9 + 6 * length t.connections) + (t.stops + 1) + 2 * length t.footpaths
  pub starts_there : take (t.stops + 1) (drop (9 + 6 * length t.connections) w) ≡ foot_index t
  pub feet_there : take (2 * length t.footpaths) (drop ((9 + 6 * length t.connections) + (t.stops + 1)) w)
      ≡ flat_map footpath_words t.footpaths

in_image : (layout : ℕ) (t : TimetableValue) (n : NamesValue) → HasFeet (image_in layout t n) t
unfolding image_in
in_image layout t n = record {
  index = refl;
  feet = omega arith;
  names = omega arith;
  starts_there = index_there layout t n;
  feet_there = feet_there layout t n;
}

pub words_header : (w : List ℕ) (image : ImageValue) → Spells w image → HasFeet w image.timetable
words_header w image spells =
    subst (λ (x : List ℕ). HasFeet x image.timetable) (sym spells.0.spelled) (in_image (layout_of w) image.timetable image.names)
