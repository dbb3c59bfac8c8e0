-- What the calls of an accepted image say of the timetable that it shows.
use Rattle.std.proofs.Common.{◌≡◌, ◌↔◌, ℕ, ◌+◌, ◌<◌, ◌≤◌, List, length, get_or, sym, ap, subst, ◌∙◌, arith, inl, inr}
use Rattle.std.proofs.lemmas.Bool.{cases_order}
use Rattle.std.proofs.lemmas.Option.{slice_get-get_or}
use Rattle.timetable.specs.declared.network.Footpath.{Footpath}
use Rattle.timetable.specs.Legal.{At}
use Rattle.image_layout.specs.Offsets.{header_of}
use Rattle.image_layout.specs.Fields.{foot_index_of}
use Rattle.image_layout.specs.Shown.{footpaths_of}
use Rattle.image_layout.proofs.Whole.{length-footpaths_of}
use Rattle.image_layout.proofs.Found.{footpath_shown}
use Rattle.image_verifier.specs.Accepted.{IsAccepted}
use Rattle.image_verifier.proofs.AcceptedLemmas.{AreFaultless-from, IsFootIndex-from}
use Rattle.image_verifier.proofs.LegalLemmas.{passed}

pub walks_order : (w : List ℕ) (stop : ℕ) → IsAccepted w → stop < (header_of w).stops → foot_index_of w stop ≤ foot_index_of w (stop + 1)
walks_order w stop accepted lt = (IsFootIndex-from w (AreFaultless-from w accepted.faultless)).rises stop lt

pub walks_within : (w : List ℕ) (stop : ℕ) → IsAccepted w → stop < (header_of w).stops → foot_index_of w (stop + 1) ≤ length (footpaths_of w)
walks_within w stop accepted lt =
    let feet = IsFootIndex-from w (AreFaultless-from w accepted.faultless) in
    omega (arith, passed w feet stop (header_of w).stops lt (omega arith), feet.end, length-footpaths_of w accepted.whole feet)

pub walks_exact : (w : List ℕ) (stop : ℕ) → IsAccepted w → stop < (header_of w).stops → (k : ℕ) (f : Footpath)
    → At (footpaths_of w) k f → (f.to ≡ stop) ↔ ((foot_index_of w stop ≤ k) × (k < foot_index_of w (stop + 1)))
walks_exact w stop accepted lt k f at =
    let feet = IsFootIndex-from w (AreFaultless-from w accepted.faultless) in
    let s = footpath_shown w k f accepted.whole feet at in
    let to : f.to ≡ s.0 = ap (λ (x : Footpath). x.to) s.2 in (
      λ e. (subst (λ (x : ℕ). foot_index_of w x ≤ k) (sym to ∙ e) s.1.start, subst (λ (x : ℕ). k < foot_index_of w (x + 1)) (sym to ∙ e) s.1.end),
      λ range. elim (cases_order s.0 stop) [
        | inl same ↦ to ∙ same
        | inr (inl below) ↦ absurd (omega (arith, passed w feet s.0 stop below (omega arith), s.1.end, range.0))
        | inr (inr above) ↦ absurd (omega (arith, passed w feet stop s.0 above (omega (arith, s.1.stop)), s.1.start, range.1))
      ],
    )

pub walks_count : (w : List ℕ) → IsAccepted w → length (footpaths_of w) ≡ (header_of w).footpaths
walks_count w accepted = length-footpaths_of w accepted.whole (IsFootIndex-from w (AreFaultless-from w accepted.faultless))

-- footpaths stand at the indices of the index
pub foot_index_within : (w : List ℕ) (stop position : ℕ) → IsAccepted w → stop < (header_of w).stops
    → position < foot_index_of w (stop + 1) → position < (header_of w).footpaths
foot_index_within w stop position accepted lt at = omega (arith, walks_within w stop accepted lt, walks_count w accepted)

-- the index of a footpath that leads into a stop is among those into it
pub is_among : (w : List ℕ) (stop position : ℕ) → IsAccepted w → stop < (header_of w).stops
    → position < length (footpaths_of w) → ((f : Footpath) → At (footpaths_of w) position f → f.to ≡ stop)
    → (foot_index_of w stop ≤ position) × (position < foot_index_of w (stop + 1))
is_among w stop position accepted lt within into =
    let no_path : Footpath = record { from = 0; to = 0; secs = 0 } in
    let at = slice_get-get_or (footpaths_of w) position no_path within in
    (walks_exact w stop accepted lt position (get_or (footpaths_of w) position no_path) at).0 (into (get_or (footpaths_of w) position no_path) at)
