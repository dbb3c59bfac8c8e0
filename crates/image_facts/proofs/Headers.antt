-- What the header of an image says of it.
use Rattle.std.proofs.Common.{◌≡◌, ◌≤◌, List, ℕ, ap, length, subst, sym}
use Rattle.image_layout.specs.Fields.{layout_of}
use Rattle.image_layout.specs.Image.{ImageValue, Spells}
use Rattle.image_layout.specs.Offsets.{IsWhole, header_of}
use Rattle.image_layout.specs.Spelling.{image_in, text}
use Rattle.image_layout.proofs.Back.{image_is_whole}

pub has_header : (w : List ℕ) (image : ImageValue) → Spells w image → 9 ≤ length w
has_header w image spells =
    let whole : IsWhole w = subst (λ v. IsWhole v) (sym spells.0.spelled) (image_is_whole (layout_of w) image.timetable image.names spells.0.can_be) in
    whole.has_header

pub name_bytes_of : (w : List ℕ) (image : ImageValue) → Spells w image → (header_of w).name_bytes ≡ length (text image.names)
unfolding image_in
name_bytes_of w image spells = ap (λ v. (header_of v).name_bytes) spells.0.spelled
