-- What can be wrong with the names, in the order in which it is looked for.
use Rattle.std.specs.Prelude.{ℕ, ◌+◌, Bool, not, ◌||◌, ◌&&◌, ◌==◌, nat_lt, List, drop, Option, Some, None, if◌then◌else◌}
use Rattle.std.specs.List.{list_all}
use Rattle.std.specs.Str.{is_utf8}
use Rattle.image_layout.specs.Offsets.{header_of}
use Rattle.image_layout.specs.Fields.{name_index_of}
use Rattle.image_layout.specs.Text.{padded_text_of}
use Rattle.image_layout.specs.Shown.{name_count, name_of}
use Rattle.image_verifier.specs.declared.fault.ImageFault.{ImageFault}
use Rattle.image_verifier.specs.declared.fault.ImageFault.TheVariants.{BadNames}
use Rattle.timetable.specs.First.{or_else, first_below}

-- the name index has no range for name i, or doesn't begin with 0
abbrev pub is_bad_name_range : List ℕ → ℕ → Bool
is_bad_name_range w i = (i == 0 && not (name_index_of w 0 == 0)) || nat_lt (name_index_of w (i + 1))
    (name_index_of w i) || nat_lt (header_of w).name_bytes (name_index_of w (i + 1))

-- the fault of name i
unfoldable pub name_fault : List ℕ → ℕ → Option ImageFault
name_fault w i = if is_bad_name_range w i || not (is_utf8 (name_of w i)) then Some (BadNames i) else None

-- the fault of the whole: the name index must end with the number of bytes, and begin with 0 even if there are no names, and the spare bytes
-- must be 0
unfoldable pub names_end_fault : List ℕ → Option ImageFault
names_end_fault w =
    if not (name_index_of w (name_count w) == (header_of w).name_bytes) || not (name_index_of w 0 == 0) || not
    (list_all (λ b. b == 0) (drop (header_of w).name_bytes (padded_text_of w)))
    then Some (BadNames (name_count w)) else None

-- the first fault of the names, one by one
abbrev pub names_fault : List ℕ → Option ImageFault
names_fault w = or_else (first_below (name_fault w) (name_count w)) (names_end_fault w)
