-- What can be wrong with the footpaths, in the order in which it is looked for.
use Rattle.std.specs.Prelude.{ℕ, ◌+◌, ◌-◌, ◌<◌, ◌≤◌, Bool, not, ◌||◌, ◌&&◌, ◌==◌, nat_lt, nat_le, List, Option, Some, None, if◌then◌else◌}
use Rattle.timetable.specs.declared.limits.TheConstants.{MAX_WALK_SECS}
use Rattle.image_layout.specs.Offsets.{header_of}
use Rattle.image_layout.specs.Fields.{foot_index_of, foot_from_of, foot_secs_of}
use Rattle.image_verifier.specs.declared.fault.ImageFault.{ImageFault}
use Rattle.image_verifier.specs.declared.fault.ImageFault.TheVariants.{FootRange, FootUnsorted, NoLoop}
use Rattle.timetable.specs.First.{or_else, first_below, any_between}

-- the footpath at index k leaves a stop that the image doesn't have, or takes too long
abbrev pub is_bad_footpath : List ℕ → ℕ → Bool
is_bad_footpath w k = nat_le (header_of w).stops (foot_from_of w k) || nat_lt MAX_WALK_SECS (foot_secs_of w k)

-- the footpath at index k leaves no higher stop than the footpath before it
abbrev pub is_fall : List ℕ → ℕ → Bool
is_fall w k = nat_le (foot_from_of w k) (foot_from_of w (k - 1))

-- the footpath at index k leaves stop a
abbrev pub is_from : List ℕ → ℕ → ℕ → Bool
is_from w a k = foot_from_of w k == a

-- the foot index has no range for the footpaths into stop s, or doesn't begin with 0
abbrev pub is_bad_index : List ℕ → ℕ → Bool
is_bad_index w s =
    (s == 0 && not (foot_index_of w 0 == 0)) || nat_lt (foot_index_of w (s + 1)) (foot_index_of w s) || nat_lt (header_of w).footpaths (foot_index_of w (s + 1))

-- the fault of the footpaths into stop s
unfoldable pub foot_fault : List ℕ → ℕ → Option ImageFault
foot_fault w s =
    if is_bad_index w s || any_between (is_bad_footpath w) (foot_index_of w s) (foot_index_of w (s + 1)) then Some (FootRange s)
    else (if any_between (is_fall w) (foot_index_of w s + 1) (foot_index_of w (s + 1)) then Some (FootUnsorted s)
    else (if not (any_between (is_from w s) (foot_index_of w s) (foot_index_of w (s + 1))) then Some (NoLoop s)
    else None))

-- the fault of the whole: the foot index must end with the number of footpaths, and begin with 0 even if there are no stops
abbrev pub foot_end_fault : List ℕ → Option ImageFault
foot_end_fault w =
    if not (foot_index_of w (header_of w).stops == (header_of w).footpaths) || not (foot_index_of w 0 == 0) then Some (FootRange (header_of w).stops)
    else None

-- the first fault of the footpaths, stop by stop
abbrev pub footpaths_fault : List ℕ → Option ImageFault
footpaths_fault w = or_else (first_below (foot_fault w) (header_of w).stops) (foot_end_fault w)

-- the range of the footpaths into stop s, and these footpaths, have no fault; a missing loop aside
pub record HasFootRange (w : List ℕ) (s : ℕ) : Type 0 where
  pub rises : foot_index_of w s ≤ foot_index_of w (s + 1)
  pub within : foot_index_of w (s + 1) ≤ (header_of w).footpaths
  pub from : (k : ℕ) → foot_index_of w s ≤ k → k < foot_index_of w (s + 1) → foot_from_of w k < (header_of w).stops
  pub rising : (k : ℕ) → foot_index_of w s ≤ k → k + 1 < foot_index_of w (s + 1) → foot_from_of w k < foot_from_of w (k + 1)
  pub secs : (k : ℕ) → foot_index_of w s ≤ k → k < foot_index_of w (s + 1) → foot_secs_of w k ≤ MAX_WALK_SECS

abbrev pub HasFootRanges : List ℕ → Type 0
HasFootRanges w = (s : ℕ) → s < (header_of w).stops → HasFootRange w s

-- the footpath at index k leads into stop s
pub record IsInto (w : List ℕ) (s k : ℕ) : Type 0 where
  pub stop : s < (header_of w).stops
  pub start : foot_index_of w s ≤ k
  pub end : k < foot_index_of w (s + 1)
