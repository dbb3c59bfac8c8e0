-- Footpaths end to end that are shorter than the direct one.
use Rattle.std.specs.Prelude.{◌≡◌, ℕ, ◌+◌, ◌<◌, Bool, true, false, ◌==◌, nat_lt, List, length, slice_index, Option, Some, None, if◌then◌else◌}
use Rattle.image_layout.specs.Offsets.{header_of}
use Rattle.image_layout.specs.Fields.{foot_index_of, foot_from_of, foot_secs_of}
use Rattle.image_verifier.specs.declared.closure.TheConstants.{NEVER}
use Rattle.image_verifier.specs.declared.fault.ImageFault.{ImageFault}
use Rattle.image_verifier.specs.declared.fault.ImageFault.TheVariants.{NotClosed}
use Rattle.timetable.specs.First.{first_below, first_between}

-- the seconds of the footpath at index k, if it leaves stop a
abbrev pub secs_from : List ℕ → ℕ → ℕ → Option ℕ
secs_from w a k = if foot_from_of w k == a then Some (foot_secs_of w k) else None

-- the seconds of the footpath from stop a into stop c, if there is one
unfoldable pub secs_between : List ℕ → ℕ → ℕ → Option ℕ
secs_between w a c = first_between (secs_from w a) (foot_index_of w c) (foot_index_of w (c + 1))

-- there are a first and a second footpath, and no direct one takes at most their seconds
abbrev pub is_open : Option ℕ → Option ℕ → Option ℕ → Bool
is_open (Some first) (Some second) (Some direct) = nat_lt (first + second) direct
is_open (Some first) (Some second) None = true
is_open _ _ _ = false

-- the fault of going from stop a by way of stop b to stop c
unfoldable pub open_fault : List ℕ → ℕ → ℕ → ℕ → Option ImageFault
open_fault w a b c = if is_open (secs_between w a b) (secs_between w b c) (secs_between w a c) then Some (NotClosed a b c) else None

-- faults come in the order of the last stop, then of the middle one, then of the first one
unfoldable pub way_fault : List ℕ → ℕ → ℕ → Option ImageFault
way_fault w b c = first_below (λ a. open_fault w a b c) (header_of w).stops

unfoldable pub into_fault : List ℕ → ℕ → Option ImageFault
into_fault w c = first_below (λ b. way_fault w b c) (header_of w).stops

abbrev pub closure_fault : List ℕ → Option ImageFault
closure_fault w = first_below (into_fault w) (header_of w).stops

-- the seconds, or NEVER, which is more than any two footpaths take together
abbrev pub or_never : Option ℕ → ℕ
or_never None = NEVER
or_never (Some secs) = secs

-- the entry of each stop: the seconds of the footpath that leaves it, among those from index low up to before index high
pub record HasSecs (w : List ℕ) (low high : ℕ) (secs : List ℕ) : Type 0 where
  pub size : length secs ≡ (header_of w).stops
  pub entry : (a : ℕ) → a < (header_of w).stops → slice_index secs a ≡ or_never (first_between (secs_from w a) low high)
