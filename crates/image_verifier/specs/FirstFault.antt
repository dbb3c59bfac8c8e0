-- The first fault of words, in the order in which the steps are taken.
use Rattle.std.specs.Prelude.{◌≡◌, ◌⊎◌, ℕ, Bool, not, ◌||◌, ◌==◌, nat_lt, List, length, slice_index, Option, Some, None, if◌then◌else◌}
use Rattle.image_layout.specs.declared.header.Header.{Header}
use Rattle.image_layout.specs.Offsets.{is_layout, header_of, word_count}
use Rattle.image_verifier.specs.declared.fault.ImageFault.{ImageFault}
use Rattle.image_verifier.specs.declared.fault.ImageFault.TheVariants.{BadMagic, BadLayout, BadLength, OutOfMemory}
use Rattle.timetable.specs.declared.limits.TheConstants.{MAX_STOPS, MAX_TRIPS, MAX_CONNECTIONS, MAX_FOOTPATHS, MAX_NAME_BYTES}
use Rattle.image_layout.specs.declared.layout.TheConstants.{MAGIC, HEADER_WORDS}
use Rattle.timetable.specs.First.{or_else}
use Rattle.image_verifier.specs.ConnectionFaults.{connections_fault}
use Rattle.image_verifier.specs.FootFaults.{footpaths_fault}
use Rattle.image_verifier.specs.ClosureFaults.{closure_fault}
use Rattle.image_verifier.specs.NameFaults.{names_fault}

-- a count is past its limit
abbrev pub is_too_large : Header → Bool
is_too_large h = nat_lt MAX_STOPS h.stops || nat_lt MAX_TRIPS h.trips || nat_lt MAX_CONNECTIONS h.connections || nat_lt
    MAX_FOOTPATHS h.footpaths || nat_lt MAX_NAME_BYTES h.name_bytes

-- the first fault of the header, before any memory is taken
unfoldable pub header_fault : List ℕ → Option ImageFault
header_fault w =
    if nat_lt (length w) HEADER_WORDS then Some BadLength
    else (if not (slice_index w 0 == MAGIC) then Some BadMagic
    else (if not (is_layout (slice_index w 1)) then Some BadLayout
    else (if is_too_large (header_of w) || not (length w == word_count (header_of w)) then Some BadLength
    else None)))

-- the first fault after the header
unfoldable pub section_fault : List ℕ → Option ImageFault
section_fault w = or_else (connections_fault w) (or_else (footpaths_fault w) (or_else (closure_fault w) (names_fault w)))

unfoldable pub first_fault : List ℕ → Option ImageFault
first_fault w = or_else (header_fault w) (section_fault w)

-- the fault is the first one, or OutOfMemory, which comes only if the header has no fault
abbrev pub Tells : List ℕ → ImageFault → Type 0
Tells w f = (first_fault w ≡ Some f) ⊎ ((f ≡ OutOfMemory) × (header_fault w ≡ None))
