-- The names of an image as texts.
use Rattle.std.specs.Prelude.{ℕ, List, [], slice_get, Option, Some, None, option_map}
use Rattle.timetable.specs.NamesValue.{NamesValue, TripNameValue}

-- the bytes of a name, or none if there is no such name
abbrev pub bytes_or_none : Option (List ℕ) → List ℕ
bytes_or_none None = []
bytes_or_none (Some name) = name

abbrev pub stop_bytes : NamesValue → ℕ → List ℕ
stop_bytes names stop = bytes_or_none (slice_get names.stops stop)

abbrev pub trip_bytes : NamesValue → ℕ → List ℕ
trip_bytes names trip = bytes_or_none (option_map (λ (t : TripNameValue). t.name) (slice_get names.trips trip))
