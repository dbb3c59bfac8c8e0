-- The names of a timetable as lists of bytes.
use Rattle.std.specs.Prelude.{ℕ, ℤ, List}

-- the name of a trip, its service day as the number YYYYMMDD, and which of the day's repeats it is, from 0 on
pub record TripNameValue : Type 0 where
  pub name : List ℕ
  pub day : ℕ
  pub repeat : ℕ

-- the instant from which times count, in seconds after 1970-01-01T00:00:00Z, and a name for each stop and each trip
pub record NamesValue : Type 0 where
  pub base : ℤ
  pub stops : List (List ℕ)
  pub trips : List TripNameValue
