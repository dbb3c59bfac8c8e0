-- The service days of an image's trips, each with its number of trips.
use Rattle.std.specs.Prelude.{◌≡◌, ◌≤◌, ◌↔◌, ◌==◌, ◌++◌, ℕ, List, Contains, codes, decimal, map}
use Rattle.std.specs.List.{count_by, flat_map}
use Rattle.std.specs.List.Sorted.{IsStrictlyIncreasing}
use Rattle.timetable.specs.NamesValue.{NamesValue, TripNameValue}
use Rattle.text_pieces.specs.declared.form.Form.{Form}

-- the service day of each trip
abbrev pub trip_days : NamesValue → List ℕ
trip_days names = map (λ (t : TripNameValue). t.day) names.trips

-- how many trips a day has
abbrev pub trips_on : List ℕ → ℕ → ℕ
trips_on of_trips day = count_by (λ d. d == day) of_trips

-- the days that have a trip, each once, the earliest first
pub record AreServiceDays (of_trips days : List ℕ) : Type 0 where
  pub rising : IsStrictlyIncreasing days
  pub exact : (day : ℕ) → Contains days day ↔ (1 ≤ trips_on of_trips day)

-- the line of a day, with how many trips it has
unfoldable pub day_line : ℕ → ℕ → List ℕ
day_line count day = ((codes "trips-" ++ decimal day) ++ (codes " " ++ decimal count)) ++ codes "\n"

-- the same as a member of an object of JSON that isn't its first
unfoldable pub day_member : ℕ → ℕ → List ℕ
day_member count day = (codes ",\"trips-" ++ decimal day) ++ (codes "\":" ++ decimal count)

abbrev pub day_text : Form → ℕ → ℕ → List ℕ
day_text Form.Lines count day = day_line count day
day_text Form.Json count day = day_member count day

-- a line or a member for each of the days
abbrev pub days_text : Form → List ℕ → List ℕ → List ℕ
days_text form of_trips days = flat_map (λ day. day_text form (trips_on of_trips day) day) days

-- the text has one for each day that has a trip
abbrev pub HasDays : Form → List ℕ → List ℕ → Type 0
HasDays form of_trips text = (days : List ℕ) × AreServiceDays of_trips days × (text ≡ days_text form of_trips days)
