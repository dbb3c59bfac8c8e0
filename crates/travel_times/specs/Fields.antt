-- The rows of a table of travel times, as fields.
use Rattle.std.specs.Prelude.{◌-◌, ℕ, List, [], ◌∷◌, codes, decimal, length, map, Option, None, Some, option_map, slice_get}
use Rattle.criteria.specs.declared.figures.Figures.{Figures}
use Rattle.timetable.specs.Clocks.{clock_bytes}
use Rattle.travel_times.specs.Figures.{least_of, travel}
use Rattle.travel_times.specs.declared.spans.Span.{Span}

-- a number, or a blank
abbrev pub number_field : Option ℕ → List ℕ
number_field None = []
number_field (Some number) = decimal number

-- a time as a clock, or a blank
abbrev pub clock_field : Option ℕ → List ℕ
clock_field None = []
clock_field (Some time) = clock_bytes time

-- when one departs, if there is one
abbrev pub departure_of : Option Span → Option ℕ
departure_of span = option_map (λ s. s.departure) span

-- the first departure, and the last
abbrev pub first_departure : List Span → Option ℕ
first_departure spans = departure_of (slice_get spans 0)

abbrev pub last_departure : List Span → Option ℕ
last_departure spans = departure_of (slice_get spans (length spans - 1))

-- the row of a pair of stops
unfoldable pub pair_fields : List ℕ → List ℕ → List Span → Option ℕ → Option ℕ → List (List ℕ)
pair_fields from to spans mean walk =
    from ∷ to ∷ decimal (length spans) ∷ clock_field (first_departure spans) ∷ clock_field (last_departure spans)
    ∷ number_field (least_of (map travel spans)) ∷ number_field mean ∷ number_field walk ∷ []

-- the row of a departure
unfoldable pub point_fields : List ℕ → List ℕ → ℕ → Figures → List (List ℕ)
point_fields from to departure figures =
    from ∷ to ∷ clock_bytes departure ∷ clock_bytes figures.arrival ∷ decimal (figures.arrival - departure)
    ∷ number_field figures.trips ∷ number_field figures.walked ∷ []

-- the first row of a table of pairs, and of one of departures
abbrev pub pair_names : List (List ℕ)
pair_names =
    codes "from" ∷ codes "to" ∷ codes "points" ∷ codes "first_departure" ∷ codes "last_departure" ∷ codes "least_seconds"
    ∷ codes "mean_seconds" ∷ codes "walk" ∷ []

abbrev pub point_names : List (List ℕ)
point_names =
    codes "from" ∷ codes "to" ∷ codes "departure" ∷ codes "arrival" ∷ codes "seconds" ∷ codes "trips" ∷ codes "walked" ∷ []
