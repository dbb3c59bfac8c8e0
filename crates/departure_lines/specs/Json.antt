-- The best departures from a stop as JSON.
use Rattle.std.specs.Prelude.{ℕ, List, [], ◌∷◌, ◌++◌, Option, None, Some, codes, decimal}
use Rattle.text_pieces.specs.Json.{quoted_text, with_commas}
use Rattle.bags.specs.declared.point.Point.{Point}
use Rattle.criteria.specs.declared.figures.Figures.{Figures}
use Rattle.timetable.specs.Clocks.{clock_bytes}
use Rattle.journeys.specs.Texts.{text_of}
use Rattle.journeys.specs.declared.answering.Departure.{Departure}
use Rattle.departure_lines.specs.Words.{number_if_some}
use Rattle.departure_lines.specs.declared.stop_words.StopSummary.{StopSummary}

-- the times of a point as members of JSON
unfoldable pub times_json : ℕ → ℕ → List ℕ
times_json departure arrival =
    (codes "{\"arr\":\"" ++ clock_bytes arrival) ++ (codes "\",\"dep\":\"" ++ clock_bytes departure) ++ codes "\""

-- its trips and the seconds walked, each if the criterion counts it
unfoldable pub counts_json : Figures → List ℕ
counts_json figures = number_if_some (codes ",\"trips\":") figures.trips ++ number_if_some (codes ",\"walked\":") figures.walked ++ codes "}"

unfoldable pub point_json : {V : Type 0} → (V → Figures) → Point V → List ℕ
point_json figures point = times_json point.departure (figures point.value).arrival ++ counts_json (figures point.value)

unfoldable pub journey_member : List ℕ → List ℕ
journey_member journey = codes ",\"journey\":\"" ++ journey ++ codes "\""

unfoldable pub journey_json : {V : Type 0} → (V → Figures) → Departure V → List ℕ
journey_json figures departure =
    times_json departure.time (figures departure.value).arrival ++ journey_member (text_of departure.journey) ++ counts_json (figures departure.value)

abbrev pub walk_json : Option ℕ → List ℕ
walk_json None = codes ",\"walk\":null"
walk_json (Some seconds) = codes ",\"walk\":" ++ decimal seconds

-- what comes before the points of a stop, with its stop_id, and after them, with the seconds of the direct footpath
unfoldable pub json_head : List ℕ → List ℕ
json_head name = quoted_text (codes "{\"from\":") name ++ codes ",\"points\":["

unfoldable pub json_tail : Option ℕ → List ℕ
json_tail walk = codes "]" ++ walk_json walk ++ codes "}\n"

-- a stop without points has no line
abbrev pub json_if_some : List ℕ → List (List ℕ) → Option ℕ → List ℕ
json_if_some name [] walk = []
json_if_some name (x ∷ xs) walk = json_head name ++ with_commas (x ∷ xs) ++ json_tail walk

-- the line of a stop with what its departures come to, whose keys are the words of that line, in the order of their bytes, and `from`
unfoldable pub sum_head : List ℕ → StopSummary → List ℕ
sum_head name summary =
    (codes "{\"first\":\"" ++ clock_bytes summary.first) ++ quoted_text (codes "\",\"from\":") name
    ++ (codes ",\"last\":\"" ++ clock_bytes summary.last)

unfoldable pub sum_json : List ℕ → StopSummary → List ℕ
sum_json name summary =
    sum_head name summary ++ (codes "\",\"least\":" ++ decimal summary.least) ++ (codes ",\"points\":" ++ decimal summary.points)
    ++ walk_json summary.walk ++ codes "}\n"

-- the last line: how many stops have a line, how many points, and how many connections were read
unfoldable pub counts_json_line : ℕ → ℕ → ℕ → List ℕ
counts_json_line stops points read =
    (codes "{\"points\":" ++ decimal points) ++ (codes ",\"read\":" ++ decimal read) ++ (codes ",\"stops\":" ++ decimal stops) ++ codes "}\n"
