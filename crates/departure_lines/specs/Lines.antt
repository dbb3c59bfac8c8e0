-- The lines of the best departures from a stop.
use Rattle.std.specs.Prelude.{◌≡◌, ◌-◌, ◌≤◌, ℕ, List, [], ◌++◌, Option, None, Some, MatchOption, Contains, codes, decimal, length, map}
use Rattle.std.specs.Prelude.{slice_get}
use Rattle.std.specs.List.{flat_map}
use Rattle.bags.specs.declared.point.Point.{Point}
use Rattle.criteria.specs.declared.figures.Figures.{Figures}
use Rattle.timetable.specs.Clocks.{clock_bytes}
use Rattle.journeys.specs.declared.answering.Departure.{Departure}
use Rattle.text_pieces.specs.declared.form.Form.{Form}
use Rattle.departure_lines.specs.Json.{journey_json, json_if_some, point_json, sum_json}
use Rattle.departure_lines.specs.Words.{departure_line, numbered_text, values_text, walk_word}
use Rattle.departure_lines.specs.declared.stop_words.PointsForm.{PointsForm}
use Rattle.departure_lines.specs.declared.stop_words.StopSummary.{StopSummary}

-- the line of a best departure from a stop, after the stop_id
unfoldable pub line_from : {V : Type 0} → (V → Figures) → List ℕ → Departure V → List ℕ
line_from figures name departure = (name ++ codes " ") ++ departure_line figures numbered_text departure

-- the same without a journey
unfoldable pub point_line : {V : Type 0} → (V → Figures) → List ℕ → Point V → List ℕ
point_line figures name point = (name ++ codes " ") ++ values_text point.departure (figures point.value) ++ codes "\n"

-- the seconds from a departure to its arrival
abbrev pub travel : {V : Type 0} → (V → Figures) → Point V → ℕ
travel figures point = (figures point.value).arrival - point.departure

-- the least of some numbers
pub record IsLeast (numbers : List ℕ) (least : ℕ) : Type 0 where
  pub reached : Contains numbers least
  pub none_less : (n : ℕ) → Contains numbers n → least ≤ n

unfoldable pub sum_words : List ℕ → StopSummary → List ℕ
sum_words name summary =
    name ++ (codes " points " ++ decimal summary.points) ++ (codes " first " ++ clock_bytes summary.first) ++ (codes " last " ++ clock_bytes summary.last)

unfoldable pub sum_line : List ℕ → StopSummary → List ℕ
sum_line name summary = sum_words name summary ++ (codes " least " ++ decimal summary.least) ++ walk_word summary.walk ++ codes "\n"

-- the text of a summary, if there is one, as a line or as an object of JSON on one line
abbrev pub summary_text : Form → List ℕ → Option StopSummary → List ℕ
summary_text form name None = []
summary_text Form.Lines name (Some summary) = sum_line name summary
summary_text Form.Json name (Some summary) = sum_json name summary

-- what the points of a stop come to: how many there are, the first, the last, the least seconds of travel, and those of the direct footpath
pub record IsSummaryOf {V : Type 0} (figures : V → Figures) (points : List (Point V)) (walk : Option ℕ) (summary : StopSummary) : Type 0 where
  pub first : Point V
  pub last : Point V
  pub begins : slice_get points 0 ≡ Some first
  pub ends : slice_get points (length points - 1) ≡ Some last
  pub least_is : IsLeast (map (travel figures) points) summary.least
  pub is : summary ≡ record summary { points = length points; first = first.departure; last = last.departure; walk = walk }

-- a stop without departures has no summary
abbrev pub SumsUp : {V : Type 0} → (V → Figures) → List (Point V) → Option ℕ → Option StopSummary → Type 0
SumsUp figures points walk summary = MatchOption summary (length points ≡ 0) (IsSummaryOf figures points walk)

-- the text is that of the summary
abbrev pub IsSummary : {V : Type 0} → (V → Figures) → Form → List ℕ → List (Point V) → Option ℕ → List ℕ → Type 0
IsSummary figures form name points walk text =
    (summary : Option StopSummary) × SumsUp figures points walk summary × (text ≡ summary_text form name summary)

-- departures from a stop, with their journeys: lines, or a line of JSON, which has the seconds of the direct footpath too
abbrev pub journeys_text : {V : Type 0} → (V → Figures) → Form → List ℕ → List (Departure V) → Option ℕ → List ℕ
journeys_text figures Form.Lines name departures walk = flat_map (line_from figures name) departures
journeys_text figures Form.Json name departures walk = json_if_some name (map (journey_json figures) departures) walk

-- the text is that of a stop's points, without journeys
abbrev pub ArePoints : {V : Type 0} → (V → Figures) → PointsForm → List ℕ → List (Point V) → Option ℕ → List ℕ → Type 0
ArePoints figures (PointsForm.Each Form.Lines) name points walk text = text ≡ flat_map (point_line figures name) points
ArePoints figures (PointsForm.Each Form.Json) name points walk text = text ≡ json_if_some name (map (point_json figures) points) walk
ArePoints figures (PointsForm.Summary form) name points walk text = IsSummary figures form name points walk text

-- the last line: how many stops have a line, how many points, and how many connections were read
unfoldable pub counts_line : ℕ → ℕ → ℕ → List ℕ
counts_line stops points read = (codes "stops " ++ decimal stops) ++ (codes " points " ++ decimal points) ++ (codes " read " ++ decimal read) ++ codes "\n"
