-- The text of the best departures from all stops to any of several.
use Rattle.std.specs.Prelude.{◌≡◌, ℕ, Bool, not, ◌&&◌, nat_eq, List, ◌++◌, Option, Contains, filter, length, map, min}
use Rattle.std.specs.List.{AllZip, flat_map, list_any, range_with_len, sum_by}
use Rattle.criteria.specs.Laws.{Rules}
use Rattle.criteria.specs.declared.figures.Figures.{Figures}
use Rattle.bags.specs.declared.point.Point.{Point}
use Rattle.timetable.specs.TimetableValue.{TimetableValue}
use Rattle.timetable.specs.declared.network.Footpath.{Footpath}
use Rattle.image_layout.specs.Image.{ImageValue}
use Rattle.image_facts.specs.Naming.{stop_bytes}
use Rattle.text_pieces.specs.declared.form.Form.{Form}
use Rattle.scan_state.specs.SetQuery.{SetQueryValue, IsAnswerBetween, IsDirectWalk, secs_of}
use Rattle.scan_state.specs.Origins.{from_stop}
use Rattle.profile_scan.specs.Window.{window_of}
use Rattle.journeys.specs.Answer.{point_of}
use Rattle.journeys.specs.Extracted.{AttainsBetween}
use Rattle.journeys.specs.declared.answering.Departure.{Departure}
use Rattle.departure_lines.specs.Json.{counts_json_line}
use Rattle.departure_lines.specs.Lines.{ArePoints, counts_line, journeys_text}
use Rattle.departure_lines.specs.Naming.{is_wanted}
use Rattle.command_requests.specs.declared.requests.DeparturesForm.{DeparturesForm}
use Rattle.image_files.specs.declared.names.NameForm.{NameForm}
use Rattle.departure_lines.specs.declared.stop_lines.StopCounts.{StopCounts}
use Rattle.departure_lines.specs.declared.stop_lists.WantedStops.{WantedStops}
use Rattle.departure_lines.specs.declared.stop_words.PointsForm.{PointsForm}

-- points with journeys: there are departures, one for each point in order, each with a journey that attains it, of which `said` holds
pub record HasJourneys {V : Type 0} (rules : Rules V) (t : TimetableValue) (b : SetQueryValue) (points : List (Point V))
    (said : List (Departure V) → Type 0) : Type 0 where
  pub departures : List (Departure V)
  pub are : points ≡ map point_of departures
  pub attained : (departure : Departure V) → Contains departures departure → AttainsBetween rules t b (point_of departure) departure.journey
  pub holds : said departures

abbrev pub journeys_form : Form → DeparturesForm
journeys_form Form.Lines = DeparturesForm.Journeys
journeys_form Form.Json = DeparturesForm.Json

abbrev pub points_form : PointsForm → DeparturesForm
points_form (PointsForm.Each Form.Lines) = DeparturesForm.Points
points_form (PointsForm.Each Form.Json) = DeparturesForm.JsonPoints
points_form (PointsForm.Summary Form.Lines) = DeparturesForm.Summary
points_form (PointsForm.Summary Form.Json) = DeparturesForm.JsonSummary

-- how names are written in a form, to where they are written so in lines: JSON escapes them itself
abbrev pub names_of : DeparturesForm → NameForm → NameForm
names_of DeparturesForm.Journeys names = names
names_of DeparturesForm.Points names = names
names_of DeparturesForm.Summary names = names
names_of DeparturesForm.Json names = NameForm.Raw
names_of DeparturesForm.JsonPoints names = NameForm.Raw
names_of DeparturesForm.JsonSummary names = NameForm.Raw

-- the text of a stop's points, in a form
abbrev pub IsInForm : {V : Type 0} → (V → Figures) → Rules V → DeparturesForm → ImageValue → SetQueryValue → ℕ → List (Point V) → Option ℕ → List ℕ → Type 0
IsInForm figures rules DeparturesForm.Journeys image b stop points walk text =
    HasJourneys rules image.timetable (from_stop b stop) points
    (λ departures. text ≡ journeys_text figures Form.Lines (stop_bytes image.names stop) departures walk)
IsInForm figures rules DeparturesForm.Json image b stop points walk text =
    HasJourneys rules image.timetable (from_stop b stop) points
    (λ departures. text ≡ journeys_text figures Form.Json (stop_bytes image.names stop) departures walk)
IsInForm figures rules DeparturesForm.Points image b stop points walk text =
    ArePoints figures (PointsForm.Each Form.Lines) (stop_bytes image.names stop) points walk text
IsInForm figures rules DeparturesForm.JsonPoints image b stop points walk text =
    ArePoints figures (PointsForm.Each Form.Json) (stop_bytes image.names stop) points walk text
IsInForm figures rules DeparturesForm.Summary image b stop points walk text =
    ArePoints figures (PointsForm.Summary Form.Lines) (stop_bytes image.names stop) points walk text
IsInForm figures rules DeparturesForm.JsonSummary image b stop points walk text =
    ArePoints figures (PointsForm.Summary Form.Json) (stop_bytes image.names stop) points walk text

-- the answer of the query from a stop has `count` points, and the text shows them
pub record IsShownFrom {V : Type 0} (figures : V → Figures) (rules : Rules V) (form : DeparturesForm) (image : ImageValue) (b : SetQueryValue)
    (stop count : ℕ) (text : List ℕ) : Type 0 where
  pub points : List (Point V)
  pub walk : Option Footpath
  pub answer : IsAnswerBetween rules image.timetable (from_stop b stop) points
  pub direct : IsDirectWalk image.timetable (from_stop b stop) walk
  pub counted : count ≡ length points
  pub shown : IsInForm figures rules form image b stop points (secs_of walk) text

-- such a text was added
pub record ShowsStop {V : Type 0} (figures : V → Figures) (rules : Rules V) (form : DeparturesForm) (image : ImageValue) (b : SetQueryValue)
    (stop : ℕ) (old new : List ℕ) (count : ℕ) : Type 0 where
  pub text : List ℕ
  pub added : new ≡ old ++ text
  pub shown : IsShownFrom figures rules form image b stop count text

-- the stops that are wanted, except the targets
abbrev pub is_shown : WantedStops → List ℕ → ℕ → Bool
is_shown wanted targets stop = not (list_any (λ target. nat_eq target stop) targets) && is_wanted wanted stop

-- those below n, in ascending order
abbrev pub shown_stops : WantedStops → List ℕ → ℕ → List ℕ
shown_stops wanted targets n = filter (is_shown wanted targets) (range_with_len 0 n)

-- a stop counts if it has points
abbrev pub one_if_some : ℕ → ℕ
one_if_some points = min points 1

-- the text shows the stops below n, one after the other: `stops` of them have points, and `points` points in all
pub record AreListed {V : Type 0} (figures : V → Figures) (rules : Rules V) (form : DeparturesForm) (image : ImageValue) (b : SetQueryValue)
    (wanted : WantedStops) (n stops points : ℕ) (text : List ℕ) : Type 0 where
  pub parts : List (ℕ × List ℕ)
  pub each : AllZip (λ stop part. IsShownFrom figures rules form image b stop part.0 part.1) (shown_stops wanted b.targets n) parts
  pub text_is : text ≡ flat_map (λ part. part.1) parts
  pub stops_are : stops ≡ sum_by (λ part. one_if_some part.0) parts
  pub points_are : points ≡ sum_by (λ part. part.0) parts

-- such a text was added
pub record AddsStops {V : Type 0} (figures : V → Figures) (rules : Rules V) (form : DeparturesForm) (image : ImageValue) (b : SetQueryValue)
    (wanted : WantedStops) (n : ℕ) (old new : List ℕ) (counts : StopCounts) : Type 0 where
  pub text : List ℕ
  pub added : new ≡ old ++ text
  pub listed : AreListed figures rules form image b wanted n counts.stops counts.points text

-- the last line, in a form
abbrev pub last_line : DeparturesForm → ℕ → ℕ → ℕ → List ℕ
last_line DeparturesForm.Json stops points read = counts_json_line stops points read
last_line DeparturesForm.JsonPoints stops points read = counts_json_line stops points read
last_line DeparturesForm.JsonSummary stops points read = counts_json_line stops points read
last_line DeparturesForm.Journeys stops points read = counts_line stops points read
last_line DeparturesForm.Points stops points read = counts_line stops points read
last_line DeparturesForm.Summary stops points read = counts_line stops points read

-- all wanted stops except the targets are shown, and then the counts, with the number of connections of the window
pub record AreShown {V : Type 0} (figures : V → Figures) (rules : Rules V) (form : DeparturesForm) (image : ImageValue) (b : SetQueryValue)
    (wanted : WantedStops) (printed : List ℕ) : Type 0 where
  pub stops : ℕ
  pub points : ℕ
  pub text : List ℕ
  pub listed : AreListed figures rules form image b wanted image.timetable.stops stops points text
  pub printed_is : printed ≡ text ++ last_line form stops points (length (window_of image.timetable b.from b.by))
