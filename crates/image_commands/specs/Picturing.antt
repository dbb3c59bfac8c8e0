-- The picture of an answer.
use Rattle.std.specs.Prelude.{◌≡◌, ◌++◌, ◌-◌, nat_lt, if◌then◌else◌, codes, decimal, ℕ, List, [], ◌∷◌, Option, None, Some, String, length}
use Rattle.std.specs.Prelude.{string_bytes, take}
use Rattle.std.specs.Global.{Global}
use Rattle.std.specs.List.{All, AllZip}
use Rattle.criteria.specs.declared.name.CriterionName.{CriterionName}
use Rattle.criteria.specs.declared.figures.Figures.{Figures}
use Rattle.timetable.specs.NamesValue.{NamesValue}
use Rattle.image_layout.specs.Image.{ImageValue}
use Rattle.scan_state.specs.SetQuery.{SetQueryValue, pair_of}
use Rattle.answer_pictures.specs.declared.axis.Axis.{Axis}
use Rattle.answer_pictures.specs.LineValue.{HeadingValue, LineValue}
use Rattle.answer_pictures.specs.Pictures.{IsPicture, LiesOn}
use Rattle.answer_pictures.specs.JourneyLines.{IsHeadingOf, IsLineOf}
use Rattle.command_requests.specs.declared.requests.ProfileRequest.{ProfileRequest}
use Rattle.journeys.specs.declared.answering.Departure.{Departure}

-- the line of a departure: its times, and all rides and walks of its journey
abbrev pub IsDrawnAs : {V : Type 0} → (V → Figures) → ImageValue → Departure V → LineValue → Type 0
IsDrawnAs figures image departure line =
    IsLineOf image.timetable image.names departure.time (figures departure.value) departure.journey line

-- the first of at least one stop
abbrev pub first_stop : List ℕ → ℕ
first_stop [] = 0
first_stop (stop ∷ stops) = stop

-- how many stops there are beside the first
abbrev pub others_text : ℕ → List ℕ
others_text stops = if nat_lt stops 2 then [] else codes " and " ++ decimal (stops - 1) ++ codes " more"

-- what is above a picture: the heading of the query between the first stop of each side, and how many more stops each side has
pub record IsHeadingBetween (names : NamesValue) (criterion : CriterionName) (b : SetQueryValue) (h : HeadingValue) : Type 0 where
  pub first : HeadingValue
  pub of_first : IsHeadingOf names criterion (pair_of b (first_stop b.sources) (first_stop b.targets)) first
  pub from : h.from ≡ first.from ++ others_text (length b.sources)
  pub to : h.to ≡ first.to ++ others_text (length b.targets)
  pub about : h.about ≡ first.about

-- the picture of a question's departures: what was asked, the direct walk, a line for each of the first `rows` departures, in order, on an axis that covers
-- all of these, and how many more departures there are
pub record IsPictureOf {V : Type 0} (figures : V → Figures) (image : ImageValue) (criterion : CriterionName) (rows : ℕ) (b : SetQueryValue)
    (departures : List (Departure V)) (walk : Option ℕ) (text : List ℕ) : Type 0 where
  pub heading : HeadingValue
  pub axis : Axis
  pub lines : List LineValue
  pub asked : IsHeadingBetween image.names criterion b heading
  pub drawn : AllZip (IsDrawnAs figures image) (take rows departures) lines
  pub covered : All (LiesOn axis) lines
  pub is : IsPicture heading axis walk lines (length departures - rows) text

-- if a picture is asked for, there is one, of these departures; otherwise there is none
abbrev pub IsDrawnIf : {V P : Type 0} → (V → Figures) → ImageValue → CriterionName → ℕ → SetQueryValue → List (Departure V) → Option ℕ
    → Option P → Option (String Global) → Type 0
IsDrawnIf figures image criterion rows b departures walk None None = Unit {0}
IsDrawnIf figures image criterion rows b departures walk (Some path) (Some text) =
    IsPictureOf figures image criterion rows b departures walk (string_bytes text)
IsDrawnIf figures image criterion rows b departures walk _ _ = ⊥

abbrev pub IsDrawn : {V : Type 0} → (V → Figures) → ImageValue → ProfileRequest → SetQueryValue → List (Departure V) → Option ℕ
    → Option (String Global) → Type 0
IsDrawn figures image request b departures walk picture =
    IsDrawnIf figures image request.criterion request.rows.number b departures walk request.picture picture
