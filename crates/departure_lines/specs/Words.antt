-- The line of a best departure.
use Rattle.std.specs.Prelude.{ℕ, List, [], ◌++◌, codes, decimal, Option, None, Some}
use Rattle.criteria.specs.declared.figures.Figures.{Figures}
use Rattle.timetable.specs.Clocks.{clock_bytes}
use Rattle.timetable.specs.JourneyValue.{JourneyValue}
use Rattle.journeys.specs.Texts.{text_of}
use Rattle.journeys.specs.declared.answering.Departure.{Departure}

-- the times of departure and arrival
unfoldable pub times_text : ℕ → ℕ → List ℕ
times_text departure arrival = (codes "dep " ++ clock_bytes departure) ++ (codes " arr " ++ clock_bytes arrival)

-- a word and a number, if there is one
abbrev pub number_if_some : List ℕ → Option ℕ → List ℕ
number_if_some word None = []
number_if_some word (Some n) = word ++ decimal n

-- the times of a point, and its trips and the seconds walked, each if the criterion counts it
unfoldable pub values_text : ℕ → Figures → List ℕ
values_text departure figures =
    times_text departure figures.arrival ++ number_if_some (codes " trips ") figures.trips ++ number_if_some (codes " walked ") figures.walked

-- what is printed of a point before its journey
unfoldable pub point_text : ℕ → Figures → List ℕ
point_text departure figures = values_text departure figures ++ codes " :"

-- a journey by the numbers of the image
abbrev pub numbered_text : JourneyValue → List ℕ
numbered_text journey = codes " " ++ text_of journey

-- the line of a best departure, with its journey
unfoldable pub departure_line : {V : Type 0} → (V → Figures) → (JourneyValue → List ℕ) → Departure V → List ℕ
departure_line figures words departure = point_text departure.time (figures departure.value) ++ words departure.journey ++ codes "\n"

-- the seconds of the direct footpath, or that there is none
abbrev pub walk_word : Option ℕ → List ℕ
walk_word None = codes " walk none"
walk_word (Some seconds) = codes " walk " ++ decimal seconds
