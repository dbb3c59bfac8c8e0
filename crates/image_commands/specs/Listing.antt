-- The lines of `csa profile` and of `csa journey`.
use Rattle.std.specs.Prelude.{◌≡◌, ◌==◌, ℕ, List, [], ◌∷◌, ◌++◌, if◌then◌else◌, codes, decimal, length, slice_get, Option, None, Some}
use Rattle.std.specs.List.{flat_map}
use Rattle.criteria.specs.declared.figures.Figures.{Figures}
use Rattle.departure_lines.specs.Words.{departure_line, numbered_text, walk_word}
use Rattle.timetable.specs.Clocks.{clock_bytes}
use Rattle.timetable.specs.JourneyValue.{JourneyValue, RideValue}
use Rattle.timetable.specs.NamesValue.{NamesValue}
use Rattle.timetable.specs.declared.network.Connection.{Connection}
use Rattle.timetable.specs.declared.network.Footpath.{Footpath}
use Rattle.image_layout.specs.Image.{ImageValue}
use Rattle.image_facts.specs.Base.{HasBaseMembers}
use Rattle.image_facts.specs.Naming.{stop_bytes, trip_bytes}
use Rattle.image_files.specs.Naming.{printed}
use Rattle.image_files.specs.declared.names.NameForm.{NameForm}
use Rattle.journeys.specs.Texts.{number_text}
use Rattle.journeys.specs.declared.answering.Departure.{Departure}
use Rattle.answer_replies.specs.Replying.{departures_data}
use Rattle.answer_replies.specs.declared.point_form.PointForm.{PointForm}
use Rattle.session_texts.specs.Replies.{line_of, profile_data}
use Rattle.command_endings.specs.Refusing.{word_text}
use Rattle.command_requests.specs.declared.requests.AnswerForm.{AnswerForm}

-- a walk by the names of its stops, and its seconds
unfoldable pub named_walk : NamesValue → Footpath → List ℕ
named_walk names f = codes " walk" ++ word_text (stop_bytes names f.from) ++ word_text (stop_bytes names f.to) ++ number_text f.secs

-- a time and the name of a stop
abbrev pub call_text : ℕ → List ℕ → List ℕ
call_text time stop = (codes " " ++ clock_bytes time) ++ word_text stop

-- a ride: the name of its trip, and when and where one boards and leaves it
unfoldable pub named_hops : NamesValue → Connection → Connection → List ℕ
named_hops names first last =
    codes " ride" ++ word_text (trip_bytes names first.trip) ++ call_text first.dep (stop_bytes names first.from)
    ++ call_text last.arr (stop_bytes names last.to)

abbrev pub named_between : NamesValue → Option Connection → Option Connection → List ℕ
named_between names (Some first) (Some last) = named_hops names first last
named_between names _ _ = []

abbrev pub named_ride : ImageValue → RideValue → List ℕ
named_ride image ride =
    named_between image.names (slice_get image.timetable.connections ride.leg.first) (slice_get image.timetable.connections ride.leg.last)
    ++ flat_map (named_walk image.names) ride.walk

abbrev pub named_start : NamesValue → Option Footpath → List ℕ
named_start names None = []
named_start names (Some footpath) = named_walk names footpath

-- a journey by the names of an image
abbrev pub named_text : ImageValue → JourneyValue → List ℕ
named_text image journey = named_start image.names journey.start ++ flat_map (named_ride image) journey.rides

-- the last line: how many departures there are, how many connections were read, and the seconds of the direct footpath
unfoldable pub end_line : ℕ → ℕ → Option ℕ → List ℕ
end_line points read walk = (codes "points " ++ decimal points) ++ (codes " read " ++ decimal read) ++ walk_word walk ++ codes "\n"

-- a line for each departure, in order, and the last line
abbrev pub lines_text : {V : Type 0} → (V → Figures) → (JourneyValue → List ℕ) → List (Departure V) → ℕ → Option ℕ → List ℕ
lines_text figures words departures read walk =
    flat_map (departure_line figures words) departures ++ end_line (length departures) read walk

-- an object of JSON without the brace (123) with which it begins
abbrev pub without_brace : List ℕ → List ℕ
without_brace [] = []
without_brace (first ∷ rest) = if first == 123 then rest else first ∷ rest

-- the base, in seconds and as a date and a time, and the members of a session's reply over the image as version 1
abbrev pub IsReply : {V : Type 0} → PointForm → (V → Figures) → ImageValue → List (Departure V) → Option ℕ → List ℕ → Type 0
IsReply form figures image departures walk text =
    (base : List ℕ) × HasBaseMembers image.names.base base
    × (text ≡ (base ++ codes ",") ++ without_brace (line_of (profile_data (departures_data form image figures departures) 1 walk)))

-- an answer in a form: lines with the journeys' numbers, or their names as they are written in lines, or a session's reply
abbrev pub IsInForm : {V : Type 0} → (V → Figures) → NameForm → ImageValue → AnswerForm → List (Departure V) → ℕ → Option ℕ → List ℕ → Type 0
IsInForm figures names image AnswerForm.Numbers departures read walk text = text ≡ lines_text figures numbered_text departures read walk
IsInForm figures names image AnswerForm.Names departures read walk text =
    text ≡ lines_text figures (named_text (printed names image)) departures read walk
IsInForm figures names image AnswerForm.Json departures read walk text = IsReply PointForm.Bare figures image departures walk text
IsInForm figures names image AnswerForm.JsonLegs departures read walk text = IsReply PointForm.WithLegs figures image departures walk text
