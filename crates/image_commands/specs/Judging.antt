-- What `csa journey` finds out about a journey's text and a question.
use Rattle.std.specs.Prelude.{◌≡◌, ◌++◌, ℕ, List, Some, Result, Ok, Err, codes}
use Rattle.timetable.specs.declared.journey.Times.{Times}
use Rattle.timetable.specs.declared.query.Query.{Query}
use Rattle.timetable.specs.JourneyValue.{JourneyValue}
use Rattle.timetable.specs.Journeys.{Counts, arrival}
use Rattle.timetable.specs.Queries.{IsAskable}
use Rattle.image_layout.specs.Image.{ImageValue}
use Rattle.journeys.specs.Faults.{first_fault}
use Rattle.journeys.specs.Questions.{Asks, IsRefused}
use Rattle.journeys.specs.Texts.{HasText, text_of}
use Rattle.command_requests.specs.declared.requests.Question.{Question}
use Rattle.image_commands.specs.Asking.{window_of}
use Rattle.image_commands.specs.Refusing.{refusal_line}
use Rattle.departure_lines.specs.Words.{times_text}
use Rattle.image_commands.specs.declared.journey.Failure.{Failure}
use Rattle.image_commands.specs.declared.journey.Failure.TheVariants.{BadQuery, BadText, Faulty, OutOfMemory}
use Rattle.image_commands.specs.declared.refusal.CommandRefusal.{CommandRefusal}
use Rattle.image_commands.specs.declared.refusal.CommandRefusal.TheVariants.{BadText as OfText, Journey as OfJourney, Query as OfQuery}

-- the question makes this query of the image, and it can be asked
abbrev pub IsQueried : ImageValue → Question → Query → Type 0
IsQueried image question q =
    IsAskable image.timetable.stops q × Asks image.names question.from.now question.to.now (window_of question) q

-- the question makes this query, and the text is that of this journey
pub record IsPosed (image : ImageValue) (question : Question) (text : List ℕ) (q : Query) (j : JourneyValue) : Type 0 where
  pub queried : IsQueried image question q
  pub has_text : HasText j
  pub spells : text ≡ text_of j

-- when the text's journey departs and arrives, if it counts for the query; otherwise the first fault, of the query, of the text or of the journey
abbrev pub IsVerdict : ImageValue → Question → List ℕ → Result Times Failure → Type 0
IsVerdict image question text (Ok times) =
    (q : Query) × (j : JourneyValue) × IsPosed image question text q j × Counts image.timetable q times.dep j × (times.arr ≡ arrival image.timetable j)
IsVerdict image question text (Err (BadQuery fault)) = IsRefused image question.from.now question.to.now (window_of question) fault
IsVerdict image question text (Err BadText) =
    ((q : Query) × IsQueried image question q) × ((j : JourneyValue) → HasText j → ¬ (text ≡ text_of j))
IsVerdict image question text (Err (Faulty fault)) =
    (q : Query) × (j : JourneyValue) × IsPosed image question text q j × (first_fault image.timetable q j ≡ Some fault)
IsVerdict image question text (Err OutOfMemory) = Unit {0}

-- the line of a journey that counts
abbrev pub times_line : Times → List ℕ
times_line times = codes "ok " ++ times_text times.dep times.arr ++ codes "\n"

-- the journey counts, and this is its line
abbrev pub IsAccepted : ImageValue → Question → List ℕ → List ℕ → Type 0
IsAccepted image question text line = (times : Times) × IsVerdict image question text (Ok times) × (line ≡ times_line times)

-- the refusal of a journey that isn't accepted; if memory ran out, there is none
abbrev pub IsRefusedFor : Failure → CommandRefusal → Type 0
IsRefusedFor (BadQuery fault) refusal = refusal ≡ OfQuery fault
IsRefusedFor BadText refusal = refusal ≡ OfText
IsRefusedFor (Faulty fault) refusal = refusal ≡ OfJourney fault
IsRefusedFor OutOfMemory refusal = ⊥

-- there is a first fault, of the query, of the text or of the journey, and this is its line
abbrev pub IsFaulty : ImageValue → Question → List ℕ → List ℕ → Type 0
IsFaulty image question text line =
    (failure : Failure) × (refusal : CommandRefusal) × IsVerdict image question text (Err failure) × IsRefusedFor failure refusal
    × (line ≡ refusal_line refusal)
