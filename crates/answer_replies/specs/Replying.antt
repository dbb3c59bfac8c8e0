-- What a query's answer is, and the line of reply that has it.
use Rattle.std.specs.Prelude.{◌≡◌, ℕ, List, Option, Contains, map}
use Rattle.serde_json.specs.Data.{Data}
use Rattle.criteria.specs.Laws.{Rules}
use Rattle.criteria.specs.declared.name.CriterionName.{CriterionName}
use Rattle.criteria.specs.declared.figures.Figures.{Figures}
use Rattle.image_layout.specs.Image.{ImageValue}
use Rattle.scan_state.specs.SetQuery.{SetQueryValue, IsAnswerBetween}
use Rattle.journeys.specs.Answer.{point_of}
use Rattle.journeys.specs.Extracted.{AttainsBetween}
use Rattle.journeys.specs.Texts.{text_of}
use Rattle.journeys.specs.declared.answering.Departure.{Departure}
use Rattle.station_answers.specs.Walks.{IsDirectTime}
use Rattle.session_texts.specs.Replies.{legged_data, line_of, point_data, profile_data}
use Rattle.answer_replies.specs.declared.point_form.PointForm.{PointForm}
use Rattle.answer_replies.specs.Legs.{legs_data}
use Rattle.answer_replies.specs.Valuing.{arrival_figures, by_arrival, by_trips, by_walking, trips_figures, walking_figures}

-- a best departure as a point of the reply: its time, what its journey is worth, and the journey
abbrev pub bare_data : {V : Type 0} → (V → Figures) → Departure V → Data
bare_data figures departure = point_data departure.time (figures departure.value) (text_of departure.journey)

-- the same with the legs of its journey over the image
abbrev pub data_with_legs : {V : Type 0} → ImageValue → (V → Figures) → Departure V → Data
data_with_legs image figures departure = legged_data departure.time (figures departure.value) (text_of departure.journey) (legs_data image departure.journey)

-- best departures as the points of a reply, in each form
abbrev pub departures_data : {V : Type 0} → PointForm → ImageValue → (V → Figures) → List (Departure V) → List Data
departures_data PointForm.Bare image figures departures = map (bare_data figures) departures
departures_data PointForm.WithLegs image figures departures = map (data_with_legs image figures) departures

-- what a reply is over: an image, with the version that the reply names, and the form of the reply's points
pub record Subject : Type 0 where
  pub form : PointForm
  pub image : ImageValue
  pub version : ℕ

abbrev pub subject_of : PointForm → ImageValue → ℕ → Subject
subject_of form image version = record { form = form; image = image; version = version }

-- a query between sets of stops is answered over the image: its points are exactly the undominated points of all journeys that count for one of the sources
-- and one of the targets, in order, each once, and no such journey is unbeaten by them; the reply has each with a journey that attains it, and the seconds
-- of the direct walk
pub record IsAnswered {V : Type 0} (figures : V → Figures) (rules : Rules V) (subject : Subject) (b : SetQueryValue) (reply : List ℕ) : Type 0 where
  pub departures : List (Departure V)
  pub walk : Option ℕ
  pub answer : IsAnswerBetween rules subject.image.timetable b (map point_of departures)
  pub attained : (departure : Departure V) → Contains departures departure
      → AttainsBetween rules subject.image.timetable b (point_of departure) departure.journey
  pub direct : IsDirectTime subject.image.timetable b walk
  pub reply_is : reply ≡ line_of (profile_data (departures_data subject.form subject.image figures departures) subject.version walk)

-- the same by the criterion that is asked for
abbrev pub IsAnsweredBy : CriterionName → Subject → SetQueryValue → List ℕ → Type 0
IsAnsweredBy CriterionName.Arrival subject b reply = IsAnswered arrival_figures by_arrival subject b reply
IsAnsweredBy CriterionName.ArrivalTrips subject b reply = IsAnswered trips_figures by_trips subject b reply
IsAnsweredBy CriterionName.ArrivalTripsWalk subject b reply = IsAnswered walking_figures by_walking subject b reply
