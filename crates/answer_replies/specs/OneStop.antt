-- What the reply to a query from one stop to one other tells.
use Rattle.std.specs.Prelude.{◌≡◌, ℕ, List, Option, Contains, map}
use Rattle.criteria.specs.Laws.{Rules}
use Rattle.criteria.specs.declared.name.CriterionName.{CriterionName}
use Rattle.criteria.specs.declared.figures.Figures.{Figures}
use Rattle.timetable.specs.declared.query.Query.{Query}
use Rattle.scan_state.specs.ScanState.{IsDirectSecs}
use Rattle.scan_state.specs.Points.{IsAnswer}
use Rattle.journeys.specs.Answer.{point_of}
use Rattle.journeys.specs.Extracted.{Attains}
use Rattle.journeys.specs.declared.answering.Departure.{Departure}
use Rattle.session_texts.specs.Replies.{line_of, profile_data}
use Rattle.answer_replies.specs.Replying.{Subject, departures_data}
use Rattle.answer_replies.specs.Valuing.{arrival_figures, by_arrival, by_trips, by_walking, trips_figures, walking_figures}

-- the query is answered over the image: its points are exactly the undominated points of all journeys that count for it, in order, each once, and no journey
-- that counts is unbeaten by them; the reply has each with a journey that attains it, and the seconds of the direct footpath
pub record IsAnsweredOne {V : Type 0} (figures : V → Figures) (rules : Rules V) (subject : Subject) (q : Query) (reply : List ℕ) : Type 0 where
  pub departures : List (Departure V)
  pub walk : Option ℕ
  pub answer : IsAnswer rules subject.image.timetable q (map point_of departures)
  pub attained : (departure : Departure V) → Contains departures departure → Attains rules subject.image.timetable q (point_of departure) departure.journey
  pub direct : IsDirectSecs subject.image.timetable q.target q.source walk
  pub reply_is : reply ≡ line_of (profile_data (departures_data subject.form subject.image figures departures) subject.version walk)

-- the same by the criterion that is asked for
abbrev pub IsAnsweredOneBy : CriterionName → Subject → Query → List ℕ → Type 0
IsAnsweredOneBy CriterionName.Arrival subject q reply = IsAnsweredOne arrival_figures by_arrival subject q reply
IsAnsweredOneBy CriterionName.ArrivalTrips subject q reply = IsAnsweredOne trips_figures by_trips subject q reply
IsAnsweredOneBy CriterionName.ArrivalTripsWalk subject q reply = IsAnsweredOne walking_figures by_walking subject q reply
