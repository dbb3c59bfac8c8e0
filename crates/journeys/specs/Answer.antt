-- What contracts see of an answer with its journeys.
use Rattle.std.specs.Prelude.{List, Option, ℕ, Contains, map}
use Rattle.criteria.specs.Laws.{Rules}
use Rattle.bags.specs.declared.point.Point.{Point}
use Rattle.timetable.specs.TimetableValue.{TimetableValue}
use Rattle.timetable.specs.declared.query.Query.{Query}
use Rattle.journeys.specs.Extracted.{Attains}
use Rattle.journeys.specs.declared.answering.Departure.{Departure}
use Rattle.journeys.specs.declared.answering.Answer.{Answer}

-- the point of a departure, with tag 0
abbrev pub point_of : {V : Type 0} → Departure V → Point V
point_of departure = record { departure = departure.time; value = departure.value; tag = 0 }

-- the points of an answer, in order
abbrev pub points_of : {K V : Type 0} → Answer K V → List (Point V)
points_of answer = map point_of answer.departures.items

-- each departure has a journey that attains its point
abbrev pub AreAttained : {K V : Type 0} → Rules V → TimetableValue → Query → Answer K V → Type 0
AreAttained {K} {V} rules t q answer =
    (departure : Departure V) → Contains answer.departures.items departure → Attains rules t q (point_of departure) departure.journey

-- the seconds of the footpath from the source to the target, if there is one
abbrev pub walk_of_answer : {K V : Type 0} → Answer K V → Option ℕ
walk_of_answer answer = answer.walk
