-- What the ghost field `answered` of an answer says. It is stated about the other fields, since a struct can't name itself.
use Rattle.std.specs.Prelude.{ℕ, List, Option, Contains}
use Rattle.criteria.specs.Laws.{Rules}
use Rattle.bags.specs.declared.point.Point.{Point}
use Rattle.timetable.specs.JourneyValue.{JourneyValue}
use Rattle.timetable.specs.TimetableValue.{TimetableValue}
use Rattle.timetable.specs.declared.query.Query.{Query}
use Rattle.timetable.specs.Journeys.{Counts}
use Rattle.timetable.specs.declared.network.Footpath.{Footpath}
use Rattle.scan_state.specs.SetQuery.{SetQueryValue, CountsBetween, IsAnswerBetween, IsDirectWalk}
use Rattle.scan_state.specs.Points.{IsAnswer}
use Rattle.scan_state.specs.Values.{journey_value}
use Rattle.scan_state.specs.Plain.{IsPlain, IsPlainOf}
use Rattle.scan_state.specs.Matching.{IsAttained}
use Rattle.profile_scan.specs.Nodes.{spelling}
use Rattle.scan_state.specs.ScanState.{IsDirectSecs}
use Rattle.profile_scan.specs.declared.nodes.Node.{Node}

-- points are the answer of a query over a timetable; each point's tag tells a plain journey that counts, with the point's departure and value; and `walk`
-- has the seconds of the footpath from the source to the target, if there is one
pub record IsAnswered {V : Type 0} (rules : Rules V) (t : TimetableValue) (q : Query) (points : List (Point V))
    (told : ℕ → Option JourneyValue) (walk : Option ℕ) : Type 0 where
  pub answer : IsAnswer rules t q points
  pub attained : (p : Point V) → Contains points p → IsAttained told (Counts t q) (IsPlain t q.target) (journey_value rules t) p
  pub direct : IsDirectSecs t q.target q.source walk

-- points are the answer of a query between sets over a timetable; each point's tag tells a journey that counts for a pair, with the point's departure and
-- value, and is plain with regard to all targets: after its last leg it walks on only if that leg ends at none of them
pub record IsTaggedAnswer {V : Type 0} (rules : Rules V) (t : TimetableValue) (b : SetQueryValue) (told : ℕ → Option JourneyValue) (points : List (Point V))
    : Type 0 where
  pub answer : IsAnswerBetween rules t b points
  pub attained : (p : Point V) → Contains points p
      → IsAttained told (CountsBetween t b) (IsPlainOf t (Contains b.targets)) (journey_value rules t) p

-- the same, told by nodes; and `walk` is the direct walk
pub record IsAnsweredBetween {V : Type 0} (rules : Rules V) (t : TimetableValue) (b : SetQueryValue) (points : List (Point V))
    (nodes : List Node) (walk : Option Footpath) : Type 0 where
  pub tagged : IsTaggedAnswer rules t b (spelling nodes).journey points
  pub direct : IsDirectWalk t b walk

-- both as mere facts: all their proofs are equal
abbrev pub Answer : {V : Type 0}
    → Rules V → TimetableValue → Query → List (Point V) → List Node → Option ℕ → Type 0
Answer rules t q points nodes walk = ∥ IsAnswered rules t q points (spelling nodes).journey walk ∥₁

abbrev pub AnswerBetween : {V : Type 0}
    → Rules V → TimetableValue → SetQueryValue → List (Point V) → List Node → Option Footpath → Type 0
AnswerBetween rules t b points nodes walk = ∥ IsAnsweredBetween rules t b points nodes walk ∥₁
