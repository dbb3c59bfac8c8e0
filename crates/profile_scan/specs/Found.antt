-- What contracts see of an answer that was found.
use Rattle.std.specs.Prelude.{◌≡◌, ℕ, List, Option, Contains}
use Rattle.criteria.specs.Laws.{Rules}
use Rattle.bags.specs.declared.point.Point.{Point}
use Rattle.timetable.specs.TimetableValue.{TimetableValue}
use Rattle.timetable.specs.declared.query.Query.{Query}
use Rattle.timetable.specs.Journeys.{Counts}
use Rattle.scan_state.specs.Points.{IsAnswer}
use Rattle.scan_state.specs.Values.{journey_value}
use Rattle.scan_state.specs.Plain.{IsPlain}
use Rattle.scan_state.specs.Matching.{IsAttained}
use Rattle.profile_scan.specs.Nodes.{spelling}
use Rattle.scan_state.specs.ScanState.{IsDirectSecs}
use Rattle.timetable.specs.declared.network.Footpath.{Footpath}
use Rattle.profile_scan.specs.Answered.{IsAnsweredBetween}
use Rattle.scan_state.specs.SetQuery.{SetQueryValue, question}
use Rattle.profile_scan.specs.declared.found.Found.{Found}
use Rattle.profile_scan.specs.declared.found_between.FoundBetween.{FoundBetween}
use Rattle.profile_scan.specs.declared.nodes.Node.{Node}

-- its points, in order
abbrev pub listed : {K V : Type 0} {c : _} → Found K V c → List (Point V)
listed found = found.points.items

-- its nodes; the number of a node is its index
abbrev pub nodes_of : {K V : Type 0} {c : _} → Found K V c → List Node
nodes_of found = found.nodes.items

-- the seconds of the footpath from the source to the target, if there is one
abbrev pub walk_of_found : {K V : Type 0} {c : _} → Found K V c → Option ℕ
walk_of_found found = found.walk

-- the timetable over which it answers
abbrev pub timetable_of : {K V : Type 0} {c : _} → Found K V c → TimetableValue
timetable_of found = found.timetable.value

-- the query that it answers
abbrev pub query_of : {K V : Type 0} {c : _} → Found K V c → Query
query_of found = found.query.value

-- the criterion by which it answers
abbrev pub criterion_of_found : {K V : Type 0} {c : _} → Found K V c → K
criterion_of_found found = found.criterion

-- it is the answer of a query over a timetable, under a criterion; each point's tag spells, by the nodes, a plain
-- journey that counts, with the point's departure and value
pub record Answers {K V : Type 0} {c : _} (criterion : K) (rules : Rules V) (t : TimetableValue) (q : Query)
    (found : Found K V c) : Type 0 where
  pub answer : IsAnswer rules t q (listed found)
  pub attained : (p : Point V) → Contains (listed found) p
      → IsAttained (spelling (nodes_of found)).journey (Counts t q) (IsPlain t q.target) (journey_value rules t) p
  pub direct : IsDirectSecs t q.target q.source (walk_of_found found)
  pub keeps : (criterion_of_found found ≡ criterion) × (timetable_of found ≡ t) × (query_of found ≡ q)

-- what contracts see of the answer of a query between sets: its points, nodes, direct walk, timetable, query and criterion
abbrev pub listed_between : {K V : Type 0} {c : _} → FoundBetween K V c → List (Point V)
listed_between found = found.points.items

abbrev pub nodes_between : {K V : Type 0} {c : _} → FoundBetween K V c → List Node
nodes_between found = found.nodes.items

abbrev pub walk_between : {K V : Type 0} {c : _} → FoundBetween K V c → Option Footpath
walk_between found = found.walk

abbrev pub timetable_between : {K V : Type 0} {c : _} → FoundBetween K V c → TimetableValue
timetable_between found = found.timetable.value

abbrev pub query_between : {K V : Type 0} {c : _} → FoundBetween K V c → SetQueryValue
query_between found = question found.query.value

abbrev pub criterion_between : {K V : Type 0} {c : _} → FoundBetween K V c → K
criterion_between found = found.criterion

-- it is the answer of a query between sets over a timetable, under a criterion
pub record AnswersBetween {K V : Type 0} {c : _} (criterion : K) (rules : Rules V) (t : TimetableValue) (b : SetQueryValue)
    (found : FoundBetween K V c) : Type 0 where
  pub answered : IsAnsweredBetween rules t b (listed_between found) (nodes_between found) (walk_between found)
  pub keeps : (criterion_between found ≡ criterion) × (timetable_between found ≡ t) × (query_between found ≡ b)
