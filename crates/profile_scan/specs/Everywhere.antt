-- What one scan for all sources keeps, and what it finds.
use Rattle.std.specs.Prelude.{◌≡◌, ◌≢◌, ℕ, ◌<◌, List, [], length, Contains, Option, Some, None, slice_get}
use Rattle.std.specs.Prelude.{slice_index_or}
use Rattle.std.specs.Global.{Vec}
use Rattle.criteria.specs.Laws.{Rules}
use Rattle.bags.specs.declared.point.Point.{Point}
use Rattle.timetable.specs.TimetableValue.{TimetableValue}
use Rattle.timetable.specs.declared.query.Query.{Query}
use Rattle.timetable.specs.declared.network.Footpath.{Footpath}
use Rattle.scan_state.specs.SetQuery.{SetQueryValue, IsDirectWalk, question, secs_of}
use Rattle.profile_scan.specs.Answered.{IsAnswered, IsTaggedAnswer}
use Rattle.scan_state.specs.Points.{AreInOrder}
use Rattle.scan_state.specs.ScanRecords.{KeptValue, ScanRecords, spelling_of}
use Rattle.scan_state.specs.ScanState.{IsDirectSecs, walk_by, final_walks_of}
use Rattle.profile_scan.specs.Scans.{scan_records_of}
use Rattle.profile_scan.specs.Destinations.{query_from, question_to}
use Rattle.scan_state.specs.Origins.{AreOrigins, found_from, from_stop, scan_value_from}
use Rattle.profile_scan.specs.declared.destination.Destination.{Destination}
use Rattle.scan_state.specs.declared.origins.Origins.{Origins}
use Rattle.profile_scan.specs.declared.profiles.Profiles.{Profiles}
use Rattle.profile_scan.specs.declared.to_any.ProfilesToAny.{ProfilesToAny}

-- what is written down, as one source sees it; `value` reads what is kept of trips and stops
abbrev pub scan_records_from : {K L V : Type 0} {c : _} → (L → KeptValue V) → ProfilesToAny K L V c → ℕ → ScanRecords
scan_records_from value profiles = scan_records_of value scan_value_from profiles.state

abbrev pub points_in : {V : Type 0} → Option (Vec (Point V)) → List (Point V)
points_in None = []
points_in (Some points) = points.items

-- lists are the points found from each stop, in order
pub record AreStopLists {K V : Type 0} {c : _} (rules : Rules V) (origins : Origins K V c) (listed : List (Vec (Point V))) : Type 0 where
  pub long : length listed ≡ length origins.each.items
  pub lists : (stop : ℕ) → AreInOrder rules (found_from origins stop) (points_in (slice_get listed stop))

-- the points of a stop, in order
abbrev pub listed_to_any : {K L V : Type 0} {c : _} → ProfilesToAny K L V c → ℕ → List (Point V)
listed_to_any profiles stop = points_in (slice_get profiles.lists.items stop)

-- what was asked from every stop, by which criterion, and how many stops there are
abbrev pub asked_to_any : {K L V : Type 0} {c : _} → ProfilesToAny K L V c → SetQueryValue
asked_to_any profiles = question profiles.asked.query

abbrev pub criterion_to_any : {K L V : Type 0} {c : _} → ProfilesToAny K L V c → K
criterion_to_any profiles = profiles.asked.criterion

abbrev pub stops_to_any : {K L V : Type 0} {c : _} → ProfilesToAny K L V c → ℕ
stops_to_any profiles = length profiles.lists.items

-- the footpath from a stop to the nearest target, if there is one
abbrev pub walk_to_any : {K L V : Type 0} {c : _} → ProfilesToAny K L V c → ℕ → Option Footpath
walk_to_any profiles stop = walk_by stop (slice_index_or (final_walks_of profiles.asked.final_walks) stop None)

-- the list of each stop is the answer of the query from there to the targets, as its tags tell; also of a target, for which no query can be asked: there
-- the journeys are those that come back to it or go on to another. And the direct walk from every stop that is no target, and from a target its loop
pub record AnswerToAny {K L V : Type 0} {c : _} (rules_of : K → Rules V) (value : L → KeptValue V) (t : TimetableValue)
    (profiles : ProfilesToAny K L V c) : Type 0 where
  pub each : (stop : ℕ) → stop < t.stops → IsTaggedAnswer (rules_of (criterion_to_any profiles)) t (from_stop (asked_to_any profiles) stop)
      (spelling_of t.footpaths (scan_records_from value profiles stop)).journey (listed_to_any profiles stop)
  pub direct : (stop : ℕ) → stop < t.stops → (Contains (asked_to_any profiles).targets stop → ⊥)
      → IsDirectWalk t (from_stop (asked_to_any profiles) stop) (walk_to_any profiles stop)
  pub loops : (stop : ℕ) → stop < t.stops → Contains (asked_to_any profiles).targets stop → IsDirectSecs t stop stop (secs_of (walk_to_any profiles stop))
  pub long : stops_to_any profiles ≡ t.stops
  pub origins : AreOrigins (criterion_to_any profiles) t.stops profiles.state.origin
  pub final_walks : length (final_walks_of profiles.asked.final_walks) ≡ t.stops

-- answers to a single target: the points of a stop, what was asked from every stop, by which criterion, and how many stops there are
abbrev pub listed_from : {K L V : Type 0} {c : _} → Profiles K L V c → ℕ → List (Point V)
listed_from profiles = listed_to_any profiles.to_any

abbrev pub destination_of : {K L V : Type 0} {c : _} → Profiles K L V c → Destination
destination_of profiles = profiles.destination

abbrev pub criterion_of_profiles : {K L V : Type 0} {c : _} → Profiles K L V c → K
criterion_of_profiles profiles = criterion_to_any profiles.to_any

abbrev pub stops_of : {K L V : Type 0} {c : _} → Profiles K L V c → ℕ
stops_of profiles = stops_to_any profiles.to_any

-- the seconds of the footpath from a stop to the target, if there is one
abbrev pub walk_from : {K L V : Type 0} {c : _} → Profiles K L V c → ℕ → Option ℕ
walk_from profiles stop = secs_of (walk_to_any profiles.to_any stop)

-- the list of the query's source is the answer of the query, as its tags tell, and the walk is the footpath from there to the target
abbrev pub AnswersFrom : {K L V : Type 0} {c : _} → Rules V → (L → KeptValue V) → TimetableValue → Query → Profiles K L V c → Type 0
AnswersFrom rules value t q profiles = IsAnswered rules t q (listed_from profiles q.source)
    (spelling_of t.footpaths (scan_records_from value profiles.to_any q.source)).journey (walk_from profiles q.source)

-- the same from every stop but the target, each by its own query; and from the target itself, for which no query can be asked: there the journeys are those
-- that come back to it, and the walk is its loop
pub record AnswerAll {K L V : Type 0} {c : _} (rules_of : K → Rules V) (value : L → KeptValue V) (t : TimetableValue)
    (profiles : Profiles K L V c) : Type 0 where
  pub each : (stop : ℕ) → stop < t.stops → stop ≢ (destination_of profiles).target
      → AnswersFrom (rules_of (criterion_of_profiles profiles)) value t (query_from (destination_of profiles) stop) profiles
  pub at_target : AnswersFrom (rules_of (criterion_of_profiles profiles)) value t
      (query_from (destination_of profiles) (destination_of profiles).target) profiles
  pub long : stops_of profiles ≡ t.stops
  pub final_walks : length (final_walks_of profiles.to_any.asked.final_walks) ≡ t.stops
  pub asked : asked_to_any profiles.to_any ≡ question_to (destination_of profiles)
  pub to_any : AnswerToAny rules_of value t profiles.to_any
