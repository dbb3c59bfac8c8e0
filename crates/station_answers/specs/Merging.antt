-- The best points of several answers.
use Rattle.std.specs.Prelude.{◌≡◌, ◌⊎◌, ℕ, ◌<◌, List, Contains, length, slice_get, Some}
use Rattle.criteria.specs.Laws.{Rules, Admits}
use Rattle.reasoning.specs.Lists.{Extends}
use Rattle.bags.specs.Bag.{criterion_of, points_of}
use Rattle.bags.specs.declared.point.Point.{Point}
use Rattle.timetable.specs.TimetableValue.{TimetableValue}
use Rattle.timetable.specs.declared.query.Query.{Query}
use Rattle.scan_state.specs.SetQuery.{SetQueryValue, Pair, query_of_pair}
use Rattle.profile_scan.specs.Found.{Answers, listed}
use Rattle.scan_state.specs.Points.{Covers, IsPoint}
use Rattle.profile_scan.specs.declared.found.Found.{Found}
use Rattle.station_answers.specs.declared.merging.MergedAnswers.{MergedAnswers}
use Rattle.station_answers.specs.declared.merging.PointSource.{PointSource}

-- a point is one of the first n of a list, tags aside, and its own tag says which: the list's number, and the index in it
pub record IsOfList {V : Type 0} (points : List (Point V)) (number n : ℕ) (origins : List PointSource) (p : Point V) : Type 0 where
  pub index : ℕ
  pub point : Point V
  pub within : index < n
  pub stands : slice_get points index ≡ Some point
  pub noted : slice_get origins p.tag ≡ Some (record { found = number; index = index })
  pub departs : point.departure ≡ p.departure
  pub worth : point.value ≡ p.value

-- the first n points of a list are put into a bag: nothing else is, what was covered stays covered, and each of them is covered
pub record MergesFirst {V : Type 0} (rules : Rules V) (points : List (Point V)) (number n : ℕ) (old : List (Point V)) (old_origins : List PointSource)
    (new : List (Point V)) (new_origins : List PointSource) : Type 0 where
  pub only : (p : Point V) → Contains new p → Contains old p ⊎ IsOfList points number n new_origins p
  pub kept : (departure : ℕ) (v : V) → Admits rules v → Covers rules old departure v → Covers rules new departure v
  pub each : (k : ℕ) (q : Point V) → k < n → slice_get points k ≡ Some q → Covers rules new q.departure q.value
  pub noted : Extends old_origins new_origins

-- what was covered stays covered
abbrev pub KeepsCovered : {K V : Type 0} {c : _} → Rules V → MergedAnswers K V c → MergedAnswers K V c → Type 0
KeepsCovered {K} {V} rules old new =
    (departure : ℕ) (v : V) → Admits rules v → Covers rules (points_of old.best) departure v → Covers rules (points_of new.best) departure v

-- an answer is taken in
pub record TakesFound {K V : Type 0} {c : _} (rules : Rules V) (found : Found K V c) (old new : MergedAnswers K V c) : Type 0 where
  pub under : criterion_of new.best ≡ criterion_of old.best
  pub merges : MergesFirst rules (listed found) (length old.founds.items) (length (listed found))
      (points_of old.best) old.origins.items (points_of new.best) new.origins.items
  pub founds : (number : ℕ) (f : Found K V c) → slice_get old.founds.items number ≡ Some f → slice_get new.founds.items number ≡ Some f
  pub only_it : (number : ℕ) (f : Found K V c) → slice_get new.founds.items number ≡ Some f
      → (slice_get old.founds.items number ≡ Some f) ⊎ (found ≡ f)
  pub put : slice_get new.founds.items (length old.founds.items) ≡ Some found

-- a point is one of an answer that is kept, tags aside, and its own tag says of which
pub record IsOfFounds {K V : Type 0} {c : _} (merged : MergedAnswers K V c) (p : Point V) : Type 0 where
  pub origin : PointSource
  pub found : Found K V c
  pub point : Point V
  pub noted : slice_get merged.origins.items p.tag ≡ Some origin
  pub kept : slice_get merged.founds.items origin.found ≡ Some found
  pub stands : slice_get (listed found) origin.index ≡ Some point
  pub departs : point.departure ≡ p.departure
  pub worth : point.value ≡ p.value

-- an answer of the query of a pair
pub record AnswersPair {K V : Type 0} {c : _} (criterion : K) (rules : Rules V) (t : TimetableValue) (b : SetQueryValue) (found : Found K V c) : Type 0 where
  pub pair : Pair b
  pub answers : Answers criterion rules t (query_of_pair b pair) found

-- the answers that are kept are those of pairs, and the best points are among theirs
pub record IsMerged {K V : Type 0} {c : _} (rules_of : K → Rules V) (criterion : K) (t : TimetableValue) (b : SetQueryValue) (merged : MergedAnswers K V c) :
    Type 0 where
  pub under : criterion_of merged.best ≡ criterion
  pub founds : (number : ℕ) (found : Found K V c) → slice_get merged.founds.items number ≡ Some found
      → AnswersPair criterion (rules_of criterion) t b found
  pub points : (p : Point V) → Contains (points_of merged.best) p → IsOfFounds merged p

-- each point of a query is covered
abbrev pub CoversQuery : {K V : Type 0} {c : _} → Rules V → TimetableValue → MergedAnswers K V c → Query → Type 0
CoversQuery {K} {V} rules t merged q = (departure : ℕ) (v : V) → IsPoint rules t q departure v → Covers rules (points_of merged.best) departure v

-- each point of each pair is covered
abbrev pub CoversAll : {K V : Type 0} {c : _} → Rules V → TimetableValue → SetQueryValue → MergedAnswers K V c → Type 0
CoversAll {K} {V} rules t b merged = (pair : Pair b) → CoversQuery rules t merged (query_of_pair b pair)
