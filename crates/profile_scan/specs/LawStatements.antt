-- The laws that exactness rests on, as statements over the definitions alone.
use Rattle.std.specs.Prelude.{◌≡◌, ◌≢◌, ℕ, ◌+◌, ◌-◌, ◌<◌, ◌≤◌, List, [], ◌∷◌, length, Contains, AllPairs, All, map, reverse, Some}
use Rattle.criteria.specs.Laws.{Rules}
use Rattle.bags.specs.Dominance.{IsBag}
use Rattle.bags.specs.declared.point.Point.{Point}
use Rattle.timetable.specs.TimetableValue.{TimetableValue}
use Rattle.timetable.specs.declared.query.Query.{Query}
use Rattle.timetable.specs.JourneyValue.{RideValue, JourneyValue}
use Rattle.timetable.specs.Legal.{IsLegal}
use Rattle.timetable.specs.Journeys.{connection_at, Leads}
use Rattle.scan_state.specs.Values.{journey_value}
use Rattle.scan_state.specs.Points.{Before, untagged}
use Rattle.profile_scan.specs.Window.{window, falling}
use Rattle.sources.specs.FirstAt.{IsFirstAt}
use Rattle.scan_state.specs.SetQuery.{CanScan, SetQueryValue, IsAnswerBetween}
use Rattle.scan_state.specs.Continuations.{Onward, Aboard, BoardsFrom, IsOnward, IsAboard, CountsFrom}
use Rattle.scan_state.specs.Plain.{IsPlainOf}
use Rattle.scan_state.specs.Matching.{Spelling, Spellings, Matches, ScanValue, MatchesFrom}

-- connections that depart together can't continue one another: a trip's connections depart one after the other, each
-- leg departs later than the one before it was left, and whoever rides on after connection i boards a later one
pub record DeparturesRise (t : TimetableValue) : Type 0 where
  pub in_trips : (i j : ℕ) → i < j → j < length t.connections → (connection_at t i).trip ≡ (connection_at t j).trip
      → (connection_at t i).dep < (connection_at t j).dep
  pub in_rides : (goal stop time : ℕ) (ride next : RideValue) (rides : List RideValue)
      → Leads t goal stop time (ride ∷ next ∷ rides)
      → (connection_at t ride.leg.last).dep < (connection_at t next.leg.first).dep
  pub boards_later : (goal stop time i : ℕ) (rides : List RideValue) → i < length t.connections
      → (connection_at t i).arr ≤ time → rides ≢ [] → Leads t goal stop time rides → BoardsFrom (i + 1) rides

abbrev pub TogetherNeverContinue : Type 0
TogetherNeverContinue = (t : TimetableValue) → IsLegal t → DeparturesRise t

-- if what is kept matches all ways to go on over the later connections, then after the step of one connection it matches those that begin with this one, too
abbrev pub OneIndexDown : {V : Type 0} → Rules V
    → (TimetableValue → SetQueryValue → Spellings → ℕ → ScanValue V → ScanValue V → Type 0) → Type 0
OneIndexDown {V} rules Step =
    (t : TimetableValue) (q : SetQueryValue) → CanScan t q
    → (tags : Spellings) (i : ℕ) → i < length t.connections
    → (old new : ScanValue V) → MatchesFrom rules t q tags.earlier (i + 1) old → Step t q tags i old new
    → MatchesFrom rules t q tags.later i new

-- whatever the tags in use spell by `a`, they spell by `b`
pub record StaySpelled {V : Type 0} (a b : Spelling) (scan : ScanValue V) : Type 0 where
  pub at_stops : (stop : ℕ) (p : Point V) (x : Onward) → Contains (scan.bag stop) p → a.onward p.tag ≡ Some x
      → b.onward p.tag ≡ Some x
  pub in_trips : (trip : ℕ) (p : Point V) (x : Aboard) → Contains (scan.labels trip) p → a.aboard p.tag ≡ Some x
      → b.aboard p.tag ≡ Some x
  pub at_source : (p : Point V) (j : JourneyValue) → Contains scan.found p → a.journey p.tag ≡ Some j
      → b.journey p.tag ≡ Some j

-- what matches goes on matching when more tags spell something
abbrev pub TagsMayCome : {V : Type 0} → Rules V → Type 0
TagsMayCome {V} rules =
    (t : TimetableValue) (q : SetQueryValue) (a b : Spelling) (i : ℕ) (scan : ScanValue V)
    → StaySpelled a b scan → MatchesFrom rules t q a i scan → MatchesFrom rules t q b i scan

-- the latest departure matters only at the source: ways to go on from a stop or in a trip don't depend on it; a journey that counts departs no later, and
-- counts for any other latest departure that isn't before its own
pub record CutIsTheSources (JourneyCounts : TimetableValue → SetQueryValue → ℕ → JourneyValue → Type 0) : Type 0 where
  pub onward : (t : TimetableValue) (q : SetQueryValue) (until i stop time : ℕ) (x : Onward) → IsOnward t q i stop time x
      → IsOnward t (record q { until = until }) i stop time x
  pub aboard : (t : TimetableValue) (q : SetQueryValue) (until i trip : ℕ) (x : Aboard) → IsAboard t q i trip x
      → IsAboard t (record q { until = until }) i trip x
  pub is_cut : (t : TimetableValue) (q : SetQueryValue) (departure : ℕ) (j : JourneyValue) → JourneyCounts t q departure j
      → departure ≤ q.until
  pub at_source : (t : TimetableValue) (q : SetQueryValue) (until departure : ℕ) (j : JourneyValue) → departure ≤ until
      → JourneyCounts t q departure j → JourneyCounts t (record q { until = until }) departure j

-- points found that match at the window's start, none of which dominates another, in order, are the answer
abbrev pub MatchIsTheAnswer : {V : Type 0} → Rules V → Type 0
MatchIsTheAnswer {V} rules =
    (t : TimetableValue) (q : SetQueryValue) → CanScan t q
    → (start : ℕ) → IsFirstAt t q.from start
    → (tags : Spelling) (found : List (Point V))
    → Matches rules tags.journey (CountsFrom t q start) (IsPlainOf t (Contains q.targets)) (journey_value rules t) found
    → IsBag rules found → AllPairs (Before rules) found
    → IsAnswerBetween rules t q found

-- past the window's end nothing follows, so empty lists match
abbrev pub NothingFollows : {V : Type 0} → Rules V → Type 0
NothingFollows {V} rules =
    (t : TimetableValue) (q : SetQueryValue) → CanScan t q
    → (end : ℕ) → IsFirstAt t q.by end
    → (tags : Spelling) → MatchesFrom rules t q tags end (record { bag = λ _. []; labels = λ _. []; found = [] })

-- there is only one answer, tags aside
abbrev pub OneAnswer : {V : Type 0} → Rules V → Type 0
OneAnswer {V} rules =
    (t : TimetableValue) (q : SetQueryValue) → CanScan t q
    → (a b : List (Point V)) → IsAnswerBetween rules t q a → IsAnswerBetween rules t q b
    → map untagged a ≡ map untagged b

-- a window read backward: its indices lie between the first ones at two times, each is that of a connection, and departures never rise
pub record IsReadBackward (t : TimetableValue) (q : Query) : Type 0 where
  pub falls : (start end : ℕ) → IsFirstAt t q.from start → IsFirstAt t q.by end
      → reverse (window t q) ≡ falling start (end - start)
  pub in_range : All (λ (i : ℕ). i < length t.connections) (reverse (window t q))
  pub never_rises : AllPairs (λ (i j : ℕ). (connection_at t j).dep ≤ (connection_at t i).dep) (reverse (window t q))

abbrev pub WindowIsReadBackward : Type 0
WindowIsReadBackward = (t : TimetableValue) → IsLegal t → (q : Query) → IsReadBackward t q
