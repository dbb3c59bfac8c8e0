-- What a scan has read and found, and one step of it.
use Rattle.std.specs.Prelude.{ℕ, List, Contains, ◌+◌}
use Rattle.bags.specs.declared.point.Point.{Point}
use Rattle.timetable.specs.TimetableValue.{TimetableValue}
use Rattle.criteria.specs.Laws.{Rules}
use Rattle.scan_state.specs.SetQuery.{SetQueryValue, asked_from, question}
use Rattle.scan_state.specs.Values.{journey_value}
use Rattle.scan_state.specs.Continuations.{CountsFrom}
use Rattle.scan_state.specs.Plain.{IsPlainOf}
use Rattle.scan_state.specs.Matching.{Matches, ScanValue, from_to}
use Rattle.scan_state.specs.Steps.{IsStep}
use Rattle.scan_state.specs.ScanRecords.{KeptValue, SourceValue, ScanRecords, scan_records, spelling_of}
use Rattle.profile_scan.specs.declared.scan.State.{State}
use Rattle.timetable.specs.declared.network.Connection.{Connection}
use Rattle.scan_state.specs.Bound.{AreBounds}
use Rattle.scan_state.specs.Hops.{IsAsked, StandsAt}
use Rattle.scan_state.specs.declared.hop.ScanQuery.{ScanQuery}
use Rattle.profile_scan.specs.declared.scan.Scan.{Scan}

-- what a scan keeps for the question at an index
abbrev pub scan_value_of : {L O V : Type 0} → (L → KeptValue V) → (O → ℕ → SourceValue V) → State L O → ℕ → ScanValue V
scan_value_of value kept state index = record {
  bag = (value state.keeping).bag;
  labels = (value state.keeping).labels;
  found = (kept state.origin index).found;
}

-- what it has written down for that question
abbrev pub scan_records_of : {L O V : Type 0} → (L → KeptValue V) → (O → ℕ → SourceValue V) → State L O → ℕ → ScanRecords
scan_records_of value kept state index =
    scan_records (value state.keeping).exits (value state.keeping).steps (kept state.origin index).set_outs

-- the step of the connection at an index, for each question
abbrev pub AreSteps : {L O V : Type 0} → Rules V → TimetableValue → (L → KeptValue V) → (List ℕ → ℕ → List ℕ) → (O → ℕ → SourceValue V)
    → SetQueryValue → ℕ → State L O → State L O → Type 0
AreSteps rules t value sources kept q place old new =
    (index : ℕ) → IsStep rules t (asked_from sources q index)
    (from_to (spelling_of t.footpaths (scan_records_of value kept old index)) (spelling_of t.footpaths (scan_records_of value kept new index)))
    place (scan_value_of value kept old index) (scan_value_of value kept new index)

-- points found match every journey that boards connection `start` or a later one
abbrev pub HasFound : {V : Type 0} → Rules V → TimetableValue → SetQueryValue → ℕ → ScanRecords → List (Point V) → Type 0
HasFound rules t q start s found =
    Matches rules (spelling_of t.footpaths s).journey (CountsFrom t q start) (IsPlainOf t (Contains q.targets)) (journey_value rules t) found

-- the shape of a scan that has read the connections of a timetable from an index on: sizes, criterion, and a bound that the points found for each question
-- outdo. Which points were found, `MatchesFrom` says; the loop of scan_window carries it
pub record IsScan {K L O V : Type 0} (rules_of : K → Rules V) (IsUnder : K → ℕ → ℕ → List V → L → Type 0) (IsSource : K → ℕ → O → Type 0)
    (kept : O → ℕ → SourceValue V) (criterion : K) (t : TimetableValue) (place : ℕ) (scan : Scan K L O V) : Type 0 where
  pub keeping : IsUnder criterion t.stops t.trips scan.bound.values.items scan.state.keeping
  pub source : IsSource criterion t.stops scan.state.origin
  pub bound : (index : ℕ) → AreBounds (rules_of criterion) t (kept scan.state.origin index).found place scan.bound.values.items

-- a scan may make the step of the connection at an index
pub record CanStep {K L V O : Type 0} (rules_of : K → Rules V) (IsUnder : K → ℕ → ℕ → List V → L → Type 0) (IsSource : K → ℕ → O → Type 0)
    (kept : O → ℕ → SourceValue V) (t : TimetableValue) (query : ScanQuery K) (place : ℕ) (c : Connection) (old : Scan K L O V) : Type 0 where
  pub asked : IsAsked t query
  pub stands : StandsAt t place c
  pub scan : IsScan rules_of IsUnder IsSource kept query.criterion t (place + 1) old

-- and it makes that step, for each question
pub record MakesStep {K L V O : Type 0} (rules_of : K → Rules V) (IsUnder : K → ℕ → ℕ → List V → L → Type 0) (value : L → KeptValue V)
    (IsSource : K → ℕ → O → Type 0) (sources : List ℕ → ℕ → List ℕ) (kept : O → ℕ → SourceValue V) (t : TimetableValue) (query : ScanQuery K)
    (place : ℕ) (old new : Scan K L O V) : Type 0 where
  pub scan : IsScan rules_of IsUnder IsSource kept query.criterion t place new
  pub step : AreSteps (rules_of query.criterion) t value sources kept (question query.query) place old.state new.state

-- a scan has read the connections from an index on: for each question the points found match
pub record HasScanned {K L V O : Type 0} (rules_of : K → Rules V) (value : L → KeptValue V) (IsSource : K → ℕ → O → Type 0)
    (sources : List ℕ → ℕ → List ℕ) (kept : O → ℕ → SourceValue V) (t : TimetableValue) (query : ScanQuery K) (start : ℕ) (scan : Scan K L O V)
    : Type 0 where
  pub under : IsSource query.criterion t.stops scan.state.origin
  pub found : (index : ℕ) → HasFound (rules_of query.criterion) t (asked_from sources (question query.query) index) start
      (scan_records_of value kept scan.state index) (kept scan.state.origin index).found
