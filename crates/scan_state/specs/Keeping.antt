-- What one connection makes of what a scan keeps of trips and stops, in whatever form.
use Rattle.std.specs.Prelude.{◌≡◌, ◌≢◌, ◌<◌, ℕ, List, [], Contains, true, Option, None}
use Rattle.criteria.specs.Laws.{Rules, Admits}
use Rattle.bags.specs.declared.point.Point.{Point}
use Rattle.timetable.specs.declared.network.Connection.{Connection}
use Rattle.timetable.specs.declared.network.Footpath.{Footpath}
use Rattle.timetable.specs.TimetableValue.{TimetableValue}
use Rattle.fronts.specs.Front.{Extends}
use Rattle.scan_state.specs.ScanState.{final_walk_in}
use Rattle.scan_state.specs.SetQuery.{SetQueryValue, asked_from, question}
use Rattle.scan_state.specs.Matching.{Spellings, from_to}
use Rattle.scan_state.specs.Steps.{TakesIn, TakesInBut, boardings, settings_out}
use Rattle.scan_state.specs.Bound.{Excludes, ExcludesMore}
use Rattle.scan_state.specs.Adding.{NoChange, endings_and_changes, only_if}
use Rattle.scan_state.specs.ScanRecords.{KeptValue, SourceValue, spelled_by}
use Rattle.scan_state.specs.Hops.{IsHopOf}
use Rattle.scan_state.specs.declared.final_walks.FinalWalk.{FinalWalk}
use Rattle.scan_state.specs.declared.hop.Hop.{Hop}
use Rattle.scan_state.specs.declared.hop.ScanQuery.{ScanQuery}
use Rattle.scan_state.specs.declared.scan_records.SetOut.{SetOut}

-- all values that are kept are admitted
pub record AdmitsKept {V : Type 0} (rules : Rules V) (kept : KeptValue V) : Type 0 where
  pub bags : (stop : ℕ) (p : Point V) → Contains (kept.bag stop) p → Admits rules p.value
  pub labels : (trip : ℕ) (p : Point V) → Contains (kept.labels trip) p → Admits rules p.value

-- nothing is kept yet
pub record IsNewKeeping {K L V : Type 0} (IsUnder : K → ℕ → ℕ → List V → L → Type 0) (value : L → KeptValue V) (criterion : K)
    (stops trips : ℕ) (new : L) : Type 0 where
  pub under : IsUnder criterion stops trips [] new
  pub bags : (stop : ℕ) → (value new).bag stop ≡ []
  pub labels : (trip : ℕ) → (value new).labels trip ≡ []

-- this trip and this stop are among those for which something is kept
pub record HasTripAndStop {K L V : Type 0} (IsUnder : K → ℕ → ℕ → List V → L → Type 0) (criterion : K) (of_trip of_stop : ℕ) (kept : L)
    : Type 0 where
  pub stops : ℕ
  pub trips : ℕ
  pub bound : List V
  pub under : IsUnder criterion stops trips bound kept
  pub trip : of_trip < trips
  pub stop : of_stop < stops

-- a connection at which nothing is offered but what these values exclude: its trip has no labels, and who gets off is neither at a target nor a footpath
-- away, and finds at the stop only points that they exclude
pub record IsIdle {V : Type 0} (rules : Rules V) (values : List V) (c : Connection) (way : Option FinalWalk) (labels bag : List (Point V)) : Type 0 where
  pub no_labels : labels ≡ []
  pub leads_nowhere : c.alight ≡ true → (way ≡ None) × ((p : Point V) → Contains bag p → Excludes rules values p.value)

-- exits and steps are only added
pub record WritesOn {V : Type 0} (old new : KeptValue V) : Type 0 where
  pub exits : Extends old.exits new.exits
  pub steps : Extends old.steps new.steps

-- the labels of a hop's trip take in the ways to leave it where the connection ends, but for changes that the bound excludes; no other labels change
pub record Leaves {V : Type 0} (rules : Rules V) (q : SetQueryValue) (hop : Hop V) (old new : KeptValue V) : Type 0 where
  pub writes : WritesOn old new
  pub bags : (stop : ℕ) → new.bag stop ≡ old.bag stop
  pub other_trips : (trip : ℕ) → trip ≢ hop.connection.trip → new.labels trip ≡ old.labels trip
  pub takes : (walks : List Footpath) (set_outs : List SetOut) → TakesInBut rules (NoChange (Excludes rules hop.bound.now))
      (only_if (hop.connection.alight ≡ true) (endings_and_changes rules (from_to (spelled_by walks old set_outs) (spelled_by walks new set_outs))
      hop.place hop.connection q (final_walk_in hop.final_entry) (old.bag hop.connection.to)))
      (old.labels hop.connection.trip) (new.labels hop.connection.trip)

-- what tags spell before and after, each with the ways to set out that there are then
abbrev pub spelled_on : {V : Type 0} → List Footpath → KeptValue V → SourceValue V → KeptValue V → SourceValue V → Spellings
spelled_on walks old from new to = from_to (spelled_by walks old from.set_outs) (spelled_by walks new to.set_outs)

-- by the labels of a hop's trip one sets out, and boards but for labels that the bound excludes; no labels change
pub record GoesOn {V O : Type 0} (rules : Rules V) (t : TimetableValue) (sources : List ℕ → ℕ → List ℕ) (kept : O → ℕ → SourceValue V)
    (q : SetQueryValue) (hop : Hop V) (old new : KeptValue V) (from to : O) : Type 0 where
  pub writes : WritesOn old new
  pub set_outs : (index : ℕ) → Extends (kept from index).set_outs (kept to index).set_outs
  pub labels : (trip : ℕ) → new.labels trip ≡ old.labels trip
  pub sets_out : (index : ℕ) → TakesIn rules
      (settings_out rules t (asked_from sources q index) (spelled_on t.footpaths old (kept from index) new (kept to index)) hop.place
      (new.labels hop.connection.trip)) (kept from index).found (kept to index).found
  pub boards : (index stop : ℕ) → stop < t.stops → TakesInBut rules (λ way. Excludes rules hop.bound.now way.label.value)
      (boardings rules t (spelled_on t.footpaths old (kept from index) new (kept to index)) hop.place stop (new.labels hop.connection.trip))
      (old.bag stop) (new.bag stop)

-- a hop may be taken in. Its bound excludes what the bound of the connection before excluded
pub record CanTake {K L V O : Type 0} (rules_of : K → Rules V) (IsUnder : K → ℕ → ℕ → List V → L → Type 0) (IsSource : K → ℕ → O → Type 0)
    (t : TimetableValue) (query : ScanQuery K) (here : Hop V) (kept : L) (origin : O) : Type 0 where
  pub hop : IsHopOf (rules_of query.criterion) t (question query.query) query.starts here
  pub bound : List V
  pub excludes : ExcludesMore (rules_of query.criterion) bound here.bound.now
  pub keeping : IsUnder query.criterion t.stops t.trips bound kept
  pub source : IsSource query.criterion t.stops origin

-- and it is taken in
pub record TakesHop {K L V O : Type 0} (rules_of : K → Rules V) (IsUnder : K → ℕ → ℕ → List V → L → Type 0) (value : L → KeptValue V)
    (IsSource : K → ℕ → O → Type 0) (sources : List ℕ → ℕ → List ℕ) (kept : O → ℕ → SourceValue V) (t : TimetableValue) (query : ScanQuery K)
    (here : Hop V) (old new : L) (from to : O) : Type 0 where
  pub keeping : IsUnder query.criterion t.stops t.trips here.bound.now new
  pub source : IsSource query.criterion t.stops to
  pub between : KeptValue V
  pub leaves : Leaves (rules_of query.criterion) (question query.query) here (value old) between
  pub goes_on : GoesOn (rules_of query.criterion) t sources kept (question query.query) here between (value new) from to
