-- What a scan is asked, and the connection that it has come to.
use Rattle.std.specs.Prelude.{◌≡◌, ℕ, ◌<◌, ◌≤◌, List, Option, Some, length, slice_get, Contains, IfSome}
use Rattle.criteria.specs.Laws.{Rules, Admits, IsTime, IsSecs}
use Rattle.timetable.specs.declared.network.Connection.{Connection}
use Rattle.timetable.specs.declared.network.Footpath.{Footpath}
use Rattle.timetable.specs.TimetableValue.{TimetableValue}
use Rattle.timetable.specs.Journeys.{connection_at}
use Rattle.sources.specs.FirstAt.{IsFirstAt}
use Rattle.scan_state.specs.SetQuery.{SetQueryValue, question}
use Rattle.scan_state.specs.ScanState.{AreFinalWalks, IsFinalWalk, final_walk_in, final_walks_of}
use Rattle.scan_state.specs.Starts.{AreStarts, IsStopAccess, SaysSource}
use Rattle.scan_state.specs.declared.hop.ScanQuery.{ScanQuery}
use Rattle.scan_state.specs.declared.hop.Hop.{Hop}
use Rattle.scan_state.specs.declared.starts.StopAccess.{StopAccess}
use Rattle.scan_state.specs.declared.starts.Starts.{Starts}

-- the query's latest arrival is a time, the starts lead from its sources, and the ways to its targets
pub record IsAsked {K : Type 0} (t : TimetableValue) (asked : ScanQuery K) : Type 0 where
  pub by : IsTime asked.query.by
  pub starts : AreStarts t (question asked.query).sources asked.starts
  pub final_walks : AreFinalWalks t (question asked.query).targets (final_walks_of asked.final_walks)

-- the same of a query, by a criterion
pub record Asks {K : Type 0} (t : TimetableValue) (criterion : K) (q : SetQueryValue) (scan : ScanQuery K) : Type 0 where
  pub asked : IsAsked t scan
  pub keeps : (scan.criterion ≡ criterion) × (question scan.query ≡ q)

-- the indices from `start` on, before `end`, which is the first of a connection that departs at the latest arrival or later
pub record IsWindow {K : Type 0} (t : TimetableValue) (asked : ScanQuery K) (start end : ℕ) : Type 0 where
  pub can_ask : IsAsked t asked
  pub order : start ≤ end
  pub past : IsFirstAt t asked.query.by end

-- the connection at an index
pub record StandsAt (t : TimetableValue) (place : ℕ) (c : Connection) : Type 0 where
  pub in_range : place < length t.connections
  pub is : c ≡ connection_at t place

-- the hop's numbers and values are within what the laws are about; nothing here ties them to a timetable
pub record IsHop {V : Type 0} (rules : Rules V) (q : SetQueryValue) (hop : Hop V) : Type 0 where
  pub arrival : IsTime hop.connection.arr
  pub by : IsTime q.by
  pub secs : IfSome (final_walk_in hop.final_entry) (λ way. IsSecs way.secs)
  pub bound : (b : V) → Contains hop.bound.now b → Admits rules b

-- whether a start is from a source can be looked up: `hop.access` says it of the stop where the connection begins, `starts` of the stop where a footpath begins
pub record KnowsSources {V : Type 0} (sources : List ℕ) (hop : Hop V) (starts : Starts) (start : Option Footpath) : Type 0 where
  pub here : SaysSource sources hop.connection.from hop.access.here
  pub within : IfSome start (λ walk. walk.from < length starts.leads.items)
  pub says : (stop : ℕ) (lead : StopAccess) → slice_get starts.leads.items stop ≡ Some lead → SaysSource sources stop lead.here

-- the connection is at its index, begins and ends at stops and is of a trip; the starts lead from the sources; it is known whether it begins at a source and
-- whether a footpath leads there from one; and the way leads from where it ends to a target
pub record IsHopOf {V : Type 0} (rules : Rules V) (t : TimetableValue) (q : SetQueryValue) (known : Starts) (hop : Hop V) : Type 0 where
  pub stands : StandsAt t hop.place hop.connection
  pub begins : hop.connection.from < t.stops
  pub ends : hop.connection.to < t.stops
  pub on_trip : hop.connection.trip < t.trips
  pub by : IsTime q.by
  pub starts : AreStarts t q.sources known
  pub access : IsStopAccess t q.sources hop.connection.from hop.access
  pub final_walk : IsFinalWalk t q.targets hop.connection.to (final_walk_in hop.final_entry)
  pub bound : (b : V) → Contains hop.bound.now b → Admits rules b
