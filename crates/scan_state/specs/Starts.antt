-- Where one may set out: at a source, or after a footpath from one.
use Rattle.std.specs.Prelude.{◌≡◌, ◌≢◌, ℕ, ◌<◌, List, Contains, length, slice_get, slice_index_or, Some, Bool, true, false, MatchBool}
use Rattle.timetable.specs.declared.network.Footpath.{Footpath}
use Rattle.timetable.specs.TimetableValue.{TimetableValue}
use Rattle.scan_state.specs.declared.starts.StopAccess.{StopAccess}
use Rattle.scan_state.specs.declared.starts.Starts.{Starts}

-- a Boolean says whether a stop is a source
abbrev pub SaysSource : List ℕ → ℕ → Bool → Type 0
SaysSource sources stop is = MatchBool is (Contains sources stop) (Contains sources stop → ⊥)

-- a footpath leads from a source to another stop
abbrev pub IsFromSource : List ℕ → Footpath → Type 0
IsFromSource sources f = Contains sources f.from × (f.to ≢ f.from)

-- a footpath leads to a stop from a source, and isn't a loop
abbrev pub IsLed : TimetableValue → List ℕ → ℕ → Type 0
IsLed t sources stop = (f : Footpath) × Contains t.footpaths f × IsFromSource sources f × (f.to ≡ stop)

-- whether a footpath does
abbrev pub SaysLed : TimetableValue → List ℕ → ℕ → Bool → Type 0
SaysLed t sources stop led = MatchBool led (IsLed t sources stop) (IsLed t sources stop → ⊥)

-- a stop is one of the first k sources
abbrev pub IsAmong : List ℕ → ℕ → ℕ → Type 0
IsAmong sources k stop = (j : ℕ) × (j < k) × (slice_get sources j ≡ Some stop)

-- among n stops exactly the first k sources are marked
pub record AreMarked (sources : List ℕ) (k n : ℕ) (marked : List Bool) : Type 0 where
  pub long : length marked ≡ n
  pub each : (stop : ℕ) → stop < n
      → MatchBool (slice_index_or marked stop false) (IsAmong sources k stop) (IsAmong sources k stop → ⊥)

-- the same of footpaths from marked stops
abbrev pub IsFromMarked : List Bool → Footpath → Type 0
IsFromMarked marked f = (slice_index_or marked f.from false ≡ true) × (f.to ≢ f.from)

abbrev pub IsLedBy : TimetableValue → List Bool → ℕ → Type 0
IsLedBy t marked stop = (f : Footpath) × Contains t.footpaths f × IsFromMarked marked f × (f.to ≡ stop)

pub record IsStopAccessBy (t : TimetableValue) (marked : List Bool) (stop : ℕ) (lead : StopAccess) : Type 0 where
  pub here : lead.here ≡ slice_index_or marked stop false
  pub led : MatchBool lead.led (IsLedBy t marked stop) (IsLedBy t marked stop → ⊥)

-- what is known of a stop
pub record IsStopAccess (t : TimetableValue) (sources : List ℕ) (stop : ℕ) (lead : StopAccess) : Type 0 where
  pub here : SaysSource sources stop lead.here
  pub led : SaysLed t sources stop lead.led

-- the same for each stop
pub record AreStarts (t : TimetableValue) (sources : List ℕ) (starts : Starts) : Type 0 where
  pub long : length starts.leads.items ≡ t.stops
  pub each : (stop : ℕ) (lead : StopAccess) → slice_get starts.leads.items stop ≡ Some lead → IsStopAccess t sources stop lead
