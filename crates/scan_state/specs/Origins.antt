-- What a scan keeps where journeys set out: for a query's sources together, or for each stop.
use Rattle.std.specs.Prelude.{◌≡◌, ℕ, List, [], ◌∷◌, length, Option, Some, None, slice_get}
use Rattle.bags.specs.Bag.{criterion_of, points_of}
use Rattle.bags.specs.declared.point.Point.{Point}
use Rattle.timetable.specs.declared.network.Connection.{Connection}
use Rattle.timetable.specs.declared.network.Footpath.{Footpath}
use Rattle.scan_state.specs.SetQuery.{SetQueryValue}
use Rattle.scan_state.specs.ScanRecords.{SourceValue}
use Rattle.scan_state.specs.declared.origin.Origin.{Origin}
use Rattle.scan_state.specs.declared.origins.Origins.{Origins}
use Rattle.scan_state.specs.declared.scan_records.SetOut.{SetOut}

-- the same query from another stop
abbrev pub from_stop : SetQueryValue → ℕ → SetQueryValue
from_stop q stop = record q { sources = stop ∷ [] }

-- the stop where one sets out by a start to board a connection
abbrev pub starts_at : Connection → Option Footpath → ℕ
starts_at c None = c.from
starts_at c (Some walk) = walk.from

abbrev pub IsLoop : Option Footpath → Type 0
IsLoop None = ⊥
IsLoop (Some walk) = walk.to ≡ walk.from

-- what is kept for a query's sources together
abbrev pub kept_of : {K V : Type 0} {c : _} → Origin K V c → SourceValue V
kept_of origin = record { found = points_of origin.found; set_outs = origin.set_outs.items }

abbrev pub found_by : {K V : Type 0} {c : _} → Option (Origin K V c) → List (Point V)
found_by None = []
found_by (Some origin) = points_of origin.found

abbrev pub set_outs_by : {K V : Type 0} {c : _} → Option (Origin K V c) → List SetOut
set_outs_by None = []
set_outs_by (Some origin) = origin.set_outs.items

-- the points found from a stop, and how one sets out for each
abbrev pub found_from : {K V : Type 0} {c : _} → Origins K V c → ℕ → List (Point V)
found_from origins stop = found_by (slice_get origins.each.items stop)

abbrev pub set_outs_from : {K V : Type 0} {c : _} → Origins K V c → ℕ → List SetOut
set_outs_from origins stop = set_outs_by (slice_get origins.each.items stop)

-- both
abbrev pub scan_value_from : {K V : Type 0} {c : _} → Origins K V c → ℕ → SourceValue V
scan_value_from origins stop = record { found = found_from origins stop; set_outs = set_outs_from origins stop }

-- the points found from each stop are under a criterion
abbrev pub AreUnder : {K V : Type 0} {c : _} → K → Origins K V c → Type 0
AreUnder {K} {V} {c} criterion origins =
    (stop : ℕ) (origin : Origin K V c) → slice_get origins.each.items stop ≡ Some origin
    → criterion_of origin.found ≡ criterion

-- the same for `count` stops
pub record AreOrigins {K V : Type 0} {c : _} (criterion : K) (count : ℕ) (origins : Origins K V c) : Type 0 where
  pub long : length origins.each.items ≡ count
  pub under : AreUnder criterion origins
