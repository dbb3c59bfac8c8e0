-- What the vectors of a scan keep for each stop and each trip.
use Rattle.std.specs.Prelude.{◌≡◌, ◌⊎◌, ℕ, ◌<◌, ◌≤◌, List, length, vec_len, Contains, slice_get, slice_index, slice_index_or, Option, Some, None}
use Rattle.std.specs.Prelude.{Bool, true, false, map}
use Rattle.bags.specs.declared.point.Point.{Point}
use Rattle.timetable.specs.declared.network.Footpath.{Footpath}
use Rattle.timetable.specs.TimetableValue.{TimetableValue}
use Rattle.criteria.specs.Laws.{Rules}
use Rattle.fronts.specs.Lists.{IsSound, lists_criterion, entries_of, list_points}
use Rattle.scan_state.specs.declared.stops.Stops.{Stops}
use Rattle.scan_state.specs.declared.final_walks.FinalWalk.{FinalWalk}
use Rattle.scan_state.specs.declared.final_walk_table.FinalWalks.{FinalWalks}
use Rattle.scan_state.specs.FinalWalkEntries.{is_walk}

-- the points of a stop's list
abbrev pub points_at : {K V : Type 0} → Stops K V → ℕ → List (Point V)
points_at stops stop = list_points stops.lists (slice_index stops.heads.items stop)

-- `count` lists under a criterion
pub record AreStops {K V : Type 0} (rules_of : K → Rules V) (criterion : K) (count : ℕ)
    (stops : Stops K V) : Type 0 where
  pub under : lists_criterion stops.lists ≡ criterion
  pub sound : IsSound rules_of stops.lists
  pub long : vec_len stops.heads ≡ count
  pub within : (stop : ℕ) → slice_index stops.heads.items stop < length (entries_of stops.lists)

-- the seconds of the footpath from a stop to the target, if there is one
abbrev pub IsDirectSecs : TimetableValue → ℕ → ℕ → Option ℕ → Type 0
IsDirectSecs t target stop None = (f : Footpath) → Contains t.footpaths f → f.from ≡ stop → f.to ≡ target → ⊥
IsDirectSecs t target stop (Some secs) = Contains t.footpaths (record { from = stop; to = target; secs = secs })

-- what an entry says: a way, or that there is none
abbrev pub final_walk_if : Bool → FinalWalk → Option FinalWalk
final_walk_if true entry = Some entry
final_walk_if false entry = None

abbrev pub final_walk_in : FinalWalk → Option FinalWalk
final_walk_in entry = final_walk_if (is_walk entry) entry

-- the way from each stop
abbrev pub final_walks_of : FinalWalks → List (Option FinalWalk)
final_walks_of final_walks = map final_walk_in final_walks.entries.items

-- the footpath that a way from a stop is, if there is one
abbrev pub walk_by : ℕ → Option FinalWalk → Option Footpath
walk_by stop None = None
walk_by stop (Some way) = Some (record { from = stop; to = way.to; secs = way.secs })

-- a way from a stop leads to the target at `index`. From a target it is the loop; from another stop no footpath to a target is shorter, and of equal ones
-- it leads to the target that is named first
pub record IsNearest (t : TimetableValue) (targets : List ℕ) (stop : ℕ) (way : FinalWalk) : Type 0 where
  pub index : ℕ
  pub leads : slice_get targets index ≡ Some way.to
  pub is_footpath : Contains t.footpaths (record { from = stop; to = way.to; secs = way.secs })
  pub own : Contains targets stop → way.to ≡ stop
  pub least : (Contains targets stop → ⊥) → (k : ℕ) (f : Footpath) → slice_get targets k ≡ Some f.to → Contains t.footpaths f
      → f.from ≡ stop → (way.secs < f.secs) ⊎ ((way.secs ≡ f.secs) × (index ≤ k))

-- how one ends a journey at a stop: by its way; or not at all, if it isn't a target and no footpath leads from there to one
abbrev pub IsFinalWalk : TimetableValue → List ℕ → ℕ → Option FinalWalk → Type 0
IsFinalWalk t targets stop None = (Contains targets stop → ⊥)
    × ((f : Footpath) → Contains t.footpaths f → f.from ≡ stop → Contains targets f.to → ⊥)
IsFinalWalk t targets stop (Some way) = IsNearest t targets stop way

-- there is an entry for each stop, which is right
pub record AreFinalWalks (t : TimetableValue) (targets : List ℕ) (final_walks : List (Option FinalWalk)) : Type 0 where
  pub long : length final_walks ≡ t.stops
  pub each : (stop : ℕ) → stop < t.stops → IsFinalWalk t targets stop (slice_index_or final_walks stop None)
