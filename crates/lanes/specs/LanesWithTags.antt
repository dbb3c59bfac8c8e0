-- Eight lanes of a trip, with a tag for each.
use Rattle.std.specs.Prelude.{◌≡◌, ℕ, Bool, false, List, [], Option, Some, None, length, slice_get, slice_index}
use Rattle.criteria.specs.declared.arrival_trips.TimeTrips.{TimeTrips}
use Rattle.fronts.specs.declared.labels.Label.{Label}
use Rattle.lanes.specs.Lanes.{AreLanes, lane_labels}
use Rattle.lanes.specs.declared.trip_lanes.Lanes.{Lanes}

-- the labels that they stand for
abbrev pub labels_in : Option Lanes → List (Label TimeTrips)
labels_in None = []
labels_in (Some lanes) = lane_labels (slice_index lanes.tags) lanes.times

pub record AreTagged (lanes : Lanes) : Type 0 where
  pub lanes_are : AreLanes 8 lanes.times
  pub tagged : length lanes.tags ≡ 8

-- those of each trip are so
abbrev pub AreAllTagged : List Lanes → Type 0
AreAllTagged all = (k : ℕ) (lanes : Lanes) → slice_get all k ≡ Some lanes → AreTagged lanes

-- each trip has a mark; one without it has no labels
pub record AreMarked (all : List Lanes) (marks : List Bool) : Type 0 where
  pub long : length marks ≡ length all
  pub none : (k : ℕ) → slice_get marks k ≡ Some false → labels_in (slice_get all k) ≡ []
