-- Lanes: the least time for each number of trips.
use Rattle.std.specs.Prelude.{◌≡◌, ◌+◌, ◌<◌, ◌≤◌, ◌&&◌, ℕ, suc, nat_le, nat_lt, min, List, [], ◌∷◌, length, slice_index, cond, Contains}
use Rattle.std.specs.Ordering.{nat_cmp, ordering_then}
use Rattle.criteria.specs.Laws.{Rules, NoWorse, time_limit}
use Rattle.criteria.specs.declared.arrival_trips.TimeTrips.{TimeTrips}
use Rattle.fronts.specs.declared.labels.Label.{Label}

-- what the criterion of arrival and trips computes
abbrev pub trip_rules : Rules TimeTrips
trip_rules = record {
  arrive = λ time. record { time = time; trips = 0 };
  ride = λ v. record { time = v.time; trips = min (v.trips + 1) 65535 };
  walk = λ _ v. v;
  no_worse = λ v w. nat_le v.time w.time && nat_le v.trips w.trips;
  list_order = λ v w. ordering_then (nat_cmp v.time w.time) (nat_cmp v.trips w.trips);
  admits = λ v. nat_lt v.time time_limit && nat_le v.trips 65535;
}

-- no time
abbrev pub never : ℕ
never = 4294967295

-- n lanes: lane k is the least time with at most k trips, or never, so that none is greater than one before it
pub record AreLanes (n : ℕ) (lanes : List ℕ) : Type 0 where
  pub long : length lanes ≡ n
  pub falls : (i k : ℕ) → i ≤ k → k < n → slice_index lanes k ≤ slice_index lanes i
  pub most : (k : ℕ) → k < n → slice_index lanes k ≤ never
  pub times : (k : ℕ) → k < n → slice_index lanes k < never → slice_index lanes k < time_limit

-- the labels that lanes stand for, from a number of trips on: each time that is less than all before it, with the tag of its lane
abbrev pub labels_from : (ℕ → ℕ) → ℕ → ℕ → List ℕ → List (Label TimeTrips)
labels_from tag k before [] = []
labels_from tag k before (t ∷ ts) =
    cond (nat_lt t before)
    (record { value = record { time = t; trips = k }; tag = tag k } ∷ labels_from tag (suc k) t ts)
    (labels_from tag (suc k) before ts)

abbrev pub lane_labels : (ℕ → ℕ) → List ℕ → List (Label TimeTrips)
lane_labels tag lanes = labels_from tag 0 never lanes

-- one of some labels is no worse than v (an equal one counts)
abbrev pub IsBeaten : List (Label TimeTrips) → TimeTrips → Type 0
IsBeaten labels v = (l : Label TimeTrips) × Contains labels l × NoWorse trip_rules l.value v

-- one of these labels is no worse than v with a ride before it
abbrev pub IsOutdone : List (Label TimeTrips) → TimeTrips → Type 0
IsOutdone bound v = IsBeaten bound (trip_rules.ride v)
