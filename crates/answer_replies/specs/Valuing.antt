-- What journeys are worth, by each criterion, and what is shown of their values.
use Rattle.std.specs.Prelude.{◌+◌, ◌&&◌, ℕ, Some, None, min, nat_le, nat_lt}
use Rattle.std.specs.Ordering.{nat_cmp, ordering_then}
use Rattle.criteria.specs.Laws.{Rules, time_limit}
use Rattle.criteria.specs.declared.arrival_trips.TimeTrips.{TimeTrips}
use Rattle.criteria.specs.declared.arrival_trips_walk.TimeTripsWalk.{TimeTripsWalk}
use Rattle.criteria.specs.declared.figures.Figures.{Figures}

-- the time of arrival
abbrev pub by_arrival : Rules ℕ
by_arrival = record {
  arrive = λ time. time;
  ride = λ v. v;
  walk = λ _ v. v;
  no_worse = nat_le;
  list_order = nat_cmp;
  admits = λ v. nat_lt v time_limit;
}

abbrev pub arrival_figures : ℕ → Figures
arrival_figures v = record { arrival = v; trips = None; walked = None }

-- the time of arrival with the number of trips, up to 65,535
abbrev pub by_trips : Rules TimeTrips
by_trips = record {
  arrive = λ time. record { time = time; trips = 0 };
  ride = λ v. record { time = v.time; trips = min (v.trips + 1) 65535 };
  walk = λ _ v. v;
  no_worse = λ v w. nat_le v.time w.time && nat_le v.trips w.trips;
  list_order = λ v w. ordering_then (nat_cmp v.time w.time) (nat_cmp v.trips w.trips);
  admits = λ v. nat_lt v.time time_limit && nat_le v.trips 65535;
}

abbrev pub trips_figures : TimeTrips → Figures
trips_figures v = record { arrival = v.time; trips = Some v.trips; walked = None }

-- both with the seconds of all footpaths, up to 4,294,967,295
abbrev pub by_walking : Rules TimeTripsWalk
by_walking = record {
  arrive = λ time. record { time = time; trips = 0; walked = 0 };
  ride = λ v. record { time = v.time; trips = min (v.trips + 1) 65535; walked = v.walked };
  walk = λ secs v. record { time = v.time; trips = v.trips; walked = min (v.walked + secs) 4294967295 };
  no_worse = λ v w. nat_le v.time w.time && (nat_le v.trips w.trips && nat_le v.walked w.walked);
  list_order = λ v w. ordering_then (nat_cmp v.time w.time) (ordering_then (nat_cmp v.trips w.trips) (nat_cmp v.walked w.walked));
  admits = λ v. nat_lt v.time time_limit && (nat_le v.trips 65535 && nat_le v.walked 4294967295);
}

abbrev pub walking_figures : TimeTripsWalk → Figures
walking_figures v = record { arrival = v.time; trips = Some v.trips; walked = Some v.walked }
