-- What is printed of two values of an instance differs if they differ.
use Rattle.std.specs.Prelude.{◌≡◌, ℕ, Some, None}
use Rattle.std.proofs.Common.{ap}
use Rattle.std.proofs.lemmas.Option.{same_Some}
use Rattle.criteria.specs.declared.figures.Figures.{Figures}
use Rattle.criteria.specs.declared.arrival_trips.TimeTrips.{TimeTrips}
use Rattle.criteria.specs.declared.arrival_trips_walk.TimeTripsWalk.{TimeTripsWalk}
use Rattle.criteria.specs.TimeTripsLaws as pairs
use Rattle.criteria.specs.TimeTripsWalkLaws as triples

-- each number that is printed
arrival_of : (v w : Figures) → v ≡ w → v.arrival ≡ w.arrival
arrival_of v w e = ap (λ (figures : Figures). figures.arrival) e

trips_of : (v w : Figures) → v ≡ w → v.trips ≡ w.trips
trips_of v w e = ap (λ (figures : Figures). figures.trips) e

walked_of : (v w : Figures) → v ≡ w → v.walked ≡ w.walked
walked_of v w e = ap (λ (figures : Figures). figures.walked) e

abbrev by_time : ℕ → Figures
by_time time = record { arrival = time; trips = None; walked = None }

abbrev by_two : TimeTrips → Figures
by_two v = record { arrival = v.time; trips = Some v.trips; walked = None }

abbrev by_three : TimeTripsWalk → Figures
by_three v = record { arrival = v.time; trips = Some v.trips; walked = Some v.walked }

pub time_by_figures : (v w : ℕ) → by_time v ≡ by_time w → v ≡ w
time_by_figures v w e = arrival_of (by_time v) (by_time w) e

pub trips_by_figures : (v w : TimeTrips) → by_two v ≡ by_two w → v ≡ w
trips_by_figures v w e = pairs.same_parts v w (arrival_of (by_two v) (by_two w) e) (same_Some v.trips w.trips (trips_of (by_two v) (by_two w) e))

pub walk_by_figures : (v w : TimeTripsWalk) → by_three v ≡ by_three w → v ≡ w
walk_by_figures v w e =
    triples.same_parts v w (arrival_of (by_three v) (by_three w) e)
    (same_Some v.trips w.trips (trips_of (by_three v) (by_three w) e))
    (same_Some v.walked w.walked (walked_of (by_three v) (by_three w) e))
