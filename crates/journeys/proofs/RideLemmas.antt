-- Rides that lead from a stop to the goal, ride by ride.
use Rattle.std.proofs.Common.{◌≡◌, ◌≢◌, ℕ, zero, suc, ◌<◌, ◌≤◌, List, [], ◌∷◌, length, refl, sym, ap, arith}
use Rattle.timetable.specs.TimetableValue.{TimetableValue}
use Rattle.timetable.specs.JourneyValue.{RideValue}
use Rattle.timetable.specs.Journeys.{IsLeg, IsWalk, Leads, connection_at, stop_after, time_after, final_time}
use Rattle.journeys.specs.Faults.{ride_at, leg_stop, leg_time, leg_end}

-- from ride i one changes to the next
pub record IsChange (t : TimetableValue) (rides : List RideValue) (i : ℕ) : Type 0 where
  pub some : (ride_at rides i).walk ≢ []
  pub joins : stop_after t (ride_at rides i) ≡ leg_stop t rides (suc i)
  pub in_time : time_after t (ride_at rides i) ≤ leg_time t rides (suc i)

-- ride i by itself, and beside the next where there is one
pub record IsRide (t : TimetableValue) (rides : List RideValue) (i : ℕ) : Type 0 where
  pub leg : IsLeg t (ride_at rides i).leg
  pub walk : IsWalk t (leg_end t rides i) (ride_at rides i).walk
  pub changes : suc i < length rides → IsChange t rides i

abbrev pub AreRides : TimetableValue → List RideValue → Type 0
AreRides t rides = (i : ℕ) → i < length rides → IsRide t rides i

-- the last ride ends at the goal
abbrev pub EndsAt : TimetableValue → ℕ → List RideValue → Type 0
EndsAt t goal rides = (k : ℕ) → suc k ≡ length rides → stop_after t (ride_at rides k) ≡ goal

IsRide-later : (t : TimetableValue) (r : RideValue) (rest : List RideValue) (i : ℕ) → IsRide t (r ∷ rest) (suc i) → IsRide t rest i
IsRide-later t r rest i x = record {
  leg = x.leg;
  walk = x.walk;
  changes = λ lt. let y = x.changes (omega (arith, lt)) in record { some = y.some; joins = y.joins; in_time = y.in_time };
}

IsRide-sooner : (t : TimetableValue) (r : RideValue) (rest : List RideValue) (i : ℕ) → IsRide t rest i → IsRide t (r ∷ rest) (suc i)
IsRide-sooner t r rest i x = record {
  leg = x.leg;
  walk = x.walk;
  changes = λ lt. let y = x.changes (omega (arith, lt)) in record { some = y.some; joins = y.joins; in_time = y.in_time };
}

pub Leads-from : (t : TimetableValue) (goal : ℕ) (r : RideValue) (rest : List RideValue) (stop time : ℕ) → AreRides t (r ∷ rest)
    → (connection_at t r.leg.first).from ≡ stop → time ≤ (connection_at t r.leg.first).dep → EndsAt t goal (r ∷ rest) → Leads t goal stop time (r ∷ rest)
Leads-from t goal r [] stop time rides at in_time ends =
    let here = rides 0 (omega arith) in
    (here.leg, at, in_time, here.walk, λ some. absurd (some refl), ends 0 refl)
Leads-from t goal r (s ∷ rest) stop time rides at in_time ends =
    let here = rides 0 (omega arith) in
    let change = here.changes (omega arith) in (
      here.leg,
      at,
      in_time,
      here.walk,
      λ some. change.some,
      Leads-from t goal s rest (stop_after t r) (time_after t r)
          (λ i lt. IsRide-later t r (s ∷ rest) i (rides (suc i) (omega (arith, lt)))) (sym change.joins) change.in_time (λ k e. ends (suc k) (ap suc e)),
    )

pub AreRides-from : (t : TimetableValue) (goal : ℕ) (rides : List RideValue) (stop time : ℕ) → Leads t goal stop time rides → AreRides t rides
AreRides-from t goal [] stop time leads i lt = absurd (omega (arith, lt))
AreRides-from t goal (r ∷ []) stop time leads zero lt = record { leg = leads.0; walk = leads.3; changes = λ next. absurd (omega (arith, next)) }
AreRides-from t goal (r ∷ []) stop time leads (suc i) lt = absurd (omega (arith, lt))
AreRides-from t goal (r ∷ s ∷ rest) stop time leads zero lt = record {
  leg = leads.0;
  walk = leads.3;
  changes = λ next. record { some = leads.4 (λ e. absurd cc); joins = sym leads.5.1; in_time = leads.5.2 };
}
AreRides-from t goal (r ∷ s ∷ rest) stop time leads (suc i) lt =
    IsRide-sooner t r (s ∷ rest) i (AreRides-from t goal (s ∷ rest) (stop_after t r) (time_after t r) leads.5 i (omega (arith, lt)))

pub EndsAt-from : (t : TimetableValue) (goal : ℕ) (rides : List RideValue) (stop time : ℕ) → Leads t goal stop time rides → EndsAt t goal rides
EndsAt-from t goal [] stop time leads k e = absurd (omega (arith, e))
EndsAt-from t goal (r ∷ []) stop time leads zero e = leads.5
EndsAt-from t goal (r ∷ []) stop time leads (suc k) e = absurd (omega (arith, e))
EndsAt-from t goal (r ∷ s ∷ rest) stop time leads zero e = absurd (omega (arith, e))
EndsAt-from t goal (r ∷ s ∷ rest) stop time leads (suc k) e = EndsAt-from t goal (s ∷ rest) (stop_after t r) (time_after t r) leads.5 k (omega (arith, e))

-- the rides are over when the last one is
pub final_time-last : (t : TimetableValue) (rides : List RideValue) (time k : ℕ) → suc k ≡ length rides
    → final_time t time rides ≡ time_after t (ride_at rides k)
final_time-last t [] time k e = absurd (omega (arith, e))
final_time-last t (r ∷ []) time zero e = refl
final_time-last t (r ∷ []) time (suc k) e = absurd (omega (arith, e))
final_time-last t (r ∷ s ∷ rest) time zero e = absurd (omega (arith, e))
final_time-last t (r ∷ s ∷ rest) time (suc k) e = final_time-last t (s ∷ rest) (time_after t r) k (omega (arith, e))
