-- Legs without fault.
use Rattle.std.proofs.Common.{◌≡◌, ◌≢◌, ℕ, ◌<◌, not, ◌||◌, eqb, leb, ltb, List, length, Some, None, refl, sym, ap, ◌∙◌, arith}
use Rattle.std.proofs.lemmas.Bool.{or_parts, or_from, leb-false, ltb-false, le-ltb, lt-leb, eq-eqb, eqb-true, ne_eqb, eqb-false, not-false}
use Rattle.std.proofs.lemmas.Bool.{cond-false}
use Rattle.reasoning.specs.First.{first_below}
use Rattle.reasoning.proofs.FirstLemmas.{no_fault, first_below-none, first_below-all, passes}
use Rattle.timetable.specs.declared.journey.Leg.{Leg}
use Rattle.timetable.specs.TimetableValue.{TimetableValue}
use Rattle.timetable.specs.JourneyValue.{RideValue}
use Rattle.timetable.specs.Journeys.{IsLeg, connection_at}
use Rattle.journeys.specs.declared.fault.JourneyFault.TheVariants.{LegRange, TwoTrips, NoBoarding, NoAlighting}
use Rattle.journeys.specs.Faults.{leg_fault, legs_fault, ride_at, AreLegs}

pub IsLeg-from : (t : TimetableValue) (i : ℕ) (leg : Leg) → leg_fault t i leg ≡ None → IsLeg t leg
unfolding leg_fault
IsLeg-from t i leg e =
    let a = no_fault (ltb leg.last leg.first || leb (length t.connections) leg.last) (LegRange i) _ e in
    let b = no_fault (not (eqb (connection_at t leg.first).trip (connection_at t leg.last).trip)) (TwoTrips i) _ a.1 in
    let d = no_fault (not (connection_at t leg.first).board) (NoBoarding i) _ b.1 in
    let f = no_fault (not (connection_at t leg.last).alight) (NoAlighting i) None d.1 in
    let range = or_parts _ _ a.0 in
    record {
      rising = ltb-false _ _ range.0;
      in_range = leb-false _ _ range.1;
      one_trip = eqb-true _ _ (not-false _ b.0);
      boards = not-false _ d.0;
      alights = not-false _ f.0;
    }

pub leg_fault-none : (t : TimetableValue) (i : ℕ) (leg : Leg) → IsLeg t leg → leg_fault t i leg ≡ None
unfolding leg_fault
leg_fault-none t i leg is =
    passes _ (LegRange i) _ (or_from _ _ (le-ltb _ _ is.rising) (lt-leb _ _ is.in_range))
    (passes _ (TwoTrips i) _ (ap not (eq-eqb _ _ is.one_trip))
    (passes _ (NoBoarding i) _ (ap not is.boards)
    (passes _ (NoAlighting i) None (ap not is.alights) refl)))

pub legs_fault-first : (t : TimetableValue) (rides : List RideValue) → length rides ≢ 0
    → legs_fault t rides ≡ first_below (λ i. leg_fault t i (ride_at rides i).leg) (length rides)
unfolding legs_fault
legs_fault-first t rides some = cond-false (eqb (length rides) 0) (Some (LegRange 0)) _ (ne_eqb _ _ some)

-- legs without fault: there is one at least, and each is a leg
pub some_legs : (t : TimetableValue) (rides : List RideValue) → legs_fault t rides ≡ None → 0 < length rides
unfolding legs_fault
some_legs t rides e =
    let a = no_fault (eqb (length rides) 0) (LegRange 0) _ e in
    let some : length rides ≢ 0 = eqb-false _ _ a.0 in
    omega arith

pub AreLegs-from : (t : TimetableValue) (rides : List RideValue) → legs_fault t rides ≡ None → AreLegs t rides
AreLegs-from t rides e i lt =
    let some : length rides ≢ 0 = omega arith in
    IsLeg-from t i (ride_at rides i).leg (first_below-none (λ k. leg_fault t k (ride_at rides k).leg) (length rides) i lt
    (sym (legs_fault-first t rides some) ∙ e))

pub legs_fault-none : (t : TimetableValue) (rides : List RideValue) → 0 < length rides → AreLegs t rides → legs_fault t rides ≡ None
legs_fault-none t rides some legs =
    legs_fault-first t rides (omega arith) ∙ first_below-all (λ i. leg_fault t i (ride_at rides i).leg) (length rides)
    (λ i lt. leg_fault-none t i (ride_at rides i).leg (legs i lt))
