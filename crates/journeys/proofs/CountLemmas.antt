-- A journey without fault counts, and one that counts has none.
use Rattle.std.proofs.Common.{◌≡◌, ◌≢◌, ◌↔◌, ℕ, suc, ◌+◌, ◌-◌, ◌<◌, ◌≤◌, not, ◌||◌, eqb, ltb, List, [], ◌∷◌, length, Option, Some, None, Result, Ok}
use Rattle.std.proofs.Common.{Err, refl, sym, ap, subst, ◌∙◌, arith}
use Rattle.std.proofs.lemmas.Bool.{or_parts, or_from, ltb-false, le-ltb, eq-eqb, eqb-true, not-false}
use Rattle.reasoning.proofs.FirstLemmas.{option_or-none, option_or-some, option_or_parts, no_fault, first_below-none, first_below-all, passes}
use Rattle.timetable.specs.declared.network.Footpath.{Footpath}
use Rattle.timetable.specs.declared.journey.Times.{Times}
use Rattle.timetable.specs.declared.query.Query.{Query}
use Rattle.timetable.specs.TimetableValue.{TimetableValue}
use Rattle.timetable.specs.JourneyValue.{RideValue, JourneyValue}
use Rattle.timetable.specs.Journeys.{Leads, IsStart, Counts, arrival, start_end, start_secs, stop_after, first_departure, final_time}
use Rattle.journeys.specs.declared.fault.JourneyFault.{JourneyFault}
use Rattle.journeys.specs.declared.fault.JourneyFault.TheVariants.{WrongEnds, OutsideWindow}
use Rattle.journeys.specs.Faults.{ride_at, leg_stop, leg_time, legs_fault, start_fault, walk_after_fault, walks_fault, times_fault, begin_of, end_of}
use Rattle.journeys.specs.Faults.{over_at, ends_fault, window_fault, path_fault, first_fault}
use Rattle.journeys.specs.Judged.{IsTimed, IsJudged}
use Rattle.journeys.proofs.LegLemmas.{some_legs, AreLegs-from, legs_fault-none}
use Rattle.journeys.proofs.RideLemmas.{AreRides, EndsAt, Leads-from, AreRides-from, EndsAt-from, final_time-last}
use Rattle.journeys.proofs.ChangeLemmas.{walk_of_ride, change_of_ride, walk_after-none, in_time, times_fault-none, IsStart-from, start_fault-none}
use Rattle.journeys.proofs.ChangeLemmas.{begin_of-start}

-- no part has a fault
pub record AreFaultless (t : TimetableValue) (q : Query) (start : Option Footpath) (rides : List RideValue) : Type 0 where
  pub legs : legs_fault t rides ≡ None
  pub walks : walks_fault t start rides ≡ None
  pub times : times_fault t rides ≡ None
  pub ends : ends_fault t q start rides ≡ None
  pub window : window_fault t q start rides ≡ None

AreFaultless-parts : (t : TimetableValue) (q : Query) (start : Option Footpath) (rides : List RideValue) → path_fault t q start rides ≡ None
    → window_fault t q start rides ≡ None → AreFaultless t q start rides
unfolding path_fault
AreFaultless-parts t q start rides e window =
    let a = option_or_parts (legs_fault t rides) _ e in
    let b = option_or_parts (walks_fault t start rides) _ a.1 in
    let d = option_or_parts (times_fault t rides) _ b.1 in
    record { legs = a.0; walks = b.0; times = d.0; ends = d.1; window = window }

pub AreFaultless-from : (t : TimetableValue) (q : Query) (j : JourneyValue) → first_fault t q j ≡ None → AreFaultless t q j.start j.rides
unfolding first_fault
AreFaultless-from t q j e =
    let parts = option_or_parts (path_fault t q j.start j.rides) _ e in
    AreFaultless-parts t q j.start j.rides parts.0 parts.1

path_fault-none : (t : TimetableValue) (q : Query) (start : Option Footpath) (rides : List RideValue) → AreFaultless t q start rides
    → path_fault t q start rides ≡ None
unfolding path_fault
path_fault-none t q start rides x =
    option_or-none (legs_fault t rides) _ x.legs
    ∙ option_or-none (walks_fault t start rides) _ x.walks
    ∙ option_or-none (times_fault t rides) _ x.times
    ∙ x.ends

first_fault-none : (t : TimetableValue) (q : Query) (j : JourneyValue) → AreFaultless t q j.start j.rides → first_fault t q j ≡ None
unfolding first_fault
first_fault-none t q j x = option_or-none (path_fault t q j.start j.rides) _ (path_fault-none t q j.start j.rides x) ∙ x.window

-- the fault of the path is the first of all; where it has none, it is the window's
pub first_fault-path : (t : TimetableValue) (q : Query) (j : JourneyValue) (fault : JourneyFault) → path_fault t q j.start j.rides ≡ Some fault
    → first_fault t q j ≡ Some fault
unfolding first_fault
first_fault-path t q j fault e = option_or-some (path_fault t q j.start j.rides) (window_fault t q j.start j.rides) fault e

pub legs_without : (t : TimetableValue) (q : Query) (start : Option Footpath) (rides : List RideValue) → path_fault t q start rides ≡ None
    → legs_fault t rides ≡ None
unfolding path_fault
legs_without t q start rides e = (option_or_parts (legs_fault t rides) _ e).0

-- when it departs and is over, beside the window
pub record IsInWindow (t : TimetableValue) (q : Query) (start : Option Footpath) (rides : List RideValue) : Type 0 where
  pub from : q.from + start_secs start ≤ leg_time t rides 0
  pub until : leg_time t rides 0 ≤ q.until + start_secs start
  pub by : over_at t rides ≤ q.by

pub IsInWindow-from : (t : TimetableValue) (q : Query) (start : Option Footpath) (rides : List RideValue) → window_fault t q start rides ≡ None
    → IsInWindow t q start rides
unfolding window_fault
IsInWindow-from t q start rides e =
    let tests = (no_fault (ltb (leg_time t rides 0) (q.from + start_secs start) || ltb (q.until + start_secs start) (leg_time t rides 0) || ltb q.by
    (over_at t rides)) OutsideWindow None e).0 in
    let outer = or_parts _ _ tests in
    let inner = or_parts _ _ outer.0 in
    record { from = ltb-false _ _ inner.0; until = ltb-false _ _ inner.1; by = ltb-false _ _ outer.1 }

window_fault-none : (t : TimetableValue) (q : Query) (start : Option Footpath) (rides : List RideValue) → IsInWindow t q start rides
    → window_fault t q start rides ≡ None
unfolding window_fault
window_fault-none t q start rides x = passes _ OutsideWindow None (or_from _ _ (or_from _ _ (le-ltb _ _ x.from) (le-ltb _ _ x.until)) (le-ltb _ _ x.by)) refl

-- where it begins and ends
ends_of : (t : TimetableValue) (q : Query) (start : Option Footpath) (rides : List RideValue) → ends_fault t q start rides ≡ None
    → (begin_of start (leg_stop t rides 0) ≡ q.source) × (end_of t rides ≡ q.target)
unfolding ends_fault
ends_of t q start rides e =
    let tests = or_parts _ _ (no_fault (not (eqb (begin_of start (leg_stop t rides 0)) q.source) || not (eqb (end_of t rides) q.target)) WrongEnds None e).0 in
    (eqb-true _ _ (not-false _ tests.0), eqb-true _ _ (not-false _ tests.1))

ends_fault-none : (t : TimetableValue) (q : Query) (start : Option Footpath) (rides : List RideValue) → begin_of start (leg_stop t rides 0) ≡ q.source
    → end_of t rides ≡ q.target → ends_fault t q start rides ≡ None
unfolding ends_fault
ends_fault-none t q start rides begins ends = passes _ WrongEnds None (or_from _ _ (ap not (eq-eqb _ _ begins)) (ap not (eq-eqb _ _ ends))) refl

walks_parts : (t : TimetableValue) (start : Option Footpath) (rides : List RideValue) → walks_fault t start rides ≡ None
    → (start_fault t start (leg_stop t rides 0) ≡ None) × ((i : ℕ) → i < length rides → walk_after_fault t rides i ≡ None)
unfolding walks_fault
walks_parts t start rides e =
    let parts = option_or_parts (start_fault t start (leg_stop t rides 0)) _ e in
    (parts.0, λ i lt. first_below-none (walk_after_fault t rides) (length rides) i lt parts.1)

walks_fault-none : (t : TimetableValue) (start : Option Footpath) (rides : List RideValue) → start_fault t start (leg_stop t rides 0) ≡ None
    → ((i : ℕ) → i < length rides → walk_after_fault t rides i ≡ None) → walks_fault t start rides ≡ None
unfolding walks_fault
walks_fault-none t start rides first each =
    option_or-none (start_fault t start (leg_stop t rides 0)) _ first ∙ first_below-all (walk_after_fault t rides) (length rides) each

first_departure-leg : (t : TimetableValue) (rides : List RideValue) → 0 < length rides → first_departure t rides ≡ leg_time t rides 0
first_departure-leg t [] some = absurd (omega (arith, some))
first_departure-leg t (r ∷ rest) some = refl

pub arrival-over : (t : TimetableValue) (rides : List RideValue) → 0 < length rides → final_time t 0 rides ≡ over_at t rides
arrival-over t rides some = final_time-last t rides 0 (length rides - 1) (omega arith)

module _ (t : TimetableValue) (q : Query) (start : Option Footpath) (rides : List RideValue) (x : AreFaultless t q start rides) where
  faultless_rides : AreRides t rides
  faultless_rides i lt =
      let each = (walks_parts t start rides x.walks).1 i lt in
      record {
        leg = AreLegs-from t rides x.legs i lt;
        walk = walk_of_ride t rides i each;
        changes = λ next. let change = change_of_ride t rides i each next in record
            { some = change.0; joins = change.1; in_time = in_time t rides x.times i next };
      }

  start_facts : IsStart t q.source start × (leg_stop t rides 0 ≡ start_end q.source start)
  start_facts = IsStart-from t start (leg_stop t rides 0) q.source (walks_parts t start rides x.walks).0 (ends_of t q start rides x.ends).0

  ends_at : EndsAt t q.target rides
  ends_at k e =
      let last : length rides - 1 ≡ k = omega (arith, e) in
      subst (λ (i : ℕ). stop_after t (ride_at rides i) ≡ q.target) last (ends_of t q start rides x.ends).1

leads_of : (t : TimetableValue) (target stop : ℕ) (rides : List RideValue) → 0 < length rides → AreRides t rides → leg_stop t rides 0 ≡ stop
    → EndsAt t target rides → Leads t target stop 0 rides
leads_of t target stop [] some each at ends = absurd (omega (arith, some))
leads_of t target stop (r ∷ rest) some each at ends = Leads-from t target r rest stop 0 each at (omega arith) ends

no_rides : (rides : List RideValue) → 0 < length rides → rides ≢ []
no_rides [] some e = omega (arith, some)
no_rides (r ∷ rest) some e = absurd cc

-- what has no fault counts
pub Counts-from : (t : TimetableValue) (q : Query) (j : JourneyValue) (departure : ℕ) → AreFaultless t q j.start j.rides
    → departure + start_secs j.start ≡ leg_time t j.rides 0 → Counts t q departure j
Counts-from t q j departure x departs =
    let some = some_legs t j.rides x.legs in
    let window = IsInWindow-from t q j.start j.rides x.window in
    let over = arrival-over t j.rides some in
    let start = start_facts t q j.start j.rides x in
    record {
      journey = record {
        starts = start.0;
        has_rides = no_rides j.rides some;
        leads = leads_of t q.target (start_end q.source j.start) j.rides some (faultless_rides t q j.start j.rides x) start.1 (ends_at t q j.start j.rides x);
      };
      departs = departs ∙ sym (first_departure-leg t j.rides some);
      not_early = omega (arith, window.from, departs);
      not_late = omega (arith, window.until, departs);
      arrives = omega (arith, window.by, over);
    }

-- what the times inside the window, or the window's fault, say of a journey whose path has no fault
pub IsJudged-from : (t : TimetableValue) (q : Query) (j : JourneyValue) (r : Result Times JourneyFault) → path_fault t q j.start j.rides ≡ None
    → IsTimed t q j.start j.rides r → IsJudged t q j r
unfolding first_fault
IsJudged-from t q j (Ok times) path timed =
    let x = AreFaultless-parts t q j.start j.rides path timed.0 in
    (Counts-from t q j times.dep x timed.1, timed.2 ∙ sym (arrival-over t j.rides (some_legs t j.rides x.legs)))
IsJudged-from t q j (Err fault) path timed = option_or-none (path_fault t q j.start j.rides) _ path ∙ timed

leads_at : (t : TimetableValue) (goal stop time : ℕ) (rides : List RideValue) → 0 < length rides → Leads t goal stop time rides → leg_stop t rides 0 ≡ stop
leads_at t goal stop time [] some leads = absurd (omega (arith, some))
leads_at t goal stop time (r ∷ rest) some leads = leads.1

rides_some : (rides : List RideValue) → rides ≢ [] → 0 < length rides
rides_some [] some = absurd (some refl)
rides_some (r ∷ rest) some = omega arith

-- what counts has no fault
pub faultless : (t : TimetableValue) (q : Query) (j : JourneyValue) (departure : ℕ) → Counts t q departure j → first_fault t q j ≡ None
faultless t q j departure x =
    let rides = j.rides in
    let leads = x.journey.leads in
    let some = rides_some rides x.journey.has_rides in
    let each = AreRides-from t q.target rides (start_end q.source j.start) 0 leads in
    let at = leads_at t q.target (start_end q.source j.start) 0 rides some leads in
    let departs : departure + start_secs j.start ≡ leg_time t rides 0 = x.departs ∙ first_departure-leg t rides some in
    let over = arrival-over t rides some in
    let last : suc (length rides - 1) ≡ length rides = omega arith in
    first_fault-none t q j (record {
      legs = legs_fault-none t rides some (λ i lt. (each i lt).leg);
      walks = walks_fault-none t j.start rides (start_fault-none t j.start (leg_stop t rides 0) q.source x.journey.starts at)
          (λ i lt. walk_after-none t rides i (each i lt));
      times = times_fault-none t rides (λ i lt. ((each i (omega (arith, lt))).changes lt).in_time);
      ends = ends_fault-none t q j.start rides (begin_of-start t j.start (leg_stop t rides 0) q.source x.journey.starts at)
          (EndsAt-from t q.target rides (start_end q.source j.start) 0 leads (length rides - 1) last);
      window = window_fault-none t q j.start rides
          (record { from = omega (arith, x.not_early, departs); until = omega (arith, x.not_late, departs); by = omega (arith, x.arrives, over) });
    })

-- a journey has no fault just where it counts
pub faultless_counts : (t : TimetableValue) (q : Query) (j : JourneyValue) → (first_fault t q j ≡ None) ↔ ((departure : ℕ) × Counts t q departure j)
faultless_counts t q j = (
  λ e.
      let x = AreFaultless-from t q j e in
      let window = IsInWindow-from t q j.start j.rides x.window in
      (leg_time t j.rides 0 - start_secs j.start, Counts-from t q j (leg_time t j.rides 0 - start_secs j.start) x (omega (arith, window.from))),
  λ counts. faultless t q j counts.0 counts.1,
)

-- and so it is judged in one way
pub judged_once : (t : TimetableValue) (q : Query) (j : JourneyValue) (r : Result Times JourneyFault) → IsJudged t q j r → (departure : ℕ)
    → Counts t q departure j → r ≡ Ok (record { dep = departure; arr = arrival t j })
judged_once t q j (Ok times) judged departure counts =
    let dep : times.dep ≡ departure = omega (arith, judged.0.departs, counts.departs) in
    λ i. Ok (record { dep = dep i; arr = judged.1 i })
judged_once t q j (Err fault) judged departure counts = absurd (let none : None ≡ Some fault = sym (faultless t q j departure counts) ∙ judged in cc)
