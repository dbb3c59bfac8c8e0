-- Walks and times without fault.
use Rattle.std.proofs.Common.{◌≡◌, ◌≢◌, ℕ, suc, ◌+◌, ◌-◌, ◌<◌, ◌≤◌, Bool, true, false, not, ◌||◌, eqb, ltb, List, [], ◌∷◌, length, Option, Some, None}
use Rattle.std.proofs.Common.{refl, sym, ap, subst, ◌∙◌, arith, inl, inr}
use Rattle.std.specs.List.{list_all}
use Rattle.std.proofs.lemmas.Bool.{cases_Bool, or_parts, or_from, and_parts, ltb-false, ltb-true, lt-ltb, le-ltb, eq-eqb, eqb-true, eqb-false, ne_eqb}
use Rattle.std.proofs.lemmas.Bool.{not-false, cond-true, cond-false, and_from}
use Rattle.std.proofs.lemmas.List.{nil_from_length}
use Rattle.reasoning.proofs.FirstLemmas.{no_fault, first_between-none, first_between-all, passes}
use Rattle.timetable.specs.declared.network.Footpath.{Footpath}
use Rattle.timetable.specs.TimetableValue.{TimetableValue}
use Rattle.timetable.specs.JourneyValue.{RideValue}
use Rattle.timetable.specs.Journeys.{IsWalk, IsStart, start_end, stop_after, time_after}
use Rattle.journeys.specs.declared.fault.JourneyFault.TheVariants.{NoFootpath, WalkBroken, TooEarly}
use Rattle.journeys.specs.Faults.{ride_at, leg_stop, leg_time, leg_end, has_footpath, led_to, is_elsewhere, is_nowhere, is_broken, walk_fault}
use Rattle.journeys.specs.Faults.{walk_after_fault, start_fault, begin_of, early_fault, times_fault}
use Rattle.journeys.proofs.FootpathLemmas.{Contains-has_footpath, has_footpath-Contains}
use Rattle.journeys.proofs.WalkLemmas.{IsWalk-from, led_to-IsWalk, known-IsWalk}
use Rattle.journeys.proofs.RideLemmas.{IsRide}

pub walk_fault-parts : (t : TimetableValue) (i : ℕ) (walk : List Footpath) (broken : Bool) → walk_fault t i walk broken ≡ None
    → (list_all (has_footpath t) walk ≡ true) × (broken ≡ false)
walk_fault-parts t i walk broken e =
    let a = no_fault (not (list_all (has_footpath t) walk)) (NoFootpath i) _ e in
    let b = no_fault broken (WalkBroken i) None a.1 in
    (not-false _ a.0, b.0)

pub walk_fault-none : (t : TimetableValue) (i : ℕ) (walk : List Footpath) (broken : Bool) → list_all (has_footpath t) walk ≡ true → broken ≡ false
    → walk_fault t i walk broken ≡ None
walk_fault-none t i walk broken known joined = passes _ (NoFootpath i) _ (ap not known) (passes _ (WalkBroken i) None joined refl)

led_there : (o : Option ℕ) (goal : ℕ) → is_elsewhere o goal ≡ false → o ≡ Some goal
led_there None goal e = absurd cc
led_there (Some stop) goal e = ap Some (eqb-true stop goal (not-false _ e))

led_somewhere : (o : Option ℕ) → is_nowhere o ≡ false → (stop : ℕ) × (o ≡ Some stop)
led_somewhere None e = absurd cc
led_somewhere (Some stop) e = (stop, refl)

module _ (t : TimetableValue) (rides : List RideValue) (i : ℕ) where
  -- where a ride comes next
  broken_change : i + 1 < length rides
      → is_broken t rides i ≡ (eqb (length (ride_at rides i).walk) 0 || is_elsewhere (led_to (leg_end t rides i) (ride_at rides i).walk)
      (leg_stop t rides (i + 1)))
  unfolding is_broken
  broken_change lt = cond-true (ltb (i + 1) (length rides)) _ _ (lt-ltb (i + 1) (length rides) lt)

  -- where none does
  broken_last : length rides ≤ i + 1 → is_broken t rides i ≡ is_nowhere (led_to (leg_end t rides i) (ride_at rides i).walk)
  unfolding is_broken
  broken_last le = cond-false (ltb (i + 1) (length rides)) _ _ (le-ltb (i + 1) (length rides) le)

  next : i + 1 ≡ suc i
  next = omega arith

  led : is_broken t rides i ≡ false → (stop : ℕ) × (led_to (leg_end t rides i) (ride_at rides i).walk ≡ Some stop)
  led e =
      elim (cases_Bool (ltb (i + 1) (length rides))) [
        | inl more ↦ (
          leg_stop t rides (i + 1),
          led_there (led_to (leg_end t rides i) (ride_at rides i).walk) (leg_stop t rides (i + 1))
              (or_parts _ _ (sym (broken_change (ltb-true _ _ more)) ∙ e)).1,
        )
        | inr last ↦ led_somewhere (led_to (leg_end t rides i) (ride_at rides i).walk) (sym (broken_last (ltb-false _ _ last)) ∙ e)
      ]

  -- the walk after leg i, without fault
  pub walk_of_ride : walk_after_fault t rides i ≡ None → IsWalk t (leg_end t rides i) (ride_at rides i).walk
  unfolding walk_after_fault
  walk_of_ride e =
      let parts = walk_fault-parts t (i + 1) (ride_at rides i).walk (is_broken t rides i) e in
      let there = led parts.1 in
      (IsWalk-from t (ride_at rides i).walk (leg_end t rides i) there.0 parts.0 there.1).0

  pub change_of_ride : walk_after_fault t rides i ≡ None → suc i < length rides
      → ((ride_at rides i).walk ≢ []) × (stop_after t (ride_at rides i) ≡ leg_stop t rides (suc i))
  unfolding walk_after_fault
  change_of_ride e lt =
      let parts = walk_fault-parts t (i + 1) (ride_at rides i).walk (is_broken t rides i) e in
      let tests = or_parts _ _ (sym (broken_change (omega (arith, lt))) ∙ parts.1) in
      let there = led_there (led_to (leg_end t rides i) (ride_at rides i).walk) (leg_stop t rides (i + 1)) tests.1 in (
        λ empty. eqb-false _ _ tests.0 (ap length empty),
        (IsWalk-from t (ride_at rides i).walk (leg_end t rides i) (leg_stop t rides (i + 1)) parts.0 there).1
            ∙ ap (leg_stop t rides) next,
      )

  pub walk_after-none : IsRide t rides i → walk_after_fault t rides i ≡ None
  unfolding walk_after_fault
  walk_after-none ride =
      let goes = led_to-IsWalk t (ride_at rides i).walk (leg_end t rides i) ride.walk in
      let joined : is_broken t rides i ≡ false =
      elim (cases_Bool (ltb (i + 1) (length rides))) [
        | inl more ↦ (let change = ride.changes (omega (arith, ltb-true _ _ more)) in broken_change (ltb-true _ _ more)
            ∙ or_from _ _ (ne_eqb _ _ (λ e. change.some (nil_from_length _ e)))
            (ap (λ (o : Option ℕ). is_elsewhere o (leg_stop t rides (i + 1))) goes ∙ ap not (eq-eqb _ _ (change.joins ∙ ap (leg_stop t rides) (sym next)))))
        | inr last ↦ broken_last (ltb-false _ _ last) ∙ ap is_nowhere goes
      ] in
      walk_fault-none t (i + 1) (ride_at rides i).walk (is_broken t rides i) (known-IsWalk t (ride_at rides i).walk (leg_end t rides i) ride.walk) joined

-- legs that don't depart too early
pub in_time : (t : TimetableValue) (rides : List RideValue) → times_fault t rides ≡ None → (i : ℕ) → suc i < length rides
    → time_after t (ride_at rides i) ≤ leg_time t rides (suc i)
unfolding times_fault early_fault
in_time t rides e i lt =
    let before : suc i - 1 ≡ i = omega arith in
    let none = first_between-none (early_fault t rides) 1 (length rides) (suc i) (omega arith) lt e in
    let late = (no_fault (ltb (leg_time t rides (suc i)) (time_after t (ride_at rides (suc i - 1)))) (TooEarly (suc i)) None none).0 in
    subst (λ (k : ℕ). time_after t (ride_at rides k) ≤ leg_time t rides (suc i)) before (ltb-false _ _ late)

pub times_fault-none : (t : TimetableValue) (rides : List RideValue)
    → ((i : ℕ) → suc i < length rides → time_after t (ride_at rides i) ≤ leg_time t rides (suc i)) → times_fault t rides ≡ None
unfolding times_fault early_fault
times_fault-none t rides late =
    first_between-all (early_fault t rides) 1 (length rides) (λ i low lt. passes _ (TooEarly i) None (le-ltb _ _ (late_at i low lt)) refl)
  where
    late_at : (i : ℕ) → 1 ≤ i → i < length rides → time_after t (ride_at rides (i - 1)) ≤ leg_time t rides i
    late_at i low lt =
        let k : suc (i - 1) ≡ i = omega arith in
        subst (λ (m : ℕ). time_after t (ride_at rides (i - 1)) ≤ leg_time t rides m) k (late (i - 1) (omega arith))

-- a start
pub IsStart-from : (t : TimetableValue) (start : Option Footpath) (stop source : ℕ) → start_fault t start stop ≡ None → begin_of start stop ≡ source
    → IsStart t source start × (stop ≡ start_end source start)
IsStart-from t None stop source e begins = (tt, begins)
IsStart-from t (Some f) stop source e begins =
    let parts = walk_fault-parts t 0 (f ∷ []) (eqb f.from f.to || not (eqb f.to stop)) e in
    let tests = or_parts _ _ parts.1 in
    let leaves : f.to ≢ source = λ loop. eqb-false _ _ tests.0 (begins ∙ sym loop) in
    ((Contains-has_footpath t f (and_parts _ _ parts.0).0, begins, leaves), sym (eqb-true _ _ (not-false _ tests.1)))

pub start_fault-none : (t : TimetableValue) (start : Option Footpath) (stop source : ℕ) → IsStart t source start → stop ≡ start_end source start
    → start_fault t start stop ≡ None
start_fault-none t None stop source is at = refl
start_fault-none t (Some f) stop source is at =
    walk_fault-none t 0 (f ∷ []) (eqb f.from f.to || not (eqb f.to stop)) (and_from _ _ (has_footpath-Contains t f is.0) refl)
    (or_from _ _ (ne_eqb _ _ (λ loop. is.2 (sym loop ∙ is.1))) (ap not (eq-eqb _ _ (sym at))))

pub begin_of-start : (t : TimetableValue) (start : Option Footpath) (stop source : ℕ) → IsStart t source start → stop ≡ start_end source start
    → begin_of start stop ≡ source
begin_of-start t None stop source is at = at
begin_of-start t (Some f) stop source is at = is.1
