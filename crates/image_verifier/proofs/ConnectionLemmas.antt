-- The table of where and when each trip ended last, and what a connection without fault keeps.
use Rattle.std.proofs.Common.{◌≡◌, ◌≢◌, ℕ, ◌+◌, ◌<◌, ◌≤◌, ◌||◌, false, eqb, leb, ltb, List, length, get_or, Option}
use Rattle.std.proofs.Common.{Some, None, refl, sym, ap, ◌∙◌, arith, inl, inr}
use Rattle.std.proofs.Math.ListN.{set}
use Rattle.std.specs.Prelude.{replicate}
use Rattle.std.proofs.lemmas.Bool.{cases_eq, or_parts, leb-false, ltb-false, eq-eqb, ne_eqb}
use Rattle.std.proofs.lemmas.List.{get_or-set_same, get_or-set_other, length-set, length-replicate, get_or-replicate}
use Rattle.std.proofs.lemmas.Option.{same_Some}
use Rattle.timetable.specs.declared.limits.TheConstants.{TIME_END}
use Rattle.image_layout.specs.Offsets.{header_of}
use Rattle.image_layout.specs.Fields.{from_of, to_of, dep_of, arr_of, trip_of, flags_of}
use Rattle.image_verifier.specs.declared.connections.TripEnd.{TripEnd}
use Rattle.image_verifier.specs.declared.fault.ImageFault.TheVariants.{StopRange, TripRange, TimeRange, HopWithoutDuration, BadFlags}
use Rattle.timetable.specs.First.{last_below}
use Rattle.image_verifier.specs.ConnectionFaults.{own_fault, connection_fault, last_of_trip, is_break, end_of, breaks_at, AreTripEnds}
use Rattle.timetable.proofs.FirstLemmas.{or_else_parts, no_fault, last_below-hit, last_below-miss}

-- what a connection by itself without fault keeps
pub record IsSound (w : List ℕ) (i : ℕ) : Type 0 where
  pub from : from_of w i < (header_of w).stops
  pub to : to_of w i < (header_of w).stops
  pub trip : trip_of w i < (header_of w).trips
  pub dep : dep_of w i < TIME_END
  pub arr : arr_of w i < TIME_END
  pub duration : dep_of w i < arr_of w i
  pub flags : flags_of w i ≤ 3

pub IsSound-from : (w : List ℕ) (i : ℕ) → own_fault w i ≡ None → IsSound w i
IsSound-from w i e =
    let a = no_fault (leb (header_of w).stops (from_of w i) || leb (header_of w).stops (to_of w i)) (StopRange i) _ e in
    let b = no_fault (leb (header_of w).trips (trip_of w i)) (TripRange i) _ a.1 in
    let t = no_fault (leb TIME_END (dep_of w i) || leb TIME_END (arr_of w i)) (TimeRange i) _ b.1 in
    let h = no_fault (leb (arr_of w i) (dep_of w i)) (HopWithoutDuration i) _ t.1 in
    let f = no_fault (ltb 3 (flags_of w i)) (BadFlags i) _ h.1 in
    let stops = or_parts _ _ a.0 in
    let times = or_parts _ _ t.0 in
    record {
      from = leb-false _ _ stops.0;
      to = leb-false _ _ stops.1;
      trip = leb-false _ _ b.0;
      dep = leb-false _ _ times.0;
      arr = leb-false _ _ times.1;
      duration = leb-false _ _ h.0;
      flags = ltb-false _ _ f.0;
    }

pub own_fault-none : (w : List ℕ) (i : ℕ) → connection_fault w i ≡ None → own_fault w i ≡ None
unfolding connection_fault
own_fault-none w i e = (or_else_parts (own_fault w i) _ e).0

-- what an end says of a connection is what the connection that ended there says
pub break_by_end : (w : List ℕ) (i : ℕ) (last : Option ℕ) → ((j : ℕ) → last ≡ Some j → 0 < arr_of w j) → breaks_at w i (end_of w last) ≡ is_break w i last
break_by_end w i None arrives = refl
break_by_end w i (Some j) arrives =
    let late : eqb (arr_of w j) 0 ≡ false = ne_eqb _ _ (above (arr_of w j) (arrives j refl)) in
    rw late refl
  where
    above : (n : ℕ) → 0 < n → n ≢ 0
    above n lt e = omega (arith, lt, e)

-- before the first connection no trip has one
pub AreTripEnds-start : (w : List ℕ) (ends : List TripEnd) → ends ≡ replicate (header_of w).trips (end_of w None) → AreTripEnds w 0 ends
unfolding last_below
AreTripEnds-start w ends e = record {
  size = ap length e ∙ length-replicate (header_of w).trips (end_of w None);
  entry = λ t lt. ap (λ (xs : List TripEnd). get_or xs t (end_of w None)) e ∙ get_or-replicate (header_of w).trips t (end_of w None) (end_of w None) lt;
  arrives = λ t j none. absurd cc;
}

-- one connection on
pub AreTripEnds-more : (w : List ℕ) (i : ℕ) (ends : List TripEnd) → IsSound w i → AreTripEnds w i ends
    → AreTripEnds w (i + 1) (set ends (trip_of w i) (end_of w (Some i)))
AreTripEnds-more w i ends sound table =
    let new = set ends (trip_of w i) (end_of w (Some i)) in
    let size : length new ≡ (header_of w).trips = length-set ends (trip_of w i) (end_of w (Some i)) ∙ table.size in
    record {
      size = size;
      entry = λ t lt. elim (cases_eq (trip_of w i) t) [
        | inl same ↦
            let at : get_or new (trip_of w i) (end_of w None) ≡ end_of w (Some i) =
            get_or-set_same ends (trip_of w i) (end_of w (Some i)) (end_of w None) (omega (
              arith,
              sound.trip,
              table.size,
            )) in
            ap (λ (k : ℕ). get_or new k (end_of w None)) (sym same) ∙ at ∙ ap (end_of w) (sym (here t same))
        | inr other ↦
            let ne : t ≢ trip_of w i = λ e. other (sym e) in
            get_or-set_other ends (trip_of w i) t (end_of w (Some i)) (end_of w None) ne ∙ table.entry t lt ∙ ap (end_of w) (sym (elsewhere t other))
      ];
      arrives = λ t j last. elim (cases_eq (trip_of w i) t) [
        | inl same ↦ omega (arith, sound.duration, ap (arr_of w) (same_Some i j (sym (here t same) ∙ last)))
        | inr other ↦ table.arrives t j (sym (elsewhere t other) ∙ last)
      ];
    }
  where
    here : (t : ℕ) → trip_of w i ≡ t → last_of_trip w t (i + 1) ≡ Some i
    here t same = last_below-hit (λ j. eqb (trip_of w j) t) i (eq-eqb _ _ same)

    elsewhere : (t : ℕ) → trip_of w i ≢ t → last_of_trip w t (i + 1) ≡ last_of_trip w t i
    elsewhere t other = last_below-miss (λ j. eqb (trip_of w j) t) i (ne_eqb _ _ other)
