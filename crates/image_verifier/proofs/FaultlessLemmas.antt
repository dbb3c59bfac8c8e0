-- Words of a legal timetable and names within the limits have no fault.
use Rattle.std.proofs.Common.{◌≡◌, ℕ, zero, suc, ◌+◌, ◌-◌, ◌<◌, ◌≤◌, true, false, not, ◌&&◌, eqb, ltb, List, Option}
use Rattle.std.proofs.Common.{Some, None, refl, sym, ap, subst, ◌∙◌, arith, inl, inr}
use Rattle.std.specs.Prelude.{slice_get}
use Rattle.std.proofs.lemmas.Bool.{or_from, and_right, le-ltb, lt-leb, eq-eqb, eqb-true, both_ways}
use Rattle.reasoning.proofs.OptionLemmas.{option_cases}
use Rattle.timetable.specs.declared.network.Connection.{Connection}
use Rattle.timetable.specs.declared.network.Footpath.{Footpath}
use Rattle.timetable.specs.Legal.{At, HasFootpath, IsJustBefore}
use Rattle.image_layout.specs.Offsets.{header_of}
use Rattle.image_layout.specs.Fields.{dep_of, trip_of, foot_index_of, foot_from_of, foot_secs_of}
use Rattle.image_layout.specs.Shown.{connection_of, connections_of, footpath_of, footpaths_of, timetable_of, names_of}
use Rattle.image_layout.specs.Image.{HasImage}
use Rattle.image_layout.proofs.Feet.{index_rises}
use Rattle.image_layout.proofs.Whole.{IsWellFormed, connection_is}
use Rattle.image_layout.proofs.Found.{connection_shown, footpath_is, IsStopOf, footpath_shown}
use Rattle.image_verifier.specs.declared.fault.ImageFault.TheVariants.{StopRange, TripRange, TimeRange}
use Rattle.image_verifier.specs.declared.fault.ImageFault.TheVariants.{HopWithoutDuration, BadFlags, Unsorted}
use Rattle.image_verifier.specs.declared.fault.ImageFault.TheVariants.{TripBroken, FootRange, FootUnsorted, NoLoop}
use Rattle.timetable.specs.First.{any_between}
use Rattle.image_verifier.specs.ConnectionFaults.{own_fault, order_fault_of, is_break, connection_fault, last_of_trip}
use Rattle.image_verifier.specs.FootFaults.{is_bad_footpath, is_bad_index, is_fall, is_from, foot_fault, HasFootRange}
use Rattle.image_verifier.specs.ClosureFaults.{secs_between, open_fault, way_fault, into_fault}
use Rattle.timetable.proofs.FirstLemmas.{or_else-none, passes, first_below-all, any_between-all, any_between-found, last_below-some}
use Rattle.image_verifier.proofs.ConnectionLemmas.{IsSound}
use Rattle.image_verifier.proofs.FootLemmas.{HasFootRange-from}
use Rattle.image_verifier.proofs.ClosureLemmas.{secs_between-at, secs_between-some, open_fault-closed, open_fault-no_first, open_fault-no_second}

-- the shown connection of an index
shown_at : (w : List ℕ) (i : ℕ) → i < (header_of w).connections → At (connections_of w) i (connection_of w i)
shown_at w i lt = connection_is w i lt

own-faultless : (w : List ℕ) (i : ℕ) → IsSound w i → own_fault w i ≡ None
own-faultless w i s =
    passes _ (StopRange i) _ (or_from _ _ (lt-leb _ _ s.from) (lt-leb _ _ s.to))
    (passes _ (TripRange i) _ (lt-leb _ _ s.trip)
    (passes _ (TimeRange i) _ (or_from _ _ (lt-leb _ _ s.dep) (lt-leb _ _ s.arr))
    (passes _ (HopWithoutDuration i) _ (lt-leb _ _ s.duration)
    (passes _ (BadFlags i) None (le-ltb _ _ s.flags) refl))))

sound_from_legal : (w : List ℕ) → IsWellFormed w → HasImage (timetable_of w) (names_of w) → (i : ℕ) → i < (header_of w).connections → IsSound w i
sound_from_legal w form can i lt =
    let at = shown_at w i lt in
    let stops = can.legal.stops_in_range i (connection_of w i) at in
    let time = can.legal.takes_time i (connection_of w i) at in
    let late = can.limits.times i (connection_of w i) at in
    record {
      from = stops.0;
      to = stops.1;
      trip = can.legal.trips_in_range i (connection_of w i) at;
      dep =
          omega arith;
      arr = late;
      duration = time;
      flags = form.flags i lt;
    }

unbroken_from_legal : (w : List ℕ) → HasImage (timetable_of w) (names_of w) → (i : ℕ) → i < (header_of w).connections
    → (o : Option ℕ) → last_of_trip w (trip_of w i) i ≡ o → is_break w i o ≡ false
unbroken_from_legal w can i lt None e = refl
unbroken_from_legal w can i lt (Some j) e =
    let l = last_below-some (λ k. eqb (trip_of w k) (trip_of w i)) i j e in
    let before : IsJustBefore (connections_of w) j i (connection_of w j) (connection_of w i) =
    record {
      first = shown_at w j (omega (arith, l.below));
      second = shown_at w i lt;
      before = l.below;
      same_trip = eqb-true _ _ l.stands;
      none_between = λ k d at low high same.
          (let s = connection_shown w k d at in both_ways _ (l.last k low high) (eq-eqb _ _ (sym (ap (λ (x : Connection). x.trip) s.1) ∙ same)));
    } in
    let goes = can.legal.unbroken j i (connection_of w j) (connection_of w i) before in
    or_from _ _ (ap not (eq-eqb _ _ goes.0)) (le-ltb _ _ goes.1)

sorted_from_legal : (w : List ℕ) → HasImage (timetable_of w) (names_of w) → (i : ℕ) → i < (header_of w).connections
    → (ltb 0 i && ltb (dep_of w i) (dep_of w (i - 1))) ≡ false
sorted_from_legal w can zero lt = refl
sorted_from_legal w can (suc i) lt =
    let k : i + 1 ≡ suc i = omega arith in
    let back : suc i - 1 ≡ i = omega arith in
    let up = can.legal.departures_never_fall i (connection_of w i) (connection_of w (suc i))
    (shown_at w i (omega arith)) (ap (λ (x : ℕ). slice_get (connections_of w) x) k ∙ shown_at w (suc i) lt) in
    and_right _ _ (le-ltb (dep_of w (suc i)) (dep_of w (suc i - 1)) (omega (arith, up, ap (λ (x : ℕ). dep_of w x) back)))

pub connection_faultless : (w : List ℕ) → IsWellFormed w → HasImage (timetable_of w) (names_of w) → (i : ℕ)
    → i < (header_of w).connections → connection_fault w i ≡ None
unfolding connection_fault
connection_faultless w form can i lt =
    or_else-none (own_fault w i) (order_fault_of w i (is_break w i (last_of_trip w (trip_of w i) i))) (own-faultless w i (sound_from_legal w form can i lt))
    ∙ passes _ (Unsorted i) _ (sorted_from_legal w can i lt)
    (passes _ (TripBroken i) None (unbroken_from_legal w can i lt (last_of_trip w (trip_of w i) i) refl) refl)

-- the shown footpath of an index, into the stop whose index it is
walk_at : (w : List ℕ) → IsWellFormed w → (s k : ℕ) → s < (header_of w).stops → foot_index_of w s ≤ k
    → k < foot_index_of w (s + 1) → At (footpaths_of w) k (footpath_of w s k)
walk_at w form s k lt low high = footpath_is w s k form.whole form.feet lt low high

index_far : (w : List ℕ) → IsWellFormed w → (s t : ℕ) → s ≤ t → t ≤ (header_of w).stops → foot_index_of w s ≤ foot_index_of w t
index_far w form s t le within =
    let q : s + (t - s) ≡ t = omega arith in
    let at : foot_index_of w (s + (t - s)) ≡ foot_index_of w t = ap (λ (x : ℕ). foot_index_of w x) q in
    let h = index_rises w (t - s) s (λ u below. form.feet.rises u (omega arith)) in
    omega (arith, at, h)

-- a listed footpath from a to c has an index among those into c
index_of : (w : List ℕ) → IsWellFormed w → (a c secs : ℕ) → (has : HasFootpath (footpaths_of w) a c secs)
    → IsStopOf w has.0 c × (foot_from_of w has.0 ≡ a) × (foot_secs_of w has.0 ≡ secs)
index_of w form a c secs has =
    let s = footpath_shown w has.0 (record { from = a; to = c; secs = secs }) form.whole form.feet has.1 in
    let to : s.0 ≡ c = sym (ap (λ (x : Footpath). x.to) s.2) in
    (subst (λ (x : ℕ). IsStopOf w has.0 x) to s.1, sym (ap (λ (x : Footpath). x.from) s.2), sym (ap (λ (x : Footpath). x.secs) s.2))

pub foot_faultless : (w : List ℕ) → IsWellFormed w → HasImage (timetable_of w) (names_of w) → (s : ℕ) → s < (header_of w).stops → foot_fault w s ≡ None
unfolding foot_fault
foot_faultless w form can s lt =
    let start = foot_index_of w s in
    let end = foot_index_of w (s + 1) in
    let within : end ≤ (header_of w).footpaths = omega (arith, index_far w form (s + 1) (header_of w).stops (omega arith) (omega arith), form.feet.end) in
    let zero_first : (eqb s 0 && not (eqb (foot_index_of w 0) 0)) ≡ false = and_right _ _ (ap not (eq-eqb _ _ form.feet.start)) in
    let index : is_bad_index w s ≡ false = or_from _ _ (or_from _ _ zero_first (le-ltb _ _ (form.feet.rises s lt))) (le-ltb _ _ within) in
    let each : any_between (is_bad_footpath w) start end ≡ false =
    any_between-all (is_bad_footpath w) start end (λ k low high.
    let at = walk_at w form s k lt low high in
    or_from _ _ (lt-leb _ _ (can.legal.ends_in_range k (footpath_of w s k) at).0) (le-ltb _ _ (can.limits.walks k (footpath_of w s k) at))) in
    let rising : any_between (is_fall w) (start + 1) end ≡ false =
    any_between-all (is_fall w) (start + 1) end (λ k low high.
    let here : (k - 1) + 1 ≡ k = omega arith in
    let after = can.legal.in_order (k - 1) (footpath_of w s (k - 1)) (footpath_of w s k)
    (walk_at w form s (k - 1) lt (omega arith) (omega arith)) (ap (λ (x : ℕ). slice_get (footpaths_of w) x) here
    ∙ walk_at w form s k lt (omega arith) high) in
    lt-leb _ _ (after.1 refl)) in
    let loop = can.legal.loops s lt in
    let position = index_of w form s s loop.0 loop.1 in
    let found : any_between (is_from w s) start end ≡ true =
    any_between-found (is_from w s) start end loop.1.0 position.0.start position.0.end (eq-eqb _ _ position.1) in
    passes _ (FootRange s) _ (or_from _ _ index each)
    (passes _ (FootUnsorted s) _ rising
    (passes _ (NoLoop s) None (ap not found) refl))

-- no going by way of a stop is shorter than the direct footpath
open_faultless : (w : List ℕ) → IsWellFormed w → HasImage (timetable_of w) (names_of w)
    → ((s : ℕ) → s < (header_of w).stops → HasFootRange w s) → (a b c : ℕ) → b < (header_of w).stops
    → c < (header_of w).stops → open_fault w a b c ≡ None
open_faultless w form can ranges a b c b_lt c_lt =
    elim (option_cases (secs_between w a b)) [
      | inl none ↦ open_fault-no_first w a b c none
      | inr first ↦ elim (option_cases (secs_between w b c)) [
        | inl none ↦ open_fault-no_second w a b c none
        | inr second ↦
            let direct = can.legal.closed a b c first.0 second.0 (has_footpath a b first.0 b_lt first.1) (has_footpath b c second.0 c_lt second.1) in
            let position = index_of w form a c direct.0 direct.1 in
            let there : secs_between w a c ≡ Some (foot_secs_of w direct.1.0) =
            secs_between-at w a c direct.1.0 (ranges c c_lt) position.0.start position.0.end position.1 in
            open_fault-closed w a b c first.0 second.0 (foot_secs_of w direct.1.0) first.1 second.1 there (omega (arith, position.2, direct.2))
      ]
    ]
  where
    has_footpath : (x y secs : ℕ) → y < (header_of w).stops → secs_between w x y ≡ Some secs → HasFootpath (footpaths_of w) x y secs
    has_footpath x y secs lt e =
        let k = secs_between-some w x y secs e in
        let is : footpath_of w y k.0 ≡ record { from = x; to = y; secs = secs } =
        ap (λ (z : ℕ). record { from = z; to = y; secs = foot_secs_of w k.0 }) k.1.from ∙ ap (λ (z : ℕ). record { from = x; to = y; secs = z }) k.1.secs in
        (k.0, walk_at w form y k.0 lt k.1.low k.1.high ∙ ap Some is)

pub into_faultless : (w : List ℕ) → IsWellFormed w → HasImage (timetable_of w) (names_of w) → (c : ℕ) → c < (header_of w).stops → into_fault w c ≡ None
unfolding into_fault way_fault
into_faultless w form can c c_lt =
    let stops = (header_of w).stops in
    let ranges = λ (s : ℕ) (lt : s < stops). HasFootRange-from w s (foot_faultless w form can s lt) in
    first_below-all (λ b. way_fault w b c) stops (λ b b_lt.
    first_below-all (λ a. open_fault w a b c) stops (λ a a_lt. open_faultless w form can ranges a b c b_lt c_lt))
