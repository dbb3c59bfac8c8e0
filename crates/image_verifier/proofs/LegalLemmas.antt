-- The timetable that accepted words show is legal.
use Rattle.std.proofs.Common.{◌≡◌, ℕ, zero, suc, ◌+◌, ◌-◌, ◌<◌, ◌≤◌, false, not, ◌&&◌, eqb, ltb, List, Option, Some, None, sym, ap, subst, ◌∙◌, arith, inl, inr}
use Rattle.std.proofs.lemmas.Bool.{cases_order, or_parts, leb-false, ltb-false, lt-ltb, eqb-true, eq-eqb, ne_eqb, not-false}
use Rattle.timetable.specs.declared.network.Connection.{Connection}
use Rattle.timetable.specs.declared.network.Footpath.{Footpath}
use Rattle.timetable.specs.Legal.{At, HasFootpath, IsJustBefore, IsOrderedBefore, IsLegal}
use Rattle.image_layout.specs.Offsets.{header_of, IsWhole}
use Rattle.image_layout.specs.Fields.{from_of, to_of, dep_of, arr_of, trip_of, foot_index_of, foot_from_of, foot_secs_of}
use Rattle.image_layout.specs.Shown.{connection_of, connections_of, footpath_of, footpaths_of, timetable_of}
use Rattle.image_layout.proofs.Feet.{IsFootIndex, index_rises}
use Rattle.image_layout.proofs.Whole.{connection_is}
use Rattle.image_layout.proofs.Found.{connection_shown, footpath_is, footpath_shown}
use Rattle.image_verifier.specs.declared.fault.ImageFault.TheVariants.{Unsorted, TripBroken}
use Rattle.image_verifier.specs.ConnectionFaults.{is_break, last_of_trip}
use Rattle.image_verifier.specs.FootFaults.{is_fall, is_from}
use Rattle.image_verifier.specs.ClosureFaults.{secs_between, open_fault, way_fault, into_fault}
use Rattle.timetable.proofs.FirstLemmas.{no_fault, first_below-none, any_between-none, any_between-some, last_below-is}
use Rattle.image_verifier.proofs.ConnectionLemmas.{IsSound, IsSound-from}
use Rattle.image_verifier.proofs.FootLemmas.{AreFootTests-from, HasFootRange-from}
use Rattle.image_verifier.proofs.ClosureLemmas.{secs_between-at, secs_between-some, open_fault-none}
use Rattle.image_verifier.proofs.AcceptedLemmas.{AreFaultless, IsFootIndex-from, own-none}

pub sound_at : (w : List ℕ) → AreFaultless w → (i : ℕ) → i < (header_of w).connections → IsSound w i
sound_at w good i lt = IsSound-from w i (own-none w i (good.connections i lt)).0

-- a connection stands well beside those before it
pub record IsPlaced (w : List ℕ) (i : ℕ) : Type 0 where
  pub sorted : dep_of w (i - 1) ≤ dep_of w i
  pub unbroken : is_break w i (last_of_trip w (trip_of w i) i) ≡ false

never_falls : (w : List ℕ) (i : ℕ) → (ltb 0 i && ltb (dep_of w i) (dep_of w (i - 1))) ≡ false → dep_of w (i - 1) ≤ dep_of w i
never_falls w zero e = omega arith
never_falls w (suc i) e =
    let rest = rw (lt-ltb 0 (suc i) (omega arith)) at e in
    ltb-false _ _ rest

pub placed_at : (w : List ℕ) → AreFaultless w → (i : ℕ) → i < (header_of w).connections → IsPlaced w i
placed_at w good i lt =
    let e = (own-none w i (good.connections i lt)).1 in
    let a = no_fault (ltb 0 i && ltb (dep_of w i) (dep_of w (i - 1))) (Unsorted i) _ e in
    let b = no_fault (is_break w i (last_of_trip w (trip_of w i) i)) (TripBroken i) None a.1 in
    record { sorted = never_falls w i a.0; unbroken = b.0 }

departures : (w : List ℕ) → AreFaultless w → (i : ℕ) (c d : Connection) → At (connections_of w) i c → At (connections_of w) (i + 1) d → c.dep ≤ d.dep
departures w good i c d ec ed =
    let sc = connection_shown w i c ec in
    let sd = connection_shown w (i + 1) d ed in
    let back : (i + 1) - 1 ≡ i = omega arith in
    let p = (placed_at w good (i + 1) sd.0).sorted in
    omega (arith, p, ap (λ (x : ℕ). dep_of w x) back, ap (λ (x : Connection). x.dep) sc.1, ap (λ (x : Connection). x.dep) sd.1)

trips_go_on : (w : List ℕ) → AreFaultless w → (i j : ℕ) (c d : Connection) → IsJustBefore (connections_of w) i j c d → (c.to ≡ d.from) × (c.arr ≤ d.dep)
trips_go_on w good i j c d before =
    let sc = connection_shown w i c before.first in
    let sd = connection_shown w j d before.second in
    let ct = ap (λ (x : Connection). x.trip) sc.1 in
    let dt = ap (λ (x : Connection). x.trip) sd.1 in
    let same : trip_of w i ≡ trip_of w j = sym ct ∙ before.same_trip ∙ dt in
    let last : last_of_trip w (trip_of w j) j ≡ Some i =
    last_below-is (λ k. eqb (trip_of w k) (trip_of w j)) i j before.before (eq-eqb _ _ same)
    (λ k low high. ne_eqb _ _ (λ e. before.none_between k (connection_of w k) (connection_is w k (omega (arith, sd.0))) low high (e ∙ sym dt))) in
    let whole : is_break w j (Some i) ≡ false = ap (λ (x : Option ℕ). is_break w j x) (sym last) ∙ (placed_at w good j sd.0).unbroken in
    let parts = or_parts (not (eqb (to_of w i) (from_of w j))) (ltb (dep_of w j) (arr_of w i)) whole in
    let joins : to_of w i ≡ from_of w j = eqb-true _ _ (not-false _ parts.0) in
    let waits : arr_of w i ≤ dep_of w j = ltb-false _ _ parts.1 in (
      ap (λ (x : Connection). x.to) sc.1 ∙ joins ∙ sym (ap (λ (x : Connection). x.from) sd.1),
      omega (arith, waits, ap (λ (x : Connection). x.arr) sc.1, ap (λ (x : Connection). x.dep) sd.1),
    )

-- an index of stops is passed before those of the stops after it
pub passed : (w : List ℕ) → IsFootIndex w → (s t : ℕ) → s < t → t ≤ (header_of w).stops → foot_index_of w (s + 1) ≤ foot_index_of w t
passed w feet s t lt le =
    let q : (s + 1) + (t - (s + 1)) ≡ t = omega arith in
    let at : foot_index_of w ((s + 1) + (t - (s + 1))) ≡ foot_index_of w t = ap (λ (x : ℕ). foot_index_of w x) q in
    let h = index_rises w (t - (s + 1)) (s + 1) (λ u below. feet.rises u (omega arith)) in
    omega (arith, at, h)

listed_after : (w : List ℕ) → IsWhole w → AreFaultless w → (k : ℕ) (d e : Footpath) → At (footpaths_of w) k d
    → At (footpaths_of w) (k + 1) e → IsOrderedBefore d e
listed_after w whole good k d e ed ee =
    let feet = IsFootIndex-from w good in
    let sd = footpath_shown w k d whole feet ed in
    let se = footpath_shown w (k + 1) e whole feet ee in
    let s = sd.0 in
    let t = se.0 in
    let there : IsOrderedBefore (footpath_of w s k) (footpath_of w t (k + 1)) =
    elim (cases_order s t) [
      | inl same ↦
          let end : k + 1 < foot_index_of w (s + 1) = subst (λ (x : ℕ). k + 1 < foot_index_of w (x + 1)) (sym same) se.1.end in
          let tests = AreFootTests-from w s (good.feet s sd.1.stop) in
          let up : is_fall w (k + 1) ≡ false = any_between-none (is_fall w) (foot_index_of w s + 1)
          (foot_index_of w (s + 1)) (k + 1) (omega (arith, sd.1.start)) end tests.rising in
          let back : (k + 1) - 1 ≡ k = omega arith in
          let more = leb-false _ _ up in
          (omega (arith, same), λ _. omega (arith, more, ap (λ (x : ℕ). foot_from_of w x) back))
      | inr (inl below) ↦ (omega (arith, below), λ (same : s ≡ t). absurd (omega (arith, below, same)))
      | inr (inr above) ↦ absurd (omega (arith, passed w feet t s above (omega (arith, sd.1.stop)), sd.1.start, se.1.end))
    ] in
    subst (λ (x : Footpath). IsOrderedBefore x e) (sym sd.2) (subst (λ (x : Footpath). IsOrderedBefore (footpath_of w s k) x) (sym se.2) there)

has_loop : (w : List ℕ) → IsWhole w → AreFaultless w → (s : ℕ) → s < (header_of w).stops → (secs : ℕ) × HasFootpath (footpaths_of w) s s secs
has_loop w whole good s lt =
    let feet = IsFootIndex-from w good in
    let tests = AreFootTests-from w s (good.feet s lt) in
    let k = any_between-some (is_from w s) (foot_index_of w s) (foot_index_of w (s + 1)) tests.loop in
    let from : foot_from_of w k.0 ≡ s = eqb-true _ _ k.3 in
    let e : footpath_of w s k.0 ≡ record { from = s; to = s; secs = foot_secs_of w k.0 } =
    ap (λ (x : ℕ). record { from = x; to = s; secs = foot_secs_of w k.0 }) from in
    (foot_secs_of w k.0, (k.0, footpath_is w s k.0 whole feet lt k.1 k.2 ∙ ap Some e))

-- the footpath of a pair of stops tells the seconds between them
secs_of : (w : List ℕ) → IsWhole w → AreFaultless w → (a c secs : ℕ) → HasFootpath (footpaths_of w) a c secs
    → (c < (header_of w).stops) × (secs_between w a c ≡ Some secs)
secs_of w whole good a c secs has =
    let s = footpath_shown w has.0 (record { from = a; to = c; secs = secs }) whole (IsFootIndex-from w good) has.1 in
    let to : s.0 ≡ c = sym (ap (λ (x : Footpath). x.to) s.2) in
    let from : foot_from_of w has.0 ≡ a = sym (ap (λ (x : Footpath). x.from) s.2) in
    let at = secs_between-at w a s.0 has.0 (HasFootRange-from w s.0 (good.feet s.0 s.1.stop)) s.1.start s.1.end from in
    (omega (arith, to, s.1.stop), ap (λ (x : ℕ). secs_between w a x) (sym to) ∙ at ∙ ap Some (sym (ap (λ (x : Footpath). x.secs) s.2)))

is_closed : (w : List ℕ) → IsWhole w → AreFaultless w → (a b c d1 d2 : ℕ) → HasFootpath (footpaths_of w) a b d1
    → HasFootpath (footpaths_of w) b c d2 → (d : ℕ) × HasFootpath (footpaths_of w) a c d × (d ≤ d1 + d2)
unfolding into_fault way_fault
is_closed w whole good a b c d1 d2 first second =
    let stops = (header_of w).stops in
    let one = secs_of w whole good a b d1 first in
    let two = secs_of w whole good b c d2 second in
    let start = secs_between-some w a b d1 one.1 in
    let range = HasFootRange-from w b (good.feet b one.0) in
    let a_lt : a < stops = omega (arith, range.from start.0 start.1.low start.1.high, start.1.from) in
    let by_middle = first_below-none (λ m. way_fault w m c) stops b one.0 (good.closure c two.0) in
    let none = first_below-none (λ x. open_fault w x b c) stops a a_lt by_middle in
    let direct = open_fault-none w a b c d1 d2 one.1 two.1 none in
    let k = secs_between-some w a c direct.0 direct.1 in
    let e : footpath_of w c k.0 ≡ record { from = a; to = c; secs = direct.0 } =
    ap (λ (x : ℕ). record { from = x; to = c; secs = foot_secs_of w k.0 }) k.1.from ∙ ap (λ (x : ℕ). record { from = a; to = c; secs = x }) k.1.secs in
    (direct.0, (k.0, footpath_is w c k.0 whole (IsFootIndex-from w good) two.0 k.1.low k.1.high ∙ ap Some e), direct.2)

pub IsLegal-from : (w : List ℕ) → IsWhole w → AreFaultless w → IsLegal (timetable_of w)
IsLegal-from w whole good =
    let feet = IsFootIndex-from w good in
    record {
      stops_in_range = λ i c e. (let s = connection_shown w i c e in
          subst (λ (x : Connection). (x.from < (header_of w).stops)
          × (x.to < (header_of w).stops)) (sym s.1) (
            (sound_at w good i s.0).from,
            (sound_at w good i s.0).to,
          ));
      trips_in_range = λ i c e. (let s = connection_shown w i c e in
          subst (λ (x : Connection). x.trip < (header_of w).trips) (sym s.1)
          (sound_at w good i s.0).trip);
      ends_in_range = λ k f e. (let s = footpath_shown w k f whole feet e in
          subst (λ (x : Footpath). (x.from < (header_of w).stops)
          × (x.to < (header_of w).stops)) (sym s.2) (
            (HasFootRange-from w s.0 (good.feet s.0 s.1.stop)).from k s.1.start s.1.end,
            s.1.stop,
          ));
      takes_time = λ i c e. (let s = connection_shown w i c e in subst (λ (x : Connection). x.dep < x.arr) (sym s.1) (sound_at w good i s.0).duration);
      departures_never_fall = departures w good;
      unbroken = trips_go_on w good;
      in_order = listed_after w whole good;
      loops = has_loop w whole good;
      closed = is_closed w whole good;
    }
