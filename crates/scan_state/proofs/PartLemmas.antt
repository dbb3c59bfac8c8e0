-- What the parts of a state keep, over several steps.
use Rattle.std.proofs.Common.{ℕ, ◌<◌, ◌≤◌, length, vec_len, inl, inr, refl, sym, ◌∙◌, subst, arith}
use Rattle.std.proofs.lemmas.Bool.{cases_lt}
use Rattle.sources.specs.FirstAt.{IsFirstAt}
use Rattle.reasoning.proofs.ListLemmas.{extends_on}
use Rattle.criteria.specs.Laws.{Rules}
use Rattle.timetable.specs.Limits.{IsWithinLimits}
use Rattle.timetable.specs.TimetableValue.{TimetableValue}
use Rattle.timetable.specs.declared.network.Connection.{Connection}
use Rattle.timetable.proofs.LegalLemmas.{arrival_limit}
use Rattle.criteria.specs.Laws.{IsTime}
use Rattle.scan_state.specs.Hops.{IsHop, IsHopOf}
use Rattle.scan_state.specs.Parts.{ChangesOrigin}
use Rattle.scan_state.specs.ScanState.{final_walk_in, AreStops}
use Rattle.fronts.specs.Labels.{AreStillLabels, HasTrip}
use Rattle.fronts.specs.declared.labels.Labels.{Labels}
use Rattle.scan_state.specs.SetQuery.{SetQueryValue}
use Rattle.scan_state.specs.declared.starts.Starts.{Starts}
use Rattle.scan_state.specs.declared.stops.Stops.{Stops}
use Rattle.scan_state.specs.declared.hop.Hop.{Hop}
use Rattle.scan_state.specs.declared.origin.Origin.{Origin}
use Rattle.scan_state.proofs.LeaveLemmas.{way_within}

module _ {V : Type 0} (rules : Rules V) where
  pub labels_still : {trip : ℕ} {labels : Labels V} → HasTrip rules labels trip → AreStillLabels rules labels labels
  labels_still has = record { sound = has.sound; long = refl }

  pub labels_on : {a b c : Labels V} → AreStillLabels rules a b → AreStillLabels rules b c → AreStillLabels rules a c
  labels_on ab bc = record { sound = bc.sound; long = bc.long ∙ ab.long }

  pub still_there : {trip : ℕ} {a b : Labels V} → HasTrip rules a trip → AreStillLabels rules a b → HasTrip rules b trip
  still_there {trip = trip} has ab = record { there = subst (λ (n : ℕ). trip < n) (sym ab.long) has.there; sound = ab.sound }

module _ {K V : Type 0} {c : _} (criterion : K) where
  pub origin_on : (x y z : Origin K V c) → ChangesOrigin criterion x y → ChangesOrigin criterion y z → ChangesOrigin criterion x z
  origin_on x y z xy yz = record { found = yz.found; set_outs = extends_on x.set_outs.items y.set_outs.items z.set_outs.items xy.set_outs yz.set_outs }

-- stops counted anew
pub stops_counted : {K V : Type 0} (rules_of : K → Rules V) (criterion : K) {count : ℕ} {stops : Stops K V} → AreStops rules_of criterion count stops
    → AreStops rules_of criterion (vec_len stops.heads) stops
stops_counted rules_of criterion {stops = stops} are = subst (λ (n : ℕ). AreStops rules_of criterion n stops) (sym are.long) are

-- a hop of a timetable within the limits is of times and seconds that laws speak of
pub hop_within : {V : Type 0} {starts : Starts} (rules : Rules V) (t : TimetableValue) → IsWithinLimits t → (q : SetQueryValue) (hop : Hop V)
    → IsHopOf rules t q starts hop → IsHop rules q hop
hop_within rules t limits q hop is = record {
  arrival = subst (λ (x : Connection). IsTime x.arr) (sym is.stands.is) (arrival_limit t limits hop.place is.stands.in_range);
  by = is.by;
  secs = way_within t limits q.targets hop.connection.to (final_walk_in hop.final_entry) is.final_walk;
  bound = is.bound;
}

-- the first place at a time doesn't come after that at a later one
pub firsts_rise : (t : TimetableValue) (a b i j : ℕ) → a ≤ b → IsFirstAt t a i → IsFirstAt t b j → i ≤ j
firsts_rise t a b i j le first last = elim (cases_lt j i) [
  | inl lt ↦
      let early = first.before j lt in
      let far = first.in_range in
      let here : j < length t.connections = omega (arith, lt, far) in
      let late = last.after j (omega arith) here in
      omega (arith, early, late, le)
  | inr ge ↦ ge
]
