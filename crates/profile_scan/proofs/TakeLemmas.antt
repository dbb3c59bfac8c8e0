-- What a connection makes of what is kept is its step.
use Rattle.std.proofs.Common.{◌≡◌, ◌+◌, ℕ, List, true, arith, refl, sym, ◌∙◌, ap, subst}
use Rattle.criteria.specs.Laws.{Rules, Laws}
use Rattle.bags.specs.declared.point.Point.{Point}
use Rattle.timetable.specs.declared.network.Connection.{Connection}
use Rattle.timetable.specs.TimetableValue.{TimetableValue}
use Rattle.scan_state.specs.ScanState.{final_walk_in}
use Rattle.scan_state.specs.SetQuery.{SetQueryValue, asked_from}
use Rattle.scan_state.specs.Matching.{Spellings, from_to}
use Rattle.scan_state.specs.Steps.{IsOutdoneRidden, IsStep, Leaving, MayLeave, MayNotChange, TakesIn, TakesInBut, boardings, changes, ends, ends_after}
use Rattle.scan_state.specs.Steps.{leavings, settings_out}
use Rattle.scan_state.specs.Bound.{AreBounds, Excludes}
use Rattle.scan_state.specs.ScanRecords.{KeptValue, SourceValue, scan_records, spelled_by}
use Rattle.scan_state.specs.Adding.{NoChange, endings_and_changes, only_if}
use Rattle.scan_state.specs.Hops.{IsHopOf}
use Rattle.scan_state.specs.Keeping.{AdmitsKept, GoesOn, Leaves, spelled_on}
use Rattle.scan_state.specs.SetQuery.{CanScan}
use Rattle.scan_state.specs.declared.hop.Hop.{Hop}
use Rattle.scan_state.specs.declared.starts.Starts.{Starts}
use Rattle.reasoning.proofs.ListLemmas.{extends_none}
use Rattle.scan_state.proofs.Admitted.{AreAdmitted}
use Rattle.scan_state.proofs.BoundLemmas.{bounds_on, outdone_by_bounds}
use Rattle.scan_state.proofs.LeaveLemmas.{leavings_taken}
use Rattle.scan_state.proofs.Offers.{but_as, excused_as}
use Rattle.scan_state.proofs.ScanRecordLemmas.{grows_keeps}

-- where one may leave a trip doesn't depend on where one set out
module _ {V : Type 0} (t : TimetableValue) (sources : List ℕ → ℕ → List ℕ) (q : SetQueryValue) (index i : ℕ) (bag : List (Point V)) where
  leave_from : (way : Leaving V) → MayLeave t q i bag way → MayLeave t (asked_from sources q index) i bag way
  leave_from ends may = may
  leave_from (ends_after f) may = may
  leave_from (changes p) may = may

  leave_back : (way : Leaving V) → MayLeave t (asked_from sources q index) i bag way → MayLeave t q i bag way
  leave_back ends may = may
  leave_back (ends_after f) may = may
  leave_back (changes p) may = may

  leavings_from : (rules : Rules V) (Excused : Leaving V → Type 0) (tags : Spellings) (old new : List (Point V))
      → TakesInBut rules Excused (leavings rules t q tags i bag) old new
      → TakesInBut rules Excused (leavings rules t (asked_from sources q index) tags i bag) old new
  leavings_from rules Excused tags old new takes =
      but_as rules Excused Excused (leavings rules t q tags i bag) (leavings rules t (asked_from sources q index) tags i bag) old new
      (λ way opened. record { there = way; is_open = (opened.0, leave_from way opened.1); departs = refl; worth = refl; fits = λ tag h. h })
      (λ way opened. takes.covered way (opened.0, leave_back way opened.1))
      takes

module _ {V : Type 0} (rules : Rules V) (laws : Laws rules) (t : TimetableValue) (found : List (Point V)) (found_admitted : AreAdmitted rules found) (i : ℕ)
    (values : List V) (bounds : AreBounds rules t found (i + 1) values) (bag : List (Point V)) (admitted : AreAdmitted rules bag) (q : SetQueryValue) where
  -- a change that a bound excludes is outdone
  change_outdone : (way : Leaving V) → MayLeave t q i bag way → MayNotChange (Excludes rules values) way
      → MayNotChange (IsOutdoneRidden rules t found i) way
  change_outdone ends may none = none
  change_outdone (ends_after f) may none = none
  change_outdone (changes p) may excludes = outdone_by_bounds rules laws t found found_admitted i values bounds p.value (admitted p may.0) excludes

module _ {V O : Type 0} (rules : Rules V) (laws : Laws rules) (t : TimetableValue) (q : SetQueryValue) (can : CanScan t q)
    (sources : List ℕ → ℕ → List ℕ) (kept : O → ℕ → SourceValue V) (starts : Starts) (hop : Hop V) (is_hop : IsHopOf rules t q starts hop) where
  pub is_step : (old mid new : KeptValue V) (from to : O) → Leaves rules q hop old mid → GoesOn rules t sources kept q hop mid new from to
      → AdmitsKept rules old → AdmitsKept rules new → (index : ℕ)
      → AreAdmitted rules (kept from index).found → AreAdmitted rules (kept to index).found
      → AreBounds rules t (kept from index).found (hop.place + 1) hop.bound.now
      → IsStep rules t (asked_from sources q index) (spelled_on t.footpaths old (kept from index) new (kept to index)) hop.place
      (record { bag = old.bag; labels = old.labels; found = (kept from index).found })
      (record { bag = new.bag; labels = new.labels; found = (kept to index).found })
  is_step old mid new from to leaves goes_on admits now_admits index found_adm now_adm bounds =
      let i = hop.place in
      let values = hop.bound.now in
      let cn = hop.connection in
      let at = is_hop.stands.is in
      let found = (kept from index).found in
      let now = (kept to index).found in
      let asked = asked_from sources q index in
      let outs = (kept from index).set_outs in
      let first = from_to (spelled_by t.footpaths old outs) (spelled_by t.footpaths mid outs) in
      let second = spelled_on t.footpaths mid (kept from index) new (kept to index) in
      let bag = old.bag cn.to in
      let was_labels = old.labels cn.trip in
      let labels = new.labels cn.trip in
      let sets_out = subst (λ (x : Connection). TakesIn rules (settings_out rules t asked second i (new.labels x.trip)) found now) at
      (goes_on.sets_out index) in
      let now_bounds = bounds_on rules laws t found now (i + 1) (i + 1) values (omega arith) sets_out.kept bounds in
      let left = subst (λ (points : List (Point V)). TakesInBut rules (NoChange (Excludes rules values))
      (only_if (cn.alight ≡ true) (endings_and_changes rules first i cn q (final_walk_in hop.final_entry) bag)) was_labels points)
      (sym (goes_on.labels cn.trip)) (leaves.takes t.footpaths outs) in
      let taken = leavings_taken rules laws t q can first i cn at
      (final_walk_in hop.final_entry) is_hop.final_walk bag (Excludes rules values) was_labels labels
      (now_admits.labels cn.trip) left in
      record {
        between = spelled_by t.footpaths mid outs;
        kept_first = grows_keeps t.footpaths (scan_records old.exits old.steps outs) (scan_records mid.exits mid.steps outs)
            (record { exits = leaves.writes.exits; steps = leaves.writes.steps; set_outs = extends_none outs });
        kept_then = grows_keeps t.footpaths (scan_records mid.exits mid.steps outs) (scan_records new.exits new.steps (kept to index).set_outs)
            (record { exits = goes_on.writes.exits; steps = goes_on.writes.steps; set_outs = goes_on.set_outs index });
        leaves = subst (λ (x : Connection). TakesInBut rules (MayNotChange (IsOutdoneRidden rules t found i))
            (leavings rules t asked first i (old.bag x.to)) (old.labels x.trip) (new.labels x.trip)) at
            (leavings_from t sources q index i bag rules (MayNotChange (IsOutdoneRidden rules t found i)) first was_labels labels
            (excused_as rules (MayNotChange (Excludes rules values)) (MayNotChange (IsOutdoneRidden rules t found i))
            (leavings rules t q first i bag) was_labels labels
            (λ way opened. change_outdone rules laws t found found_adm i values bounds bag (admits.bags cn.to) q way opened.1) taken));
        other_trips = λ trip other. goes_on.labels trip ∙ leaves.other_trips trip (λ e. other (e ∙ ap (λ (x : Connection). x.trip) at));
        boards = λ stop lt. subst (λ (x : Connection). TakesInBut rules (λ way. IsOutdoneRidden rules t now i way.label.value)
            (boardings rules t second i stop (new.labels x.trip)) (old.bag stop) (new.bag stop)) at
            (excused_as rules (λ way. Excludes rules values way.label.value) (λ way. IsOutdoneRidden rules t now i way.label.value)
            (boardings rules t second i stop labels) (old.bag stop) (new.bag stop)
            (λ way may. outdone_by_bounds rules laws t now now_adm i values now_bounds way.label.value
            (now_admits.labels cn.trip way.label may.is_label))
            (subst (λ (points : List (Point V)). TakesInBut rules (λ way. Excludes rules values way.label.value)
            (boardings rules t second i stop labels) points (new.bag stop)) (leaves.bags stop) (goes_on.boards index stop lt)));
        sets_out = sets_out;
      }
