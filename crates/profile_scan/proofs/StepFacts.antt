-- If the same is kept, the same matches; and if nothing is offered, nothing changes.
use Rattle.std.proofs.Common.{◌≡◌, ◌<◌, ℕ, List, [], length, Contains, Option, None, ◌+◌, inl, inr, refl, sym, ap, subst, arith}
use Rattle.timetable.specs.Legal.{IsLegal}
use Rattle.timetable.proofs.LegalLemmas.{connection_at-stands}
use Rattle.criteria.specs.Laws.{Rules, Laws, Admits}
use Rattle.bags.specs.declared.point.Point.{Point}
use Rattle.timetable.specs.declared.network.Connection.{Connection}
use Rattle.timetable.specs.TimetableValue.{TimetableValue}
use Rattle.timetable.specs.Journeys.{connection_at}
use Rattle.scan_state.specs.SetQuery.{SetQueryValue}
use Rattle.scan_state.specs.Values.{journey_value}
use Rattle.scan_state.specs.Continuations.{IsOnward, CountsFrom, onward_value, aboard_value}
use Rattle.scan_state.specs.Plain.{IsPlainOnward, IsPlainAboard, IsPlainOf}
use Rattle.scan_state.specs.Matching.{Spelling, from_to, ScanValue, Matches, MatchesBut, MatchesFrom, IsLabelled, IsOutdone}
use Rattle.scan_state.specs.Steps.{Leaving, ends, ends_after, changes, MayLeave, MayNotChange, IsOutdoneRidden, boardings, settings_out, IsStep}
use Rattle.scan_state.specs.Bound.{AreBounds}
use Rattle.scan_state.specs.Keeping.{IsIdle}
use Rattle.scan_state.specs.ScanState.{IsFinalWalk}
use Rattle.scan_state.specs.declared.final_walks.FinalWalk.{FinalWalk}
use Rattle.scan_state.proofs.Admitted.{AreAdmitted}
use Rattle.scan_state.proofs.BoundLemmas.{outdone_by_bounds}
use Rattle.scan_state.proofs.Offers.{takes_but, takes_none}
use Rattle.profile_scan.proofs.StepLemmas.{keeps_none}

-- what is kept alike matches alike
module _ {V : Type 0} (rules : Rules V) (t : TimetableValue) (q : SetQueryValue) (tags : Spelling) (i : ℕ) where
  pub matches_alike : (old new : ScanValue V) → ((stop : ℕ) → new.bag stop ≡ old.bag stop)
      → ((trip : ℕ) → new.labels trip ≡ old.labels trip) → new.found ≡ old.found → MatchesFrom rules t q tags i old
      → MatchesFrom rules t q tags i new
  matches_alike old new bags labels found m = record {
    at_stops = λ stop lt.
        subst (λ (points : List (Point V)). MatchesBut rules tags.onward (IsOnward t q i stop)
        (IsPlainOnward t (Contains q.targets)) (onward_value rules t) (IsOutdone rules t new.found i) points) (sym (bags stop))
        (subst (λ (f : List (Point V)). MatchesBut rules tags.onward (IsOnward t q i stop) (IsPlainOnward t (Contains q.targets))
        (onward_value rules t) (IsOutdone rules t f i) (old.bag stop)) (sym found) (m.at_stops stop lt));
    in_trips = λ trip lt.
        subst (λ (points : List (Point V)). MatchesBut rules tags.aboard (IsLabelled t q i trip)
        (IsPlainAboard t (Contains q.targets)) (aboard_value rules t) (λ v. IsOutdone rules t new.found i (rules.ride v))
        points) (sym (labels trip))
        (subst (λ (f : List (Point V)). MatchesBut rules tags.aboard (IsLabelled t q i trip) (IsPlainAboard t (Contains q.targets))
        (aboard_value rules t) (λ v. IsOutdone rules t f i (rules.ride v)) (old.labels trip)) (sym found)
        (m.in_trips trip lt));
    at_source = subst (λ (points : List (Point V)).
        Matches rules tags.journey (CountsFrom t q i) (IsPlainOf t (Contains q.targets)) (journey_value rules t) points) (sym found)
        m.at_source;
  }

none_in : {X : Type 0} (xs : List X) → xs ≡ [] → (x : X) → Contains xs x → ⊥
none_in xs e x h = let long = ap length e in omega (arith, h.1, long)

no_leave : {V : Type 0} (t : TimetableValue) (q : SetQueryValue) (i : ℕ) (bag : List (Point V)) (way : Option FinalWalk)
    → IsFinalWalk t q.targets (connection_at t i).to way → way ≡ None → (Excused : V → Type 0)
    → ((p : Point V) → Contains bag p → Excused p.value)
    → (leaving : Leaving V) → MayLeave t q i bag leaving → MayNotChange Excused leaving
no_leave t q i bag way is none Excused excused ends may = (subst (IsFinalWalk t q.targets (connection_at t i).to) none is).0 may.0
no_leave t q i bag way is none Excused excused (ends_after f) may = (subst (IsFinalWalk t q.targets (connection_at t i).to) none is).1 f may.0 may.1 may.2
no_leave t q i bag way is none Excused excused (changes p) may = excused p may.0

-- where nothing is offered, all stays
step_idle : {V : Type 0} (rules : Rules V) (laws : Laws rules) (t : TimetableValue) (q : SetQueryValue) (a : Spelling) (i : ℕ) (scan : ScanValue V)
    (values : List V) → AreAdmitted rules scan.found → AreBounds rules t scan.found (i + 1) values
    → ((p : Point V) → Contains (scan.bag (connection_at t i).to) p → Admits rules p.value)
    → (way : Option FinalWalk) → IsFinalWalk t q.targets (connection_at t i).to way
    → IsIdle rules values (connection_at t i) way (scan.labels (connection_at t i).trip) (scan.bag (connection_at t i).to)
    → IsStep rules t q (from_to a a) i scan scan
step_idle {V} rules laws t q a i scan values found_admitted bounds admitted way is idle =
    let trip = (connection_at t i).trip in
    let stop = (connection_at t i).to in
    record {
      between = a;
      kept_first = keeps_none a;
      kept_then = keeps_none a;
      leaves = record {
        only = λ p h. inl h;
        kept = λ d v admits c. c;
        covered = λ leaving opened.
            let nowhere = idle.leads_nowhere opened.0 in
            inr (no_leave t q i (scan.bag stop) way is nowhere.0 (IsOutdoneRidden rules t scan.found i)
            (λ p h. outdone_by_bounds rules laws t scan.found found_admitted i values bounds p.value (admitted p h) (nowhere.1 p h)) leaving opened.1);
      };
      other_trips = λ k other. refl;
      boards = λ k lt. takes_but rules _ (boardings rules t (from_to a a) i k (scan.labels trip)) (scan.bag k) (scan.bag k)
          (takes_none rules (boardings rules t (from_to a a) i k (scan.labels trip)) (scan.bag k)
          (λ boarding opened. none_in (scan.labels trip) idle.no_labels boarding.label opened.is_label));
      sets_out = takes_none rules (settings_out rules t q (from_to a a) i (scan.labels trip)) scan.found
          (λ out opened. none_in (scan.labels trip) idle.no_labels out.label opened.is_label);
    }

-- the same, of the connection by another name
pub step_idle_at : {V : Type 0} (rules : Rules V) (laws : Laws rules) (t : TimetableValue) (q : SetQueryValue) (a : Spelling) (i : ℕ)
    (scan : ScanValue V) (values : List V) → AreAdmitted rules scan.found → AreBounds rules t scan.found (i + 1) values
    → ((stop : ℕ) (p : Point V) → Contains (scan.bag stop) p → Admits rules p.value)
    → (way : Option FinalWalk) (c : Connection) → c ≡ connection_at t i → IsFinalWalk t q.targets c.to way
    → IsIdle rules values c way (scan.labels c.trip) (scan.bag c.to) → IsStep rules t q (from_to a a) i scan scan
step_idle_at rules laws t q a i scan values found_admitted bounds admitted way c e is idle =
    step_idle rules laws t q a i scan values found_admitted bounds (admitted (connection_at t i).to) way
    (subst (λ (x : Connection). IsFinalWalk t q.targets x.to way) e is)
    (subst (λ (x : Connection). IsIdle rules values x way (scan.labels x.trip) (scan.bag x.to)) e idle)

-- where a connection of a legal timetable begins and ends, and its trip, are of that timetable
module _ (t : TimetableValue) (legal : IsLegal t) (i : ℕ) (in_i : i < length t.connections) (c : Connection) (is : c ≡ connection_at t i) where
  pub begins_in : c.from < t.stops
  begins_in = subst (λ (x : Connection). x.from < t.stops) (sym is) (legal.stops_in_range i (connection_at t i) (connection_at-stands t i in_i)).0

  pub ends_in : c.to < t.stops
  ends_in = subst (λ (x : Connection). x.to < t.stops) (sym is) (legal.stops_in_range i (connection_at t i) (connection_at-stands t i in_i)).1

  pub trip_in : c.trip < t.trips
  trip_in = subst (λ (x : Connection). x.trip < t.trips) (sym is) (legal.trips_in_range i (connection_at t i) (connection_at-stands t i in_i))
