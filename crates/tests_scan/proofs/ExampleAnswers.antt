-- Two answers computed from the definitions alone, over every journey: one point, and none.
use Rattle.std.proofs.Common.{◌≡◌, ◌≢◌, ℕ, zero, suc, ◌+◌, ◌<◌, ◌≤◌, nat_le, List, [], ◌∷◌, Contains, Option, Some}
use Rattle.std.proofs.Common.{None, arith, refl, sym, ◌∙◌, ap, subst, rules as std_rules}
use Rattle.std.proofs.lemmas.Bool.{le-leb, leb-true}
use Rattle.reasoning.proofs.ListLemmas.{contains_only, not_in_nil}
use Rattle.criteria.specs.Laws.{Rules, NoWorse}
use Rattle.bags.specs.declared.point.Point.{Point}
use Rattle.timetable.specs.declared.network.Footpath.{Footpath}
use Rattle.timetable.specs.JourneyValue.{RideValue, JourneyValue}
use Rattle.timetable.specs.Journeys.{connection_at, IsWalk, walk_end, Leads, final_time, time_after, stop_after}
use Rattle.timetable.specs.Journeys.{IsStart, start_end, start_secs, Counts, arrival}
use Rattle.scan_state.specs.Values.{journey_value, walked, ridden, started}
use Rattle.scan_state.specs.Points.{IsPoint, IsUndominated, IsAnswer}
use Rattle.tests_scan.specs.Examples.{with_loops, with_walk, asked, by_change, footpath, on_foot}

-- with loops alone every footpath is one
is_loop : (at_a at_b : ℕ) (f : Footpath) → Contains (with_loops at_a at_b).footpaths f → f.to ≡ f.from
is_loop at_a at_b f (zero, lt, is) = subst (λ (x : Footpath). x.to ≡ x.from) is refl
is_loop at_a at_b f (suc zero, lt, is) = subst (λ (x : Footpath). x.to ≡ x.from) is refl
is_loop at_a at_b f (suc (suc zero), lt, is) = subst (λ (x : Footpath). x.to ≡ x.from) is refl
is_loop at_a at_b f (suc (suc (suc k)), lt, is) = absurd (omega arith)

-- so no walk leaves its stop, and no journey starts on foot
stays : (at_a at_b stop : ℕ) (walk : List Footpath) → IsWalk (with_loops at_a at_b) stop walk → walk_end stop walk ≡ stop
stays at_a at_b stop [] is = refl
stays at_a at_b stop (f ∷ fs) is = stays at_a at_b f.to fs is.2 ∙ is_loop at_a at_b f is.0 ∙ is.1

starts_at_source : (at_a at_b source : ℕ) (start : Option Footpath) → IsStart (with_loops at_a at_b) source start → start ≡ None
starts_at_source at_a at_b source None is = refl
starts_at_source at_a at_b source (Some f) is = absurd (is.2 (is_loop at_a at_b f is.0 ∙ is.1))

module _ (at_a at_b : ℕ) where
  -- the connection that leaves A, those that reach C, and when all depart
  leaves_a : (i : ℕ) → i < 3 → (connection_at (with_loops at_a at_b) i).from ≡ 0 → i ≡ 0
  leaves_a zero lt is = refl
  leaves_a (suc zero) lt is = absurd cc
  leaves_a (suc (suc zero)) lt is = absurd cc
  leaves_a (suc (suc (suc k))) lt is = absurd (omega arith)

  reaches_c : (i : ℕ) → i < 3 → (connection_at (with_loops at_a at_b) i).to ≡ 2 → 30000 ≤ (connection_at (with_loops at_a at_b) i).arr
  reaches_c zero lt is = absurd cc
  reaches_c (suc zero) lt is = omega arith
  reaches_c (suc (suc zero)) lt is = omega arith
  reaches_c (suc (suc (suc k))) lt is = absurd (omega arith)

  -- a journey to C arrives at 30000 or later
  arrives_late : (stop time : ℕ) (ride : RideValue) (rides : List RideValue)
      → Leads (with_loops at_a at_b) 2 stop time (ride ∷ rides)
      → 30000 ≤ final_time (with_loops at_a at_b) 0 (ride ∷ rides)
  arrives_late stop time ride [] leads =
      let in_last = leads.0.in_range in
      let reaches = reaches_c ride.leg.last in_last
      (sym (stays at_a at_b (connection_at (with_loops at_a at_b) ride.leg.last).to ride.walk leads.3)
      ∙ leads.5) in
      omega arith
  arrives_late stop time ride (next ∷ rides) leads =
      arrives_late (stop_after (with_loops at_a at_b) ride) (time_after (with_loops at_a at_b) ride) next rides leads.5

  -- a journey from A departs at 28800
  departs_at_eight : (until by departure : ℕ) (start : Option Footpath) (rides : List RideValue) → start ≡ None
      → Counts (with_loops at_a at_b) (asked until by) departure (record { start = start; rides = rides })
      → departure ≡ 28800
  departs_at_eight until by departure start [] none c = absurd (c.journey.has_rides refl)
  departs_at_eight until by departure start (ride ∷ rides) none c =
      let t = with_loops at_a at_b in
      let leads = c.journey.leads in
      let rising = leads.0.rising in
      let in_last = leads.0.in_range in
      let source : start_end 0 start ≡ 0 = ap (start_end 0) none in
      let first = leaves_a ride.leg.first (omega arith) (leads.1 ∙ source) in
      let none_secs : start_secs start ≡ 0 = ap start_secs none in
      let departs : departure + start_secs start ≡ 28800 = c.departs ∙ ap (λ (n : ℕ). (connection_at t n).dep) first in
      omega arith

-- no journey departs before 08:00:00
pub nothing_before_eight : {V : Type 0} (rules : Rules V) → IsAnswer rules (with_loops 60 0) (asked 28799 36000) []
nothing_before_eight rules = record {
  exactly = λ departure v. (
    (λ listed. absurd (omega (arith, listed.1.1))),
    (λ undominated. absurd (no_point departure undominated.is_point.0 undominated.is_point.1)),
  );
  unbeaten = λ departure v point. absurd (no_point departure point.0 point.1);
  ordered = λ i j d lt in_j. absurd (omega arith);
}
  where
    no_point : (departure : ℕ) (j : JourneyValue) → Counts (with_loops 60 0) (asked 28799 36000) departure j → ⊥
    no_point departure j c =
        let departs = departs_at_eight 60 0 28799 36000 departure j.start j.rides (starts_at_source 60 0 0 j.start c.journey.starts) c in
        let late = c.not_late in
        omega arith

-- the first trip counts where the better one leaves too late, so some point covers it
pub the_first_trip_counts : {V : Type 0} (rules : Rules V) → Counts with_walk (asked 29399 36000) 29280 (on_foot 120 1)
    → IsAnswer rules with_walk (asked 29399 36000) [] → ⊥
the_first_trip_counts rules counts answer =
    let covered = answer.unbeaten 29280 (journey_value rules with_walk (on_foot 120 1)) (on_foot 120 1, counts, refl) in
    not_in_nil covered.0 covered.1

-- a criterion of the arrival alone
pub record IsByArrival (rules : Rules ℕ) : Type 0 where
  pub arrives : (time : ℕ) → rules.arrive time ≡ time
  pub rides : (v : ℕ) → rules.ride v ≡ v
  pub walks : (secs v : ℕ) → rules.walk secs v ≡ v
  pub compares : (v w : ℕ) → rules.no_worse v w ≡ nat_le v w

module _ (rules : Rules ℕ) (by_arrival : IsByArrival rules) where
  walked_is : (fs : List Footpath) (v : ℕ) → walked rules fs v ≡ v
  walked_is [] v = refl
  walked_is (f ∷ fs) v = by_arrival.walks f.secs (walked rules fs v) ∙ walked_is fs v

  ridden_is : (time : ℕ) (rides : List RideValue) → ridden rules time rides ≡ time
  ridden_is time [] = by_arrival.arrives time
  ridden_is time (ride ∷ rides) = by_arrival.rides (walked rules ride.walk (ridden rules time rides))
      ∙ walked_is ride.walk (ridden rules time rides) ∙ ridden_is time rides

  started_is : (start : Option Footpath) (v : ℕ) → started rules start v ≡ v
  started_is None v = refl
  started_is (Some f) v = by_arrival.walks f.secs v

  -- each point departs at 28800, and has a value of 30000 or more
  point_is : (departure v : ℕ) → IsPoint rules (with_loops 0 0) (asked 32400 36000) departure v → (departure ≡ 28800) × (30000 ≤ v)
  point_is departure v p =
      let j = p.0 in
      let departs = departs_at_eight 0 0 32400 36000 departure j.start j.rides (starts_at_source 0 0 0 j.start p.1.journey.starts) p.1 in
      let worth : v ≡ arrival (with_loops 0 0) j =
      p.2 ∙ started_is j.start (ridden rules (arrival (with_loops 0 0) j) j.rides)
      ∙ ridden_is (arrival (with_loops 0 0) j) j.rides in
      let late = late_rides j.rides p.1.journey.has_rides (start_end 0 j.start) p.1.journey.leads in
      (departs, omega arith)
    where
      late_rides : (rides : List RideValue) → (rides ≡ [] → ⊥) → (stop : ℕ) → Leads (with_loops 0 0) 2 stop 0 rides
          → 30000 ≤ final_time (with_loops 0 0) 0 rides
      late_rides [] some stop leads = absurd (some refl)
      late_rides (ride ∷ rides) some stop leads = arrives_late 0 0 stop 0 ride rides leads

  change_is_point : IsPoint rules (with_loops 0 0) (asked 32400 36000) 28800 30000
  change_is_point =
      let loop_at_b : Contains (with_loops 0 0).footpaths (footpath 1 1 0) = (1, omega arith, refl) in
      let some : (by_change 0).rides ≢ [] = λ e. cc in
      let counts : Counts (with_loops 0 0) (asked 32400 36000) 28800 (by_change 0) = search (std_rules, some, loop_at_b) in
      (by_change 0, counts, sym (ridden_is 30000 (by_change 0).rides))

  -- the answer is the change at B: departing at 08:00:00, arriving at 08:20:00
  abbrev the_point : ℕ → Point ℕ
  the_point tag = record { departure = 28800; value = 30000; tag = tag }

  pub one_point : (tag : ℕ) → IsAnswer rules (with_loops 0 0) (asked 32400 36000) (the_point tag ∷ [])
  one_point tag = record {
    exactly = λ departure v. (
      (λ listed. let same = sym (contains_only (the_point tag) listed.0 listed.1) in
          subst (λ (n : ℕ). IsUndominated rules (with_loops 0 0) (asked 32400 36000) n v) (ap (λ (p : Point ℕ). p.departure) same ∙ listed.2)
          (subst (IsUndominated rules (with_loops 0 0) (asked 32400 36000) 28800) (ap (λ (p : Point ℕ). p.value) same ∙ listed.3) change_is_undominated)),
      (λ undominated.
          let at = point_is departure v undominated.is_point in
          let same = undominated.only_itself 28800 30000 change_is_point (omega arith) (no_worse 30000 v at.1) in
          (the_point tag, (zero, omega arith, refl), same.0, same.1)),
    );
    unbeaten = λ departure v point. let at =
        point_is departure v point in (
          the_point tag,
          (zero, omega arith, refl),
          omega (arith, at.0),
          no_worse 30000 v at.1,
        );
    ordered = λ i j d lt in_j. absurd (omega arith);
  }
    where
      no_worse : (v w : ℕ) → v ≤ w → NoWorse rules v w
      no_worse v w le = by_arrival.compares v w ∙ le-leb v w le

      change_is_undominated : IsUndominated rules (with_loops 0 0) (asked 32400 36000) 28800 30000
      change_is_undominated = record {
        is_point = change_is_point;
        only_itself = λ d w point late better.
            let at = point_is d w point in
            let le = leb-true w 30000 (sym (by_arrival.compares w 30000) ∙ better) in
            (at.0, omega (arith, at.1, le));
      }
