-- What a connection adds is attained by what its tag spells.
use Rattle.std.proofs.Common.{◌≡◌, ℕ, ◌+◌, ◌-◌, ◌<◌, ◌≤◌, true, List, [], ◌∷◌, length, Contains, arith, refl, sym, ◌∙◌, ap, subst, inl, inr, add-zero}
use Rattle.criteria.specs.Laws.{Rules}
use Rattle.bags.specs.declared.point.Point.{Point}
use Rattle.timetable.specs.declared.network.Footpath.{Footpath}
use Rattle.timetable.specs.TimetableValue.{TimetableValue}
use Rattle.timetable.specs.JourneyValue.{RideValue, JourneyValue}
use Rattle.timetable.specs.Journeys.{connection_at, walk_end, walk_secs, Leads, final_time, start_secs}
use Rattle.scan_state.specs.SetQuery.{SetQueryValue, CountsBetween}
use Rattle.scan_state.specs.Values.{walked, ridden, started, journey_value}
use Rattle.scan_state.specs.Continuations.{Onward, Aboard, BoardsFrom, IsOnward, IsAboard, CountsFrom, onward_value, aboard_value}
use Rattle.scan_state.specs.Plain.{IsOneFootpath, HasPlainWalk, IsPlainOnward, IsPlainAboard, IsPlainOf}
use Rattle.scan_state.specs.Matching.{Spellings, IsAttained, IsLabelled}
use Rattle.scan_state.specs.Steps.{IsOffered, Leaving, ends, ends_after, changes, MayLeave, leaving_value, LeavingTag}
use Rattle.scan_state.specs.Steps.{leavings, boarded, boardings, settings_out}

-- what is there from a place on is there from the place before on
boards_more : (i : ℕ) (rides : List RideValue) → BoardsFrom (i + 1) rides → BoardsFrom i rides
boards_more i [] from = from
boards_more i (ride ∷ rides) from = omega arith

pub onward_more : (t : TimetableValue) (q : SetQueryValue) (i stop time : ℕ) (x : Onward) → IsOnward t q (i + 1) stop time x → IsOnward t q i stop time x
onward_more t q i stop time x on = record {
  walks = on.walks;
  is_walk = on.is_walk;
  boards =
      boards_more i x.rides on.boards;
  goal = on.goal;
  is_goal = on.is_goal;
  leads = on.leads;
  arrives = on.arrives;
}

pub aboard_more : (t : TimetableValue) (q : SetQueryValue) (i trip : ℕ) (x : Aboard) → IsAboard t q (i + 1) trip x → IsAboard t q i trip x
aboard_more t q i trip x a = record {
  later = omega (arith, a.later);
  in_range = a.in_range;
  on_trip =
      a.on_trip;
  alights = a.alights;
  is_walk = a.is_walk;
  walks = a.walks;
  goal = a.goal;
  is_goal = a.is_goal;
  leads = a.leads;
  arrives = a.arrives;
}

pub counts_more : (t : TimetableValue) (q : SetQueryValue) (i departure : ℕ) (j : JourneyValue) → CountsFrom t q (i + 1) departure j
    → CountsFrom t q i departure j
counts_more t q i departure j c = record { counts = c.counts; boards = boards_more i j.rides c.boards }

-- who may set out at a time may set out earlier
leads_earlier : (t : TimetableValue) (goal stop time sooner i : ℕ) (rides : List RideValue) → sooner ≤ time
    → BoardsFrom i rides → Leads t goal stop time rides → Leads t goal stop sooner rides
leads_earlier t goal stop time sooner i [] le from leads = absurd from
leads_earlier t goal stop time sooner i (ride ∷ rides) le from leads = (leads.0, leads.1, omega (arith, leads.2), leads.3, leads.4, leads.5)

-- of rides the final time doesn't depend on the time before them
final_same : (t : TimetableValue) (time other i : ℕ) (rides : List RideValue) → BoardsFrom i rides → final_time t time rides ≡ final_time t other rides
final_same t time other i [] from = absurd from
final_same t time other i (ride ∷ rides) from = refl

module _ (t : TimetableValue) (q : SetQueryValue) (i : ℕ) where
  -- leaving the trip at place i, and ending there or going onward
  pub arrives_aboard : i < length t.connections → (connection_at t i).alight ≡ true → Contains q.targets (connection_at t i).to
      → (connection_at t i).arr ≤ q.by → IsAboard t q i (connection_at t i).trip (record {
        last = i;
        walk = [];
        rides =
            [];
      })
  arrives_aboard in_i alights at le = record {
    later = omega arith;
    in_range = in_i;
    on_trip = refl;
    alights = alights;
    is_walk = tt;
    walks = λ some _. some refl;
    goal = (connection_at t i).to;
    is_goal = at;
    leads = refl;
    arrives = omega arith;
  }

  pub walks_aboard : (f : Footpath) → i < length t.connections → (connection_at t i).alight ≡ true
      → Contains t.footpaths f → f.from ≡ (connection_at t i).to → Contains q.targets f.to
      → (connection_at t i).arr + f.secs ≤ q.by
      → IsAboard t q i (connection_at t i).trip (record { last = i; walk = f ∷ []; rides = [] })
  walks_aboard f in_i alights is leaves at le = record {
    later = omega arith;
    in_range = in_i;
    on_trip = refl;
    alights = alights;
    is_walk = (is, leaves, tt);
    walks = λ some _. some refl;
    goal = f.to;
    is_goal = at;
    leads = refl;
    arrives = omega arith;
  }

  pub changes_aboard : (time : ℕ) (x : Onward) → i < length t.connections → (connection_at t i).alight ≡ true
      → (connection_at t i).arr ≤ time → IsOnward t q (i + 1) (connection_at t i).to time x
      → IsAboard t q i (connection_at t i).trip (record { last = i; walk = x.walk; rides = x.rides })
  changes_aboard time x in_i alights le on = record {
    later = omega arith;
    in_range = in_i;
    on_trip = refl;
    alights = alights;
    is_walk = on.is_walk;
    walks = λ _. on.walks;
    goal = on.goal;
    is_goal = on.is_goal;
    leads = leads_earlier t on.goal (walk_end (connection_at t i).to x.walk) (time + walk_secs x.walk)
        ((connection_at t i).arr + walk_secs x.walk) (i + 1) x.rides (omega arith) on.boards on.leads;
    arrives = subst (λ (n : ℕ). n ≤ q.by) (final_same t 0 ((connection_at t i).arr + walk_secs x.walk) (i + 1) x.rides on.boards) on.arrives;
  }

  -- who may sit in the trip from place i on may board there
  pub boarding_leads : (time : ℕ) (x : Aboard) (a : IsAboard t q i (connection_at t i).trip x)
      → (connection_at t i).board ≡ true → time ≤ (connection_at t i).dep
      → Leads t a.goal (connection_at t i).from time (boarded i x)
  boarding_leads time x a boards le = (
    record {
      rising = a.later;
      in_range = a.in_range;
      one_trip = sym a.on_trip;
      boards = boards;
      alights =
          a.alights;
    },
    refl,
    le,
    a.is_walk,
    a.walks,
    a.leads,
  )

  -- after one footpath
  pub boards_onward : (stop : ℕ) (f : Footpath) (x : Aboard) → IsAboard t q i (connection_at t i).trip x
      → (connection_at t i).board ≡ true → Contains t.footpaths f → f.from ≡ stop → f.to ≡ (connection_at t i).from
      → f.secs ≤ (connection_at t i).dep → IsOnward t q i stop ((connection_at t i).dep - f.secs) (record {
        walk =
            f ∷ [];
        rides = boarded i x;
      })
  boards_onward stop f x a boards is leaves leads fits =
      let time : ℕ = (connection_at t i).dep - f.secs + walk_secs (f ∷ []) in
      record {
        walks = λ e. cc;
        is_walk = (is, leaves, tt);
        boards = omega arith;
        goal = a.goal;
        is_goal = a.is_goal;
        leads = subst (λ (n : ℕ). Leads t a.goal n time (boarded i x)) (sym leads) (boarding_leads time x a boards (omega arith));
        arrives = a.arrives;
      }

-- a footpath before rides that board is one to change
plain_before : (t : TimetableValue) (IsGoal : ℕ → Type 0) (last i : ℕ) (walk : List Footpath) (rides : List RideValue)
    → BoardsFrom i rides → IsOneFootpath walk → HasPlainWalk t IsGoal last walk rides
plain_before t IsGoal last i walk [] from one = absurd from
plain_before t IsGoal last i walk (ride ∷ rides) from one = one

module _ {V : Type 0} (rules : Rules V) (t : TimetableValue) (q : SetQueryValue) (tags : Spellings) (i : ℕ) where
  -- what changing is worth
  change_value : (time : ℕ) (x : Onward) → IsOnward t q (i + 1) (connection_at t i).to time x
      → onward_value rules t x ≡ aboard_value rules t (record { last = i; walk = x.walk; rides = x.rides })
  change_value time x on =
      ap (λ (n : ℕ). walked rules x.walk (ridden rules n x.rides)) (final_same t 0 ((connection_at t i).arr + walk_secs x.walk) (i + 1) x.rides on.boards)

  -- a label that was offered is attained
  pub leaving_attained : (bag : List (Point V)) → i < length t.connections
      → ((p : Point V) → Contains bag p → IsAttained tags.earlier.onward (IsOnward t q (i + 1) (connection_at t i).to)
      (IsPlainOnward t (Contains q.targets)) (onward_value rules t) p) → (p : Point V) → IsOffered (leavings rules t q tags i bag) p
      → IsAttained tags.later.aboard (IsLabelled t q i (connection_at t i).trip) (IsPlainAboard t (Contains q.targets))
      (aboard_value rules t) p
  leaving_attained bag in_i sound p offered = by_way offered.way offered.is_open.0 offered.is_open.1 offered.departs offered.worth offered.fits
    where
      by_way : (way : Leaving V) → (connection_at t i).alight ≡ true → MayLeave t q i bag way → p.departure ≡ 0
          → p.value ≡ leaving_value rules t i way → LeavingTag tags i way p.tag
          → IsAttained tags.later.aboard (IsLabelled t q i (connection_at t i).trip) (IsPlainAboard t (Contains q.targets))
          (aboard_value rules t) p
      by_way ends alights may departs worth fits = record {
        way = record { last = i; walk = []; rides = [] };
        spells = fits;
        there = record { departed = departs; aboard = arrives_aboard t q i in_i alights may.0 may.1 };
        plain = (inl (may.0, refl), tt);
        worth = worth ∙ ap rules.arrive (sym (add-zero (connection_at t i).arr));
      }
      by_way (ends_after f) alights may departs worth fits = record {
        way = record { last = i; walk = f ∷ []; rides = [] };
        spells = fits;
        there = record { departed = departs; aboard = walks_aboard t q i f in_i alights may.0 may.1 may.2 may.4 };
        plain = (inr (may.3, (f, refl)), tt);
        worth = worth ∙ ap (λ (n : ℕ). rules.walk f.secs (rules.arrive ((connection_at t i).arr + n))) (sym (add-zero f.secs));
      }
      by_way (changes b) alights may departs worth fits =
          let on = sound b may.0 in
          record {
            way = record { last = i; walk = on.way.walk; rides = on.way.rides };
            spells = fits on.way on.spells;
            there = record { departed = departs; aboard = changes_aboard t q i b.departure on.way in_i alights may.1 on.there };
            plain = (plain_before t (Contains q.targets) i (i + 1) on.way.walk on.way.rides on.there.boards on.plain.0, on.plain.1);
            worth = worth ∙ on.worth ∙ change_value b.departure on.way on.there;
          }

  -- a point of a bag that was offered is attained
  pub boarding_attained : (stop : ℕ) (labels : List (Point V))
      → ((p : Point V) → Contains labels p → IsAttained tags.earlier.aboard (IsLabelled t q i (connection_at t i).trip)
      (IsPlainAboard t (Contains q.targets)) (aboard_value rules t) p) → (p : Point V)
      → IsOffered (boardings rules t tags i stop labels) p
      → IsAttained tags.later.onward (IsOnward t q i stop) (IsPlainOnward t (Contains q.targets)) (onward_value rules t) p
  boarding_attained stop labels sound p offered =
      let may = offered.is_open in
      let f = offered.way.walk in
      let label = sound offered.way.label may.is_label in
      record {
        way = record { walk = f ∷ []; rides = boarded i label.way };
        spells = offered.fits label.way label.spells;
        there = subst (λ (n : ℕ). IsOnward t q i stop n (record {
          walk = f ∷ [];
          rides =
              boarded i label.way;
        })) (sym offered.departs)
            (boards_onward t q i stop f label.way label.there.aboard may.boards may.is_footpath may.leaves may.leads
            may.fits);
        plain = ((f, refl), label.plain);
        worth = offered.worth ∙ ap (λ (v : V). rules.walk f.secs (rules.ride v)) label.worth;
      }

  -- a point found that was offered is attained
  pub setting_out_attained : (labels : List (Point V))
      → ((p : Point V) → Contains labels p → IsAttained tags.earlier.aboard (IsLabelled t q i (connection_at t i).trip)
      (IsPlainAboard t (Contains q.targets)) (aboard_value rules t) p) → (p : Point V)
      → IsOffered (settings_out rules t q tags i labels) p
      → IsAttained tags.later.journey (CountsFrom t q i) (IsPlainOf t (Contains q.targets)) (journey_value rules t) p
  setting_out_attained labels sound p offered =
      let may = offered.is_open in
      let start = offered.way.start in
      let label = sound offered.way.label may.is_label in
      let journey : JourneyValue = record { start = start; rides = boarded i label.way } in
      let counts : CountsBetween t q ((connection_at t i).dep - start_secs start) journey = record {
        pair = record {
          source = may.source;
          target = label.there.aboard.goal;
          is_source = may.is_source;
          is_target = label.there.aboard.is_goal;
        };
        counts = record {
          journey = record {
            starts = may.is_start;
            has_rides = λ e. cc;
            leads = subst (λ (n : ℕ). Leads t label.there.aboard.goal n 0 (boarded i label.way)) (sym may.leads)
                (boarding_leads t q i 0 label.way label.there.aboard may.boards (omega arith));
          };
          departs = let fits = may.fits in omega arith;
          not_early = may.not_early;
          not_late = may.not_late;
          arrives = label.there.aboard.arrives;
        };
      } in
      record {
        way = journey;
        spells = offered.fits label.way label.spells;
        there = record { counts = subst (λ (n : ℕ). CountsBetween t q n journey) (sym offered.departs) counts; boards = omega arith };
        plain = label.plain;
        worth = offered.worth ∙ ap (λ (v : V). started rules start (rules.ride v)) label.worth;
      }
