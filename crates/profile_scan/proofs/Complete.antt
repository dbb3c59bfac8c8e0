-- What a connection adds covers every way to go on that begins with it.
use Rattle.std.proofs.Common.{◌≡◌, ℕ, ◌+◌, ◌-◌, ◌<◌, ◌≤◌, true, List, [], ◌∷◌, ◌⊎◌, length, Contains, Option, arith}
use Rattle.std.proofs.Common.{refl, sym, ◌∙◌, ap, subst, inl, inr, add-zero}
use Rattle.std.proofs.lemmas.Bool.{cases_lt}
use Rattle.criteria.specs.Laws.{Rules, Laws, Admits, NoWorse}
use Rattle.bags.specs.declared.point.Point.{Point}
use Rattle.timetable.specs.declared.network.Footpath.{Footpath}
use Rattle.timetable.specs.TimetableValue.{TimetableValue}
use Rattle.timetable.specs.JourneyValue.{RideValue, JourneyValue}
use Rattle.timetable.specs.Journeys.{connection_at, IsWalk, walk_end, walk_secs, Leads, final_time, start_end, start_secs}
use Rattle.scan_state.specs.SetQuery.{SetQueryValue}
use Rattle.scan_state.specs.Values.{walked, ridden, started, journey_value}
use Rattle.scan_state.specs.Points.{Covers}
use Rattle.scan_state.specs.Continuations.{Onward, Aboard, IsOnward, IsAboard, CountsFrom, onward_value, aboard_value}
use Rattle.scan_state.specs.Matching.{IsOutdone}
use Rattle.scan_state.specs.Steps.{Leaving, ends, ends_after, changes, MayLeave, leaving_value, MayNotChange, IsOutdoneRidden, Boarding, MayBoard}
use Rattle.scan_state.specs.Steps.{SettingOut, MaySetOut}
use Rattle.scan_state.specs.SetQuery.{CanScan}
use Rattle.scan_state.proofs.Chains.{step_admits, step_monotone, walked_admits, walked_worsens, started_admits}
use Rattle.scan_state.proofs.Chains.{started_monotone, started_worsens, chain_gives_way}
use Rattle.scan_state.proofs.Outdone.{outdone_worse, outdone_ride, outdone_down}
use Rattle.scan_state.proofs.Offers.{sure}
use Rattle.profile_scan.proofs.Listed.{cases_listed}
use Rattle.profile_scan.proofs.Times.{together_never_continue}
use Rattle.profile_scan.proofs.Ends.{until_matters_at_source}
use Rattle.scan_state.proofs.Admitted.{AreAdmitted, aboard_admits, covers_weaker}

module _ {V : Type 0} (rules : Rules V) (laws : Laws rules) (t : TimetableValue) (q : SetQueryValue) (can : CanScan t q) (i : ℕ) where
  -- leaving the trip at place i and ending after a walk of any length
  ending_covered : (Excused : V → Type 0) (bag labels : List (Point V)) (admitted : AreAdmitted rules labels)
      (open_covered : (way : Leaving V) → MayLeave t q i bag way → Covers rules labels 0 (leaving_value rules t i way)
      ⊎ MayNotChange Excused way)
      (walk : List Footpath) → IsWalk t (connection_at t i).to walk → Contains q.targets (walk_end (connection_at t i).to walk)
      → (connection_at t i).arr + walk_secs walk ≤ q.by
      → Covers rules labels 0 (walked rules walk (rules.arrive ((connection_at t i).arr + walk_secs walk)))
  ending_covered Excused bag labels admitted open_covered [] is at le =
      subst (λ (n : ℕ). Covers rules labels 0 (rules.arrive n)) (sym (add-zero (connection_at t i).arr)) (sure (open_covered ends (at, omega arith)))
  ending_covered Excused bag labels admitted open_covered (f ∷ fs) is at le =
      let c = connection_at t i in
      let small = can.in_time in
      let final : ℕ = c.arr + walk_secs (f ∷ fs) in
      let there = laws.arrive_admits final (omega arith) in
      let v = walked rules (f ∷ fs) (rules.arrive final) in
      let v_admitted : Admits rules v = walked_admits rules laws t can.limits c.to (f ∷ fs) (rules.arrive final) is there in
      elim (cases_listed q.targets c.to) [
        | inl e ↦
            let here = laws.arrive_admits c.arr (omega arith) in
            covers_weaker rules laws labels admitted 0 0 (rules.arrive c.arr) v here v_admitted (omega arith)
            (laws.transitive (rules.arrive c.arr) (rules.arrive final) v here there v_admitted
            (laws.arrive_monotone c.arr final (omega arith) (omega arith) (omega arith))
            (walked_worsens rules laws t can.limits c.to (f ∷ fs) (rules.arrive final) is there))
            (sure (open_covered ends (e, omega arith)))
        | inr other ↦
            let way = chain_gives_way rules laws t can.limits can.legal c.to f fs is in
            let h = way.0 in
            let instead = way.1 in
            let shorter = instead.no_longer in
            let soon : ℕ = c.arr + h.secs in
            let soon_there = laws.arrive_admits soon (omega arith) in
            let w = rules.walk h.secs (rules.arrive soon) in
            let w_admitted : Admits rules w = step_admits rules laws t can.limits h (rules.arrive soon) instead.is_footpath soon_there in
            covers_weaker rules laws labels admitted 0 0 w v w_admitted v_admitted (omega arith)
            (laws.transitive w (rules.walk h.secs (rules.arrive final)) v w_admitted
            (step_admits rules laws t can.limits h (rules.arrive final) instead.is_footpath there) v_admitted
            (step_monotone rules laws t can.limits h (rules.arrive soon) (rules.arrive final) instead.is_footpath
            soon_there there (laws.arrive_monotone soon final (omega arith) (omega arith) (omega arith)))
            (instead.no_worse (rules.arrive final) there))
            (sure (open_covered (ends_after h) (instead.is_footpath, instead.leaves, subst (Contains q.targets) (sym instead.leads) at, other, omega arith)))
      ]

  -- leaving it there and riding on later
  changing_onward : (x : Aboard) (ride : RideValue) (rides : List RideValue) → i < length t.connections
      → IsAboard t q i (connection_at t i).trip (record { last = i; walk = x.walk; rides = ride ∷ rides })
      → IsOnward t q (i + 1) (connection_at t i).to (connection_at t i).arr (record {
        walk = x.walk;
        rides =
            ride ∷ rides;
      })
  changing_onward x ride rides in_i a =
      let c = connection_at t i in
      let walks = a.walks (λ e. cc) in
      let rise = together_never_continue t can.legal in
      record {
        walks = walks;
        is_walk = a.is_walk;
        boards = rise.boards_later a.goal (walk_end c.to x.walk) (c.arr + walk_secs x.walk) i (ride ∷ rides) in_i (omega arith) (λ e. cc) a.leads;
        goal = a.goal;
        is_goal = a.is_goal;
        leads = a.leads;
        arrives = a.arrives;
      }

  -- labels cover a value, or the points found outdo it with the ride
  abbrev InLabels : List (Point V) → List (Point V) → V → Type 0
  InLabels found labels v = Covers rules labels 0 v ⊎ IsOutdone rules t found (i + 1) (rules.ride v)

  -- leaving it there, in whatever way
  leaving_covered : (found bag labels : List (Point V)) (found_admitted : AreAdmitted rules found)
      (admitted : AreAdmitted rules labels) (bag_admitted : AreAdmitted rules bag)
      (open_covered : (way : Leaving V) → MayLeave t q i bag way → Covers rules labels 0 (leaving_value rules t i way)
      ⊎ MayNotChange (IsOutdoneRidden rules t found i) way)
      (onward : (time : ℕ) (x : Onward) → IsOnward t q (i + 1) (connection_at t i).to time x
      → Covers rules bag time (onward_value rules t x) ⊎ IsOutdone rules t found (i + 1) (onward_value rules t x))
      (walk : List Footpath) (rides : List RideValue) → i < length t.connections
      → IsAboard t q i (connection_at t i).trip (record { last = i; walk = walk; rides = rides })
      → InLabels found labels (aboard_value rules t (record { last = i; walk = walk; rides = rides }))
  leaving_covered found bag labels found_admitted admitted bag_admitted open_covered onward walk [] in_i
      a = inl (ending_covered (IsOutdoneRidden rules t found i) bag labels admitted open_covered walk a.is_walk
      (subst (Contains q.targets) (sym a.leads) a.is_goal) a.arrives)
  leaving_covered found bag labels found_admitted admitted bag_admitted open_covered onward walk (ride ∷ rides) in_i a =
      let x : Aboard = record { last = i; walk = walk; rides = ride ∷ rides } in
      let v : V = aboard_value rules t x in
      let value_admitted : Admits rules v = aboard_admits rules laws t q can i (connection_at t i).trip x a in
      elim (onward (connection_at t i).arr (record { walk = walk; rides = ride ∷ rides }) (changing_onward x ride rides in_i a)) [
        | inl p ↦ elim (open_covered (changes p.0) (p.1, p.2)) [
          | inl is ↦ inl (covers_weaker rules laws labels admitted 0 0 p.0.value v (bag_admitted p.0 p.1) value_admitted
              (omega arith) p.3 is)
          | inr o ↦ inr (outdone_worse rules laws t found found_admitted (i + 1) (rules.ride p.0.value) (rules.ride v)
              (laws.ride_admits p.0.value (bag_admitted p.0 p.1)) (laws.ride_admits v value_admitted)
              (laws.ride_monotone p.0.value v (bag_admitted p.0 p.1) value_admitted p.3) o)
        ]
        | inr o ↦ inr (outdone_ride rules laws t found found_admitted (i + 1) v value_admitted o)
      ]

  -- labels that cover what follows in the trip later, and each open way to leave it at place i, cover all that follows from place i on, but for what is outdone
  pub labels_cover : (found bag labels : List (Point V)) (found_admitted : AreAdmitted rules found)
      (admitted : AreAdmitted rules labels) (bag_admitted : AreAdmitted rules bag)
      (later : (x : Aboard) → IsAboard t q (i + 1) (connection_at t i).trip x → InLabels found labels (aboard_value rules t x))
      (open_covered : (way : Leaving V) → (connection_at t i).alight ≡ true → MayLeave t q i bag way
      → Covers rules labels 0 (leaving_value rules t i way) ⊎ MayNotChange (IsOutdoneRidden rules t found i) way)
      (onward : (time : ℕ) (x : Onward) → IsOnward t q (i + 1) (connection_at t i).to time x
      → Covers rules bag time (onward_value rules t x) ⊎ IsOutdone rules t found (i + 1) (onward_value rules t x))
      (x : Aboard) → i < length t.connections → IsAboard t q i (connection_at t i).trip x → InLabels found labels (aboard_value rules t x)
  labels_cover found bag labels found_admitted admitted bag_admitted later open_covered onward x in_i a =
      elim (cases_lt i x.last) [
        | inl lt ↦ later x (record {
          later = omega arith;
          in_range = a.in_range;
          on_trip = a.on_trip;
          alights =
              a.alights;
          is_walk = a.is_walk;
          walks = a.walks;
          goal = a.goal;
          is_goal = a.is_goal;
          leads = a.leads;
          arrives = a.arrives;
        })
        | inr ge ↦
            let same : i ≡ x.last = let later_is = a.later in omega arith in
            let P : ℕ → Type 0 = λ n. IsAboard t q i (connection_at t i).trip (record {
              last = n;
              walk = x.walk;
              rides =
                  x.rides;
            }) → InLabels found labels (aboard_value rules t (record {
              last = n;
              walk = x.walk;
              rides =
                  x.rides;
            })) in
            let here : P i = λ at_i. leaving_covered found bag labels found_admitted admitted bag_admitted
            (λ way may. open_covered way at_i.alights may) onward x.walk x.rides in_i at_i in
            subst P same here a
      ]

  -- a label for rides that are boarded at place i
  record IsLabelFor (labels : List (Point V)) (v : V) (l : Point V) : Type 0 where
    pub is_label : Contains labels l
    pub no_worse : NoWorse rules l.value v

  -- rides that are boarded at place i: after their first leg comes what a label covers, or what is outdone
  record IsBoardedHere (found : List (Point V)) (stop time : ℕ) (labels : List (Point V)) (v : V) : Type 0 where
    pub admits : Admits rules v
    pub boards : (connection_at t i).board ≡ true
    pub stands : (connection_at t i).from ≡ stop
    pub waits : time ≤ (connection_at t i).dep
    pub label : ((l : Point V) × IsLabelFor labels v l) ⊎ IsOutdone rules t found (i + 1) (rules.ride v)

  label_of : (found labels : List (Point V)) (v : V) → InLabels found labels v
      → ((l : Point V) × IsLabelFor labels v l) ⊎ IsOutdone rules t found (i + 1) (rules.ride v)
  label_of found labels v (inl c) = inl (c.0, record { is_label = c.1; no_worse = c.3 })
  label_of found labels v (inr o) = inr o

  boarded_here : (found : List (Point V)) (stop time : ℕ) (labels : List (Point V)) (aboard : (x : Aboard)
      → IsAboard t q i (connection_at t i).trip x
      → InLabels found labels (aboard_value rules t x)) (ride : RideValue) (rides : List RideValue)
      → (goal : ℕ) → Contains q.targets goal → Leads t goal stop time (ride ∷ rides) → final_time t 0 (ride ∷ rides) ≤ q.by → i ≡ ride.leg.first
      → IsBoardedHere found stop time labels (walked rules ride.walk (ridden rules (final_time t 0 (ride ∷ rides)) rides))
  boarded_here found stop time labels aboard ride rides goal is_goal leads le e =
      let x : Aboard = record { last = ride.leg.last; walk = ride.walk; rides = rides } in
      let on : IsAboard t q i (connection_at t i).trip x = record {
        later = let rising = leads.0.rising in omega arith;
        in_range = leads.0.in_range;
        on_trip = sym (ap (λ (n : ℕ). (connection_at t n).trip) e ∙ leads.0.one_trip);
        alights = leads.0.alights;
        is_walk = leads.3;
        walks = leads.4;
        goal = goal;
        is_goal = is_goal;
        leads = leads.5;
        arrives = le;
      } in
      record {
        admits = aboard_admits rules laws t q can i (connection_at t i).trip x on;
        boards = ap (λ (n : ℕ). (connection_at t n).board) e ∙ leads.0.boards;
        stands = ap (λ (n : ℕ). (connection_at t n).from) e ∙ leads.1;
        waits = subst (λ (n : ℕ). time ≤ (connection_at t n).dep) (sym e) leads.2;
        label = label_of found labels (aboard_value rules t x) (aboard x on);
      }

  -- rides that are boarded at place i after a chain
  boarding_covered : (found : List (Point V)) (stop : ℕ) (labels new : List (Point V))
      (found_admitted : AreAdmitted rules found) (labels_admitted : AreAdmitted rules labels)
      (admitted : AreAdmitted rules new)
      (aboard : (x : Aboard) → IsAboard t q i (connection_at t i).trip x → InLabels found labels (aboard_value rules t x))
      (open_covered : (way : Boarding V) → MayBoard t i stop labels way
      → Covers rules new ((connection_at t i).dep - way.walk.secs)
      (rules.walk way.walk.secs (rules.ride way.label.value)) ⊎ IsOutdoneRidden rules t found i way.label.value)
      (time : ℕ) (walk : List Footpath) (ride : RideValue) (rides : List RideValue)
      → IsOnward t q i stop time (record { walk = walk; rides = ride ∷ rides }) → i ≡ ride.leg.first
      → Covers rules new time (onward_value rules t (record { walk = walk; rides = ride ∷ rides }))
      ⊎ IsOutdone rules t found i (onward_value rules t (record { walk = walk; rides = ride ∷ rides }))
  boarding_covered found stop labels new found_admitted labels_admitted admitted aboard open_covered time [] ride rides on e = absurd (on.walks refl)
  boarding_covered found stop labels new found_admitted labels_admitted admitted aboard open_covered time (f ∷ fs) ride rides on e =
      let here = boarded_here found (walk_end stop (f ∷ fs)) (time + walk_secs (f ∷ fs)) labels aboard ride rides on.goal on.is_goal on.leads on.arrives e in
      let way = chain_gives_way rules laws t can.limits can.legal stop f fs on.is_walk in
      let h = way.0 in
      let instead = way.1 in
      let shorter = instead.no_longer in
      let waits = here.waits in
      let v : V = walked rules ride.walk (ridden rules (final_time t 0 (ride ∷ rides)) rides) in
      let ride_v = laws.ride_admits v here.admits in
      let w : V = walked rules (f ∷ fs) (rules.ride v) in
      let whole : Admits rules w = walked_admits rules laws t can.limits stop (f ∷ fs) (rules.ride v) on.is_walk ride_v in
      let worse : NoWorse rules (rules.ride v) w = walked_worsens rules laws t can.limits stop (f ∷ fs) (rules.ride v) on.is_walk ride_v in
      let outdone : IsOutdone rules t found (i + 1) (rules.ride v) → IsOutdone rules t found i w =
      λ o. outdone_down rules laws t found i w whole
      (outdone_worse rules laws t found found_admitted (i + 1) (rules.ride v) w ride_v whole worse o) in
      elim here.label [
        | inr o ↦ inr (outdone o)
        | inl (l, label) ↦ (
            let l_admitted = labels_admitted l label.is_label in
            let ride_l = laws.ride_admits l.value l_admitted in
            let better = laws.ride_monotone l.value v l_admitted here.admits label.no_worse in
            let candidate = step_admits rules laws t can.limits h (rules.ride l.value) instead.is_footpath ride_l in
            elim (open_covered (record { walk = h; label = l }) (record {
              boards = here.boards;
              is_footpath = instead.is_footpath;
              leaves = instead.leaves;
              leads = instead.leads ∙ sym here.stands;
              fits = omega arith;
              is_label = label.is_label;
            })) [
              | inr o ↦ inr (outdone (outdone_worse rules laws t found found_admitted (i + 1) (rules.ride l.value) (rules.ride v) ride_l ride_v better o))
              | inl is ↦ inl (covers_weaker rules laws new admitted ((connection_at t i).dep - h.secs) time
                  (rules.walk h.secs (rules.ride l.value)) w candidate whole (omega arith)
                  (laws.transitive (rules.walk h.secs (rules.ride l.value)) (rules.walk h.secs (rules.ride v)) w
                  candidate (step_admits rules laws t can.limits h (rules.ride v) instead.is_footpath ride_v) whole
                  (step_monotone rules laws t can.limits h (rules.ride l.value) (rules.ride v) instead.is_footpath ride_l ride_v better)
                  (instead.no_worse (rules.ride v) ride_v)) is)
            ])
      ]

  -- a bag that covers what follows later, and each boarding of place i, covers all that follows from place i on, but for what is outdone
  pub bag_covers : (found : List (Point V)) (stop : ℕ) (labels new : List (Point V))
      (found_admitted : AreAdmitted rules found) (labels_admitted : AreAdmitted rules labels)
      (admitted : AreAdmitted rules new)
      (aboard : (x : Aboard) → IsAboard t q i (connection_at t i).trip x → InLabels found labels (aboard_value rules t x))
      (later : (time : ℕ) (x : Onward) → IsOnward t q (i + 1) stop time x
      → Covers rules new time (onward_value rules t x) ⊎ IsOutdone rules t found i (onward_value rules t x))
      (open_covered : (way : Boarding V) → MayBoard t i stop labels way
      → Covers rules new ((connection_at t i).dep - way.walk.secs)
      (rules.walk way.walk.secs (rules.ride way.label.value)) ⊎ IsOutdoneRidden rules t found i way.label.value)
      (time : ℕ) (walk : List Footpath) (rides : List RideValue) → IsOnward t q i stop time (record { walk = walk; rides = rides })
      → Covers rules new time (onward_value rules t (record { walk = walk; rides = rides }))
      ⊎ IsOutdone rules t found i (onward_value rules t (record { walk = walk; rides = rides }))
  bag_covers found stop labels new found_admitted labels_admitted admitted aboard later open_covered time walk [] on = absurd on.boards
  bag_covers found stop labels new found_admitted labels_admitted admitted aboard later open_covered time walk (ride ∷ rides) on =
      elim (cases_lt i ride.leg.first) [
        | inl lt ↦ later time (record { walk = walk; rides = ride ∷ rides }) (record {
          walks = on.walks;
          is_walk =
              on.is_walk;
          boards = omega arith;
          goal = on.goal;
          is_goal = on.is_goal;
          leads = on.leads;
          arrives = on.arrives;
        })
        | inr ge ↦ boarding_covered found stop labels new found_admitted labels_admitted admitted aboard
            open_covered time walk ride rides on (let from = on.boards in omega arith)
      ]

  -- points found that cover the journeys boarded later, and each way to set out at place i, cover all journeys boarded from place i on
  pub found_covers : (labels new : List (Point V)) (labels_admitted : AreAdmitted rules labels) (admitted : AreAdmitted rules new)
      (aboard : (x : Aboard) → IsAboard t q i (connection_at t i).trip x → InLabels new labels (aboard_value rules t x))
      (later : (departure : ℕ) (j : JourneyValue) → CountsFrom t q (i + 1) departure j → Covers rules new departure (journey_value rules t j))
      (open_covered : (way : SettingOut V) → MaySetOut t q i labels way
      → Covers rules new ((connection_at t i).dep - start_secs way.start)
      (started rules way.start (rules.ride way.label.value)))
      (departure : ℕ) (start : Option Footpath) (rides : List RideValue)
      → CountsFrom t q i departure (record { start = start; rides = rides })
      → Covers rules new departure (journey_value rules t (record { start = start; rides = rides }))
  found_covers labels new labels_admitted admitted aboard later open_covered departure start [] c = absurd c.boards
  found_covers labels new labels_admitted admitted aboard later open_covered departure start (ride ∷ rides) c =
      elim (cases_lt i ride.leg.first) [
        | inl lt ↦ later departure (record { start = start; rides = ride ∷ rides }) (record { counts = c.counts; boards = omega arith })
        | inr ge ↦
            let e : i ≡ ride.leg.first = let from = c.boards in omega arith in
            let pair = c.counts.pair in
            let counts = c.counts.counts in
            let here = boarded_here new (start_end pair.source start) 0 labels aboard ride rides pair.target pair.is_target counts.journey.leads
            counts.arrives e in
            let departs : departure + start_secs start ≡ (connection_at t i).dep = counts.departs ∙ ap (λ (n : ℕ). (connection_at t n).dep) (sym e) in
            let early = counts.not_early in
            let late = until_matters_at_source.is_cut t q departure (record { start = start; rides = ride ∷ rides }) c.counts in
            let v : V = walked rules ride.walk (ridden rules (final_time t 0 (ride ∷ rides)) rides) in
            let ride_v = laws.ride_admits v here.admits in
            let whole = started_admits rules laws t can.limits pair.source start (rules.ride v) counts.journey.starts ride_v in
            elim here.label [
              | inr o ↦ (
                  let in_time = o.in_time i (omega arith) in
                  covers_weaker rules laws new admitted o.by.departure departure (rules.ride v) (started rules start (rules.ride v)) ride_v whole (omega arith)
                  (started_worsens rules laws t can.limits pair.source start (rules.ride v) counts.journey.starts ride_v)
                  (o.by, o.is_found, omega arith, o.no_worse))
              | inl (l, label) ↦ (
                  let l_admitted = labels_admitted l label.is_label in
                  let ride_l = laws.ride_admits l.value l_admitted in
                  covers_weaker rules laws new admitted ((connection_at t i).dep - start_secs start) departure
                  (started rules start (rules.ride l.value)) (started rules start (rules.ride v))
                  (started_admits rules laws t can.limits pair.source start (rules.ride l.value) counts.journey.starts ride_l)
                  whole
                  (omega arith)
                  (started_monotone rules laws t can.limits pair.source start (rules.ride l.value) (rules.ride v)
                  counts.journey.starts ride_l ride_v
                  (laws.ride_monotone l.value v l_admitted here.admits label.no_worse))
                  (open_covered (record { start = start; label = l }) (record {
                    boards = here.boards;
                    source = pair.source;
                    is_source = pair.is_source;
                    is_start =
                        counts.journey.starts;
                    leads = sym here.stands;
                    fits = omega arith;
                    not_early =
                        omega arith;
                    not_late = omega arith;
                    is_label = label.is_label;
                  })))
            ]
      ]
