-- A timetable of one connection: the wrong steps are refuted on it, and the right one leads to its answer.
use Rattle.std.proofs.Common.{◌≡◌, ◌≢◌, ◌⊎◌, ℕ, zero, suc, ◌+◌, ◌-◌, ◌<◌, ◌≤◌, List, [], ◌∷◌, Contains, Option, Some}
use Rattle.std.proofs.Common.{None, arith, refl, sym, ◌∙◌, ap, subst, inl, inr, get_or, rules as std_rules}
use Rattle.std.proofs.lemmas.Option.{same_Some}
use Rattle.reasoning.proofs.ListLemmas.{contains_first, contains_only, not_in_nil}
use Rattle.criteria.specs.Laws.{Rules, Laws, Admits}
use Rattle.bags.specs.Dominance.{IsBag}
use Rattle.bags.specs.declared.point.Point.{Point}
use Rattle.timetable.specs.declared.network.Connection.{Connection}
use Rattle.timetable.specs.declared.network.Footpath.{Footpath}
use Rattle.timetable.specs.JourneyValue.{RideValue, JourneyValue}
use Rattle.timetable.specs.Journeys.{connection_at, walk_end, walk_secs, Leads, IsStart, start_end, start_secs, Counts}
use Rattle.timetable.specs.Legal.{At, HasFootpath, IsLegal}
use Rattle.timetable.specs.Limits.{IsWithinLimits}
use Rattle.timetable.specs.TimetableValue.{TimetableValue}
use Rattle.scan_state.specs.SetQuery.{SetQueryValue, CountsBetween, single_set_query}
use Rattle.scan_state.specs.Values.{started}
use Rattle.scan_state.specs.Points.{Covers, IsAnswer}
use Rattle.sources.specs.FirstAt.{IsFirstAt}
use Rattle.scan_state.specs.Continuations.{Onward, Aboard, IsOnward}
use Rattle.scan_state.specs.Matching.{Spelling, Spellings, Keeps, from_to, ScanValue, MatchesFrom}
use Rattle.scan_state.specs.Steps.{Offer, TakesIn, IsOffered, Leaving, ends, ends_after, changes, MayLeave}
use Rattle.scan_state.specs.Steps.{leaving_value, leavings, boarded, Boarding, MayBoard, boardings, SettingOut}
use Rattle.scan_state.specs.Steps.{settings_out, IsStep}
use Rattle.scan_state.specs.SetQuery.{CanScan}
use Rattle.profile_scan.specs.LawStatements.{OneIndexDown, CutIsTheSources}
use Rattle.tests_scan.specs.Examples.{one_hop, over_one_hop, with_loops, asked, by_change, ride, footpath}
use Rattle.tests_scan.specs.WrongSteps.{IsStepWith, cut_boardings, IsStepWithBagCut, loop_starts, LeavesSource}
use Rattle.tests_scan.specs.WrongSteps.{MayBoardAtOnce, at_once_departure, at_once_value, IsStepWithLoopStart}
use Rattle.tests_scan.specs.WrongSteps.{Unchanged, on_foot, at_once, at_once_boardings, IsStepWithoutChange}
use Rattle.tests_scan.specs.WrongSteps.{CountsLegByLeg}
use Rattle.profile_scan.proofs.Ends.{nothing_follows}
use Rattle.profile_scan.proofs.StepLemmas.{one_index_down}
use Rattle.scan_state.proofs.Offers.{takes_but}
use Rattle.profile_scan.proofs.Answer.{match_is_the_answer}
use Rattle.profile_scan.proofs.Single.{answer_from, to_one}

-- a step that leaves nothing out is a right one
pub leaving_nothing_out : {V : Type 0} (rules : Rules V) (t : TimetableValue) (q : SetQueryValue) (tags : Spellings) (i : ℕ) (old new : ScanValue V)
    → IsStepWith rules t q tags i (λ now. boardings rules t now i) (λ now. settings_out rules t q now i) old new → IsStep rules t q tags i old new
leaving_nothing_out rules t q tags i old new step = record {
  between = step.between;
  kept_first = step.kept_first;
  kept_then = step.kept_then;
  leaves = takes_but rules _ (leavings rules t q (from_to tags.earlier step.between) i (old.bag (connection_at t i).to))
      (old.labels (connection_at t i).trip) (new.labels (connection_at t i).trip) step.leaves;
  other_trips = step.other_trips;
  boards = λ stop lt. takes_but rules _ (boardings rules t (from_to step.between tags.later) i stop (new.labels (connection_at t i).trip))
      (old.bag stop) (new.bag stop) (step.boards stop lt);
  sets_out = step.sets_out;
}

abbrev long_loop : Footpath
long_loop = record { from = 0; to = 0; secs = 60 }

abbrev short_loop : Footpath
short_loop = record { from = 1; to = 1; secs = 0 }

-- its footpaths are two loops
its_footpaths : (f : Footpath) → Contains one_hop.footpaths f → (f ≡ long_loop) ⊎ (f ≡ short_loop)
its_footpaths f (zero, lt, is) = inl (sym is)
its_footpaths f (suc zero, lt, is) = inr (sym is)
its_footpaths f (suc (suc k), lt, is) = absurd (omega arith)

-- what stands in a list of one or two
at_one : {X : Type 0} (x y : X) (i : ℕ) → At (x ∷ []) i y → (i ≡ 0) × (x ≡ y)
at_one x y zero is = (refl, same_Some x y is)
at_one x y (suc i) is = absurd cc

pub at_two : {X : Type 0} (x y z : X) (i : ℕ) → At (x ∷ y ∷ []) i z → ((i ≡ 0) × (x ≡ z)) ⊎ ((i ≡ 1) × (y ≡ z))
at_two x y z zero is = inl (refl, same_Some x z is)
at_two x y z (suc i) is = let rest = at_one y z i is in inr (omega (arith, rest.0), rest.1)

-- where a footpath between two stops stands
its_pairs : (from to secs : ℕ) → HasFootpath one_hop.footpaths from to secs → ((from ≡ 0) × (to ≡ 0) × (secs ≡ 60)) ⊎ ((from ≡ 1) × (to ≡ 1) × (secs ≡ 0))
its_pairs from to secs is = elim (at_two long_loop short_loop (record { from = from; to = to; secs = secs }) is.0 is.1) [
  | inl e ↦ inl (ap (λ (f : Footpath). f.from) (sym e.1), ap (λ (f : Footpath). f.to) (sym e.1), ap (λ (f : Footpath). f.secs) (sym e.1))
  | inr e ↦ inr (ap (λ (f : Footpath). f.from) (sym e.1), ap (λ (f : Footpath). f.to) (sym e.1), ap (λ (f : Footpath). f.secs) (sym e.1))
]

abbrev its_connection : Connection
its_connection = connection_at one_hop 0

pub one_hop_legal : IsLegal one_hop
one_hop_legal = record {
  stops_in_range = λ i c at. let e = (at_one its_connection c i at).1 in subst (λ (x : Connection). (x.from < 2) × (x.to < 2)) e (omega arith, omega arith);
  trips_in_range = λ i c at. let e = (at_one its_connection c i at).1 in subst (λ (x : Connection). x.trip < 1) e (omega arith);
  ends_in_range = λ i f at. elim (at_two long_loop short_loop f i at) [
    | inl e ↦ subst (λ (x : Footpath). (x.from < 2) × (x.to < 2)) e.1 (omega arith, omega arith)
    | inr e ↦ subst (λ (x : Footpath). (x.from < 2) × (x.to < 2)) e.1 (omega arith, omega arith)
  ];
  takes_time = λ i c at. let e = (at_one its_connection c i at).1 in subst (λ (x : Connection). x.dep < x.arr) e (omega arith);
  departures_never_fall = λ i c d at_c at_d. let low = (at_one its_connection d (i + 1) at_d).0 in absurd (omega arith);
  unbroken = λ i j c d is.
      let first = (at_one its_connection c i is.first).0 in
      let second = (at_one its_connection d j is.second).0 in
      let before = is.before in
      absurd (omega arith);
  in_order = λ i d e at_d at_e. elim (at_two long_loop short_loop e (i + 1) at_e) [
    | inl f ↦ absurd (omega (arith, f.0))
    | inr f ↦ elim (at_two long_loop short_loop d i at_d) [
      | inl g ↦ subst (λ (x : Footpath). (d.to ≤ x.to)
          × (d.to ≡ x.to → d.from < x.from)) f.1 (subst (λ (x : Footpath). (x.to ≤ 1)
          × (x.to ≡ 1 → x.from < 1)) g.1 (omega arith, λ e. omega arith))
      | inr g ↦ absurd (omega (arith, f.0, g.0))
    ]
  ];
  loops = λ s in_s. elim (two_stops s in_s) [
    | inl e ↦
        (60, subst (λ (n : ℕ). HasFootpath one_hop.footpaths n n 60) (sym e) (0, refl))
    | inr e ↦
        (0, subst (λ (n : ℕ). HasFootpath one_hop.footpaths n n 0) (sym e) (1, refl))
  ];
  closed = λ a b c d1 d2 first second. elim (its_pairs a b d1 first) [
    | inl e ↦ elim (its_pairs b c d2 second) [
      | inl f ↦ (
        60,
        subst (λ (n : ℕ). HasFootpath one_hop.footpaths n c 60) (sym e.0)
            (subst (λ (n : ℕ). HasFootpath one_hop.footpaths 0 n 60) (sym f.1) (0, refl)),
        omega (arith, e.2, f.2),
      )
      | inr f ↦ absurd (omega (arith, e.1, f.0))
    ]
    | inr e ↦ elim (its_pairs b c d2 second) [
      | inl f ↦ absurd (omega (arith, e.1, f.0))
      | inr f ↦ (
        0,
        subst (λ (n : ℕ). HasFootpath one_hop.footpaths n c 0) (sym e.0)
            (subst (λ (n : ℕ). HasFootpath one_hop.footpaths 1 n 0) (sym f.1) (1, refl)),
        omega arith,
      )
    ]
  ];
}
  where
    two_stops : (s : ℕ) → s < 2 → (s ≡ 0) ⊎ (s ≡ 1)
    two_stops zero lt = inl refl
    two_stops (suc zero) lt = inr refl
    two_stops (suc (suc s)) lt = absurd (omega arith)

pub one_hop_within : IsWithinLimits one_hop
one_hop_within = record {
  stops = omega arith;
  trips = omega arith;
  connections = omega arith;
  footpaths = omega arith;
  times = λ i c at. let e = (at_one its_connection c i at).1 in subst (λ (x : Connection). x.arr < 2000000000) e (omega arith);
  walks = λ i f at. elim (at_two long_loop short_loop f i at) [
    | inl e ↦ subst (λ (x : Footpath). x.secs ≤ 1000000) e.1 (omega arith)
    | inr e ↦ subst (λ (x : Footpath). x.secs ≤ 1000000) e.1 (omega arith)
  ];
}

-- legs over it are boarded at its one connection
boards_at_zero : (goal stop time : ℕ) (ride : RideValue) (rides : List RideValue) → Leads one_hop goal stop time (ride ∷ rides) → ride.leg.first ≡ 0
boards_at_zero goal stop time ride rides leads = let rising = leads.0.rising in let in_range = leads.0.in_range in omega arith

can_scan : (until : ℕ) → CanScan one_hop (single_set_query (over_one_hop until))
can_scan until = record { legal = one_hop_legal; limits = one_hop_within; in_time = omega arith }

past_the_end : IsFirstAt one_hop 1000 1
past_the_end = record {
  in_range = omega arith;
  before = λ k lt. let first : 0 ≡ k = omega arith in subst (λ (n : ℕ). (connection_at one_hop n).dep < 1000) first (omega arith);
  after = λ k le lt. absurd (omega arith);
}

-- in the trip, one gets off where its one connection ends, which is the target
abbrev one_stop : Aboard
one_stop = record { last = 0; walk = []; rides = [] }

-- how one goes on to board it, at once or after the loop; and journeys with no start, or with the loop as one
abbrev going_on : ℕ → Onward
going_on zero = record { walk = []; rides = boarded 0 one_stop }
going_on (suc n) = record { walk = long_loop ∷ []; rides = boarded 0 one_stop }

abbrev setting_out : ℕ → JourneyValue
setting_out zero = record { start = None; rides = boarded 0 one_stop }
setting_out (suc n) = record { start = Some long_loop; rides = boarded 0 one_stop }

-- tags that spell all that: 0 at once, others by the loop
abbrev spoken : Spelling
spoken = record { onward = λ tag. Some (going_on tag); aboard = λ _. Some one_stop; journey = λ tag. Some (setting_out tag) }

abbrev turn : Spellings
turn = from_to spoken spoken

spoken_stays : Keeps spoken spoken
spoken_stays = record { onward = λ tag x e. e; aboard = λ tag x e. e; journey = λ tag j e. e }

-- nothing else is spelled in the trip
the_label : (x : Aboard) → Some one_stop ≡ Some x → one_stop ≡ x
the_label x e = same_Some one_stop x e

goes_on : (walk : List Footpath) (x : Aboard) → Some one_stop ≡ Some x → Some (let y : Onward =
    record {
      walk = walk;
      rides =
          boarded 0 one_stop;
    } in
    y) ≡ Some (record {
      walk =
          walk;
      rides = boarded 0 x;
    })
goes_on walk x e = ap (λ (z : Aboard). Some (let y : Onward = record { walk = walk; rides = boarded 0 z } in y)) (the_label x e)

sets_out : (start : Option Footpath) (x : Aboard) → Some one_stop ≡ Some x → Some (let y : JourneyValue =
    record {
      start = start;
      rides =
          boarded 0 one_stop;
    } in
    y) ≡ Some (record {
      start =
          start;
      rides = boarded 0 x;
    })
sets_out start x e = ap (λ (z : Aboard). Some (let y : JourneyValue = record { start = start; rides = boarded 0 z } in y)) (the_label x e)

two_in : {X : Type 0} (x y z : X) → Contains (x ∷ y ∷ []) z → (x ≡ z) ⊎ (y ≡ z)
two_in x y z (zero, lt, is) = inl is
two_in x y z (suc zero, lt, is) = inr is
two_in x y z (suc (suc k), lt, is) = absurd (omega arith)

-- no footpath leads from another stop to the connection
only_from_zero : (f : Footpath) → Contains one_hop.footpaths f → f.to ≡ 0 → f ≡ long_loop
only_from_zero f is at = elim (its_footpaths f is) [
  | inl e ↦ e
  | inr e ↦ (let to : f.to ≡ 1 = ap (λ (x : Footpath). x.to) e in absurd (omega arith))
]

module _ {V : Type 0} (rules : Rules V) (laws : Laws rules) where
  abbrev ridden_once : V
  ridden_once = rules.ride (rules.arrive 200)

  abbrev walked_once : V
  walked_once = rules.walk 60 (rules.ride (rules.arrive 200))

  -- the label of its trip; at the source after the loop, and at the source itself
  abbrev label : Point V
  label = record { departure = 0; value = rules.arrive 200; tag = 0 }

  abbrev on_loop : Point V
  on_loop = record { departure = 40; value = walked_once; tag = 1 }

  abbrev at_stop : Point V
  at_stop = record { departure = 100; value = ridden_once; tag = 0 }

  arrive_admitted : Admits rules (rules.arrive 200)
  arrive_admitted = laws.arrive_admits 200 (omega arith)

  pub covers_itself : (points : List (Point V)) (p : Point V) → Contains points p → Admits rules p.value → Covers rules points p.departure p.value
  covers_itself points p is a = (p, is, omega arith, laws.reflexive p.value a)

  ridden_admitted : Admits rules ridden_once
  ridden_admitted = laws.ride_admits (rules.arrive 200) arrive_admitted

  walked_admitted : Admits rules walked_once
  walked_admitted = laws.walk_admits 60 ridden_once (omega arith) ridden_admitted

  -- points at stop 0, or in trip 0, alone
  abbrev pub at_zero : List (Point V) → ℕ → List (Point V)
  at_zero points zero = points
  at_zero points (suc n) = []

  abbrev pub nothing : ScanValue V
  nothing = record { bag = λ _. []; labels = λ _. []; found = [] }

  -- a list that takes in an offer of nothing, or comes from nothing
  pub takes_none : {A : Type 0} (offer : Offer A V) → ((way : A) → offer.is_open way → ⊥) → TakesIn rules offer [] []
  takes_none offer none = record { only = λ p is. inl is; kept = λ d v a c. c; covered = λ way open_way. absurd (none way open_way) }

  pub takes_from_nothing : {A : Type 0} (offer : Offer A V) (points : List (Point V))
      → ((p : Point V) → Contains points p → IsOffered offer p)
      → ((way : A) → offer.is_open way → Covers rules points (offer.departure way) (offer.value way))
      → TakesIn rules offer [] points
  takes_from_nothing offer points offered covered =
      record { only = λ p is. inr (offered p is); kept = λ d v a c. absurd (not_in_nil c.0 c.1); covered = covered }

  leaves_by_end : (until : ℕ) → TakesIn rules (leavings rules one_hop (single_set_query (over_one_hop until)) turn 0 []) [] (label ∷ [])
  leaves_by_end until = takes_from_nothing (leavings rules one_hop (single_set_query (over_one_hop until)) turn 0 []) (label ∷ [])
      (λ p is. subst (IsOffered (leavings rules one_hop (single_set_query (over_one_hop until)) turn 0 []))
      (sym (contains_only label p is)) (record {
        way = ends;
        is_open = (refl, (contains_first 1 [], omega arith));
        departs =
            refl;
        worth = refl;
        fits = refl;
      }))
      (λ way open_way. by_way way open_way.1)
    where
      by_way : (way : Leaving V) → MayLeave one_hop (single_set_query (over_one_hop until)) 0 [] way → Covers rules (label ∷ []) 0
          (leaving_value rules one_hop 0 way)
      by_way ends may = covers_itself (label ∷ []) label (zero, omega arith, refl) arrive_admitted
      by_way (ends_after f) may = absurd (may.3 (contains_first 1 []))
      by_way (changes p) may = absurd (not_in_nil p may.0)

  other_trips : (trip : ℕ) → trip ≢ 0 → at_zero (label ∷ []) trip ≡ []
  other_trips zero other = absurd (other refl)
  other_trips (suc n) other = refl

  -- a step that leaves the trip by its end alone, whatever it offers to the bags and to the points found
  stepped : {A B : Type 0} (until : ℕ) (to_bag : Spellings → ℕ → List (Point V) → Offer A V) (to_found : Spellings → List (Point V) → Offer B V)
      (bag : ℕ → List (Point V)) (found : List (Point V))
      → ((stop : ℕ) → TakesIn rules (to_bag turn stop (label ∷ [])) [] (bag stop)) → TakesIn rules (to_found turn (label ∷ [])) [] found
      → IsStepWith rules one_hop (single_set_query (over_one_hop until)) turn 0 to_bag to_found nothing
      (record { bag = bag; labels = at_zero (label ∷ []); found = found })
  stepped until to_bag to_found bag found boards sets_out = record {
    between = spoken;
    kept_first = spoken_stays;
    kept_then = spoken_stays;
    leaves = leaves_by_end until;
    other_trips = other_trips;
    boards = λ stop in_stops. boards stop;
    sets_out = sets_out;
  }

  -- a law that the steps of one kind keep matches would tell of what such a step makes of nothing
  after_step : (Step : TimetableValue → SetQueryValue → Spellings → ℕ → ScanValue V → ScanValue V → Type 0)
      → OneIndexDown rules Step → (until : ℕ) (new : ScanValue V) → Step one_hop (single_set_query (over_one_hop until)) turn 0 nothing new
      → MatchesFrom rules one_hop (single_set_query (over_one_hop until)) spoken 0 new
  after_step Step law until new step =
      law one_hop (single_set_query (over_one_hop until)) (can_scan until) turn 0 (omega arith) nothing new
      (nothing_follows rules one_hop (single_set_query (over_one_hop until)) (can_scan until) 1 past_the_end spoken) step

  -- the source's bag, cut at 30, lacks who may leave at 40 to come to the target
  abbrev cut_bag : ScanValue V
  cut_bag = record { bag = λ _. []; labels = at_zero (label ∷ []); found = [] }

  pub bag_cut_is_wrong : OneIndexDown rules (IsStepWithBagCut rules) → ⊥
  bag_cut_is_wrong law =
      let q = single_set_query (over_one_hop 30) in
      let offer : ℕ → Offer (Boarding V) V = λ stop. cut_boardings rules one_hop q turn 0 stop (label ∷ []) in
      let boards : (stop : ℕ) → TakesIn rules (offer stop) [] [] = λ stop. takes_none (offer stop) (λ way may.
      let e = only_from_zero way.walk may.0.is_footpath may.0.leads in
      let secs : way.walk.secs ≡ 60 = ap (λ (f : Footpath). f.secs) e in
      let stop_is : stop ≡ 0 = sym may.0.leaves ∙ ap (λ (f : Footpath). f.from) e in
      let late = may.1 (subst (Contains (0 ∷ [])) (sym stop_is) (contains_first 0 [])) in
      omega arith) in
      let sets_out = takes_none (settings_out rules one_hop q turn 0 (label ∷ [])) (λ way may.
      let source_is : may.source ≡ 0 = contains_only 0 may.source may.is_source in
      by_start way.start (subst (λ (s : ℕ). IsStart one_hop s way.start) source_is may.is_start)
      (subst (λ (s : ℕ). start_end s way.start ≡ 0) source_is may.leads) may.not_late) in
      let matched = after_step (IsStepWithBagCut rules) law 30 cut_bag
      (stepped 30 (λ now. cut_boardings rules one_hop q now 0) (λ now. settings_out rules one_hop q now 0) cut_bag.bag [] boards sets_out) in
      let onward : Onward = record { walk = long_loop ∷ []; rides = record { leg = record { first = 0; last = 0 }; walk = [] } ∷ [] } in
      let is_onward : IsOnward one_hop q 0 0 40 onward = record {
        walks = λ e. cc;
        is_walk = ((zero, omega arith, refl), refl, tt);
        boards = omega arith;
        goal = 1;
        is_goal = contains_first 1 [];
        leads = (
          record {
            rising = omega arith;
            in_range = omega arith;
            one_trip = refl;
            boards = refl;
            alights =
                refl;
          },
          refl,
          omega arith,
          tt,
          λ some. absurd (some refl),
          refl,
        );
        arrives = omega arith;
      } in
      elim ((matched.at_stops 0 (omega arith)).complete 40 onward is_onward) [
        | inl covered ↦ not_in_nil covered.0 covered.1
        | inr outdone ↦ not_in_nil outdone.by outdone.is_found
      ]
    where
      by_start : (start : Option Footpath) → IsStart one_hop 0 start → start_end 0 start ≡ 0 → 100 - start_secs start ≤ 30 → ⊥
      by_start None is leads late = omega arith
      by_start (Some f) is leads late = is.2 leads

  loop_is_open : MayBoard one_hop 0 0 (label ∷ []) (record { walk = long_loop; label = label })
  loop_is_open = record {
    boards = refl;
    is_footpath = (zero, omega arith, refl);
    leaves = refl;
    leads = refl;
    fits =
        omega arith;
    is_label = (zero, omega arith, refl);
  }

  by_loop : IsOffered (boardings rules one_hop turn 0 0 (label ∷ [])) on_loop
  by_loop = record {
    way = record { walk = long_loop; label = label };
    is_open = loop_is_open;
    departs = refl;
    worth = refl;
    fits = goes_on (long_loop ∷ []);
  }

  loop_covered : (points : List (Point V)) → Contains points on_loop → (way : Boarding V)
      → MayBoard one_hop 0 0 (label ∷ []) way
      → Covers rules points (100 - way.walk.secs) (rules.walk way.walk.secs (rules.ride way.label.value))
  loop_covered points is way may =
      let e = only_from_zero way.walk may.is_footpath may.leads in
      subst (λ (f : Footpath). Covers rules points (100 - f.secs) (rules.walk f.secs (rules.ride way.label.value))) (sym e)
      (subst (λ (l : Point V). Covers rules points 40 (rules.walk 60 (rules.ride l.value)))
      (sym (contains_only label way.label may.is_label)) (covers_itself points on_loop is walked_admitted))

  elsewhere : (n : ℕ) (way : Boarding V) → MayBoard one_hop 0 (suc n) (label ∷ []) way → ⊥
  elsewhere n way may =
      let e = only_from_zero way.walk may.is_footpath may.leads in
      let stop_is : suc n ≡ 0 = sym may.leaves ∙ ap (λ (f : Footpath). f.from) e in
      omega arith

  -- a bag that is offered the label after the loop
  takes_loop : (stop : ℕ) → TakesIn rules (boardings rules one_hop turn 0 stop (label ∷ [])) [] (at_zero (on_loop ∷ []) stop)
  takes_loop zero = takes_from_nothing (boardings rules one_hop turn 0 0 (label ∷ [])) (on_loop ∷ [])
      (λ p is. subst (IsOffered (boardings rules one_hop turn 0 0 (label ∷ []))) (sym (contains_only on_loop p is)) by_loop)
      (λ way may. loop_covered (on_loop ∷ []) (zero, omega arith, refl) way may)
  takes_loop (suc n) = takes_none (boardings rules one_hop turn 0 (suc n) (label ∷ [])) (λ way may. elsewhere n way may)

  at_stop_covered : (points : List (Point V)) → Contains points at_stop → (l : Point V) → Contains (label ∷ []) l → Covers rules points 100 (rules.ride l.value)
  at_stop_covered points is l in_labels = subst (λ (k : Point V). Covers rules points 100 (rules.ride k.value))
      (sym (contains_only label l in_labels)) (covers_itself points at_stop is ridden_admitted)

  -- a start by the loop is found to depart at 40, and no journey does
  no_journey_at_40 : (until : ℕ) (start : Option Footpath) (rides : List RideValue)
      → CountsBetween one_hop (single_set_query (over_one_hop until)) 40 (record { start = start; rides = rides }) → ⊥
  no_journey_at_40 until start [] c = c.counts.journey.has_rides refl
  no_journey_at_40 until None (ride ∷ rides) c =
      let first = boards_at_zero c.pair.target c.pair.source 0 ride rides c.counts.journey.leads in
      let departs : 40 + 0 ≡ 100 = c.counts.departs ∙ ap (λ (n : ℕ). (connection_at one_hop n).dep) first in
      omega arith
  no_journey_at_40 until (Some f) (ride ∷ rides) c =
      let starts = c.counts.journey.starts in
      let source_is : c.pair.source ≡ 0 = contains_only 0 c.pair.source c.pair.is_source in
      elim (its_footpaths f starts.0) [
        | inl e ↦ starts.2 (ap (λ (x : Footpath). x.to) e ∙ sym source_is)
        | inr e ↦ (let from : f.from ≡ 1 = ap (λ (x : Footpath). x.from) e in let source = starts.1 in omega arith)
      ]

  abbrev loop_start : ScanValue V
  loop_start = record { bag = at_zero (on_loop ∷ []); labels = at_zero (label ∷ []); found = at_stop ∷ on_loop ∷ [] }

  pub loop_start_is_wrong : OneIndexDown rules (IsStepWithLoopStart rules) → ⊥
  loop_start_is_wrong law =
      let q = single_set_query (over_one_hop 1000) in
      let offer : Offer (SettingOut V) V = loop_starts rules one_hop q turn 0 (label ∷ []) in
      let sets_out = takes_from_nothing (loop_starts rules one_hop q turn 0 (label ∷ [])) (at_stop ∷ on_loop ∷ [])
      (λ p is. elim (two_in at_stop on_loop p is) [
        | inl e ↦ subst (IsOffered (loop_starts rules one_hop q turn 0 (label ∷ []))) e (record {
          way =
              record { start = None; label = label };
          is_open =
              record {
                boards = refl;
                source = 0;
                is_source = contains_first 0 [];
                is_start = tt;
                leads = refl;
                fits = omega arith;
                not_early = omega arith;
                not_late =
                    omega arith;
                is_label = (zero, omega arith, refl);
              };
          departs = refl;
          worth = refl;
          fits = sets_out None;
        })
        | inr e ↦ subst (IsOffered (loop_starts rules one_hop q turn 0 (label ∷ []))) e (record {
          way =
              record { start = Some long_loop; label = label };
          is_open =
              record {
                boards = refl;
                source = 0;
                is_source = contains_first 0 [];
                is_start = ((zero, omega arith, refl), refl);
                leads = refl;
                fits =
                    omega arith;
                not_early = omega arith;
                not_late = omega arith;
                is_label =
                    (zero, omega arith, refl);
              };
          departs = refl;
          worth = refl;
          fits = sets_out (Some long_loop);
        })
      ])
      (λ way may.
      let source_is : may.source ≡ 0 = contains_only 0 may.source may.is_source in
      by_start way.start way.label (subst (λ (s : ℕ). LeavesSource one_hop s way.start) source_is may.is_start)
      (subst (λ (s : ℕ). start_end s way.start ≡ 0) source_is may.leads) may.is_label) in
      let matched = after_step (IsStepWithLoopStart rules) law 1000 loop_start
      (stepped 1000 (λ now. boardings rules one_hop now 0) (λ now. loop_starts rules one_hop q now 0) loop_start.bag loop_start.found takes_loop sets_out) in
      let attained = matched.at_source.sound on_loop (suc zero, omega arith, refl) in
      no_journey_at_40 1000 attained.way.start attained.way.rides attained.there.counts
    where
      loop_fits : (f : Footpath) → Contains one_hop.footpaths f → f.to ≡ 0 → f.secs ≤ 100
      loop_fits f is at = let secs : f.secs ≡ 60 = ap (λ (x : Footpath). x.secs) (only_from_zero f is at) in omega arith

      by_start : (start : Option Footpath) (l : Point V) → LeavesSource one_hop 0 start → start_end 0 start ≡ 0
          → Contains (label ∷ []) l → Covers rules (at_stop ∷ on_loop
          ∷ []) (100 - start_secs start) (started rules start (rules.ride l.value))
      by_start None l leaves leads is = at_stop_covered (at_stop ∷ on_loop ∷ []) (zero, omega arith, refl) l is
      by_start (Some f) l leaves leads is = loop_covered (at_stop ∷ on_loop ∷ []) (
        suc zero,
        omega arith,
        refl,
      ) (record { walk = f; label = l }) (record {
        boards = refl;
        is_footpath = leaves.0;
        leaves =
            leaves.1;
        leads = leads;
        fits = loop_fits f leaves.0 leads;
        is_label = is;
      })

  -- boarding without the change time is kept as leaving at 100, from where no walk of a minute comes in time
  none_leaves_at_100 : (walk : List Footpath) (rides : List RideValue)
      → IsOnward one_hop (single_set_query (over_one_hop 1000)) 0 0 100 (record { walk = walk; rides = rides }) → ⊥
  none_leaves_at_100 [] rides on = on.walks refl
  none_leaves_at_100 (f ∷ fs) [] on = on.boards
  none_leaves_at_100 (f ∷ fs) (ride ∷ rides) on =
      let first = boards_at_zero on.goal (walk_end 0 (f ∷ fs)) (100 + walk_secs (f ∷ fs)) ride rides on.leads in
      let wait : 100 + walk_secs (f ∷ fs) ≤ 100 = subst (λ (n : ℕ). 100 + walk_secs (f ∷ fs) ≤ (connection_at one_hop n).dep) first on.leads.2 in
      let leaves = on.is_walk.1 in
      elim (its_footpaths f on.is_walk.0) [
        | inl e ↦ (let secs : f.secs ≡ 60 = ap (λ (x : Footpath). x.secs) e in omega arith)
        | inr e ↦ (let from : f.from ≡ 1 = ap (λ (x : Footpath). x.from) e in omega arith)
      ]

  abbrev unchanged : ScanValue V
  unchanged = record { bag = at_zero (on_loop ∷ at_stop ∷ []); labels = at_zero (label ∷ []); found = at_stop ∷ [] }

  takes_at_once : (stop : ℕ) → TakesIn rules (at_once_boardings rules one_hop turn 0 stop (label ∷ [])) [] (at_zero (on_loop ∷ at_stop ∷ []) stop)
  takes_at_once zero = takes_from_nothing (at_once_boardings rules one_hop turn 0 0 (label ∷ [])) (on_loop ∷ at_stop ∷ [])
      (λ p is. elim (two_in on_loop at_stop p is) [
        | inl e ↦ subst (IsOffered (at_once_boardings rules one_hop turn 0 0 (label ∷ []))) e (record {
          way =
              on_foot (record { walk = long_loop; label = label });
          is_open = loop_is_open;
          departs = refl;
          worth =
              refl;
          fits = goes_on (long_loop ∷ []);
        })
        | inr e ↦ subst (IsOffered (at_once_boardings rules one_hop turn 0 0 (label ∷ []))) e (record {
          way =
              at_once label;
          is_open = (refl, refl, (zero, omega arith, refl));
          departs = refl;
          worth = refl;
          fits =
              goes_on [];
        })
      ])
      by_way
    where
      by_way : (way : Unchanged V) → MayBoardAtOnce rules one_hop turn 0 0 (label ∷ []) way
          → Covers rules (on_loop ∷ at_stop ∷ []) (at_once_departure rules one_hop turn 0 0 (label ∷ []) way)
          (at_once_value rules one_hop turn 0 0 (label ∷ []) way)
      by_way (on_foot way) may = loop_covered (on_loop ∷ at_stop ∷ []) (zero, omega arith, refl) way may
      by_way (at_once l) may = at_stop_covered (on_loop ∷ at_stop ∷ []) (suc zero, omega arith, refl) l may.2
  takes_at_once (suc n) = takes_none (at_once_boardings rules one_hop turn 0 (suc n) (label ∷ [])) by_way
    where
      by_way : (way : Unchanged V) → MayBoardAtOnce rules one_hop turn 0 (suc n) (label ∷ []) way → ⊥
      by_way (on_foot way) may = elsewhere n way may
      by_way (at_once l) may = absurd (omega (arith, may.1))

  -- the points found are offered the label at the source itself
  sets_out_once : TakesIn rules (settings_out rules one_hop (single_set_query (over_one_hop 1000)) turn 0 (label ∷ [])) [] (at_stop ∷ [])
  sets_out_once = takes_from_nothing (settings_out rules one_hop (single_set_query (over_one_hop 1000)) turn 0 (label ∷ [])) (at_stop ∷ [])
      (λ p is. subst (IsOffered (settings_out rules one_hop (single_set_query (over_one_hop 1000)) turn 0 (label ∷ [])))
      (sym (contains_only at_stop p is)) (record {
        way = record { start = None; label = label };
        is_open =
            record {
              boards = refl;
              source = 0;
              is_source = contains_first 0 [];
              is_start = tt;
              leads = refl;
              fits = omega arith;
              not_early = omega arith;
              not_late =
                  omega arith;
              is_label = (zero, omega arith, refl);
            };
        departs = refl;
        worth = refl;
        fits = sets_out None;
      }))
      (λ way may.
      let source_is : may.source ≡ 0 = contains_only 0 may.source may.is_source in
      by_start way.start way.label (subst (λ (s : ℕ). IsStart one_hop s way.start) source_is may.is_start)
      (subst (λ (s : ℕ). start_end s way.start ≡ 0) source_is may.leads) may.is_label)
    where
      by_start : (start : Option Footpath) (l : Point V) → IsStart one_hop 0 start → start_end 0 start ≡ 0
          → Contains (label ∷ []) l → Covers rules (at_stop
          ∷ []) (100 - start_secs start) (started rules start (rules.ride l.value))
      by_start None l starts leads is = at_stop_covered (at_stop ∷ []) (zero, omega arith, refl) l is
      by_start (Some f) l starts leads is = absurd (starts.2 leads)

  pub no_change_is_wrong : OneIndexDown rules (IsStepWithoutChange rules) → ⊥
  no_change_is_wrong law =
      let matched = after_step (IsStepWithoutChange rules) law 1000 unchanged
      (stepped 1000 (λ now. at_once_boardings rules one_hop now 0) (λ now. settings_out rules one_hop (single_set_query (over_one_hop 1000)) now 0)
      unchanged.bag unchanged.found takes_at_once sets_out_once) in
      let attained = (matched.at_stops 0 (omega arith)).sound at_stop (suc zero, omega arith, refl) in
      none_leaves_at_100 attained.way.walk attained.way.rides attained.there

  -- the right step, from nothing to the answer
  abbrev scanned : ScanValue V
  scanned = record { bag = at_zero (on_loop ∷ []); labels = at_zero (label ∷ []); found = at_stop ∷ [] }

  from_the_start : IsFirstAt one_hop 0 0
  from_the_start = record { in_range = omega arith; before = λ k lt. absurd (omega arith); after = λ k le lt. omega arith }

  pub scan_answers : IsAnswer rules one_hop (over_one_hop 1000) (at_stop ∷ [])
  scan_answers =
      let q = single_set_query (over_one_hop 1000) in
      let step = stepped 1000 (λ now. boardings rules one_hop now 0) (λ now. settings_out rules one_hop q now 0)
      scanned.bag scanned.found takes_loop sets_out_once in
      let matched = after_step (IsStep rules) (one_index_down rules laws) 1000 scanned (leaving_nothing_out rules one_hop q turn 0 nothing scanned step) in
      let bag : IsBag rules (at_stop ∷ []) = record {
        admitted =
            λ p is. subst (λ (x : Point V). Admits rules x.value) (sym (contains_only at_stop p is)) ridden_admitted;
        undominated = λ i j d lt in_j. absurd (omega arith);
      } in
      answer_from rules one_hop (over_one_hop 1000) (at_stop ∷ [])
      (match_is_the_answer rules laws one_hop (single_set_query (over_one_hop 1000)) (can_scan 1000) 0 from_the_start spoken (at_stop
      ∷ []) matched.at_source bag (λ i j d lt in_j. absurd (omega arith)))

-- a cut of each leg loses a journey when the window shrinks, although it departs at its end
pub leg_by_leg_is_wrong : CutIsTheSources CountsLegByLeg → ⊥
leg_by_leg_is_wrong law =
    let t = with_loops 0 0 in
    let loop_at_b : Contains t.footpaths (footpath 1 1 0) = (1, omega arith, refl) in
    let some : (by_change 0).rides ≢ [] = λ e. cc in
    let counts : Counts t (asked 32400 36000) 28800 (by_change 0) = search (std_rules, some, loop_at_b) in
    let cut = law.at_source t (single_set_query (asked 32400 36000)) 28800 28800 (by_change 0) (omega arith) (record {
      counts = to_one t (asked 32400 36000) 28800 (by_change 0) counts;
      legs = in_time;
    }) in
    let late = cut.legs 1 (ride 2 2 []) (omega arith) in
    omega arith
  where
    in_time : (k : ℕ) (d : RideValue) → k < 2 → (connection_at (with_loops 0 0) (get_or (by_change 0).rides k d).leg.first).dep ≤ 32400
    in_time zero d lt = omega arith
    in_time (suc zero) d lt = omega arith
    in_time (suc (suc k)) d lt = absurd (omega arith)
