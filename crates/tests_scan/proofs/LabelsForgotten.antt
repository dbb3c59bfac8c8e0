-- A timetable of one trip over two connections: a step that forgets the trip's labels is refuted on it.
use Rattle.std.proofs.Common.{◌≡◌, ◌≢◌, ℕ, zero, suc, ◌+◌, ◌<◌, ◌≤◌, [], ◌∷◌, Some, None, arith, refl, sym, subst, inl, inr}
use Rattle.reasoning.proofs.ListLemmas.{contains_first, contains_only, not_in_nil}
use Rattle.criteria.specs.Laws.{Rules, Laws}
use Rattle.bags.specs.declared.point.Point.{Point}
use Rattle.timetable.specs.declared.network.Connection.{Connection}
use Rattle.timetable.specs.Journeys.{connection_at}
use Rattle.timetable.specs.Legal.{IsLegal}
use Rattle.timetable.specs.Limits.{IsWithinLimits}
use Rattle.sources.specs.FirstAt.{IsFirstAt}
use Rattle.scan_state.specs.Points.{Covers}
use Rattle.scan_state.specs.Continuations.{Aboard}
use Rattle.scan_state.specs.Matching.{Spelling, Spellings, Keeps, from_to, ScanValue, MatchesFrom, IsLabelled}
use Rattle.scan_state.specs.Steps.{TakesIn, IsOffered, Leaving, ends, ends_after, changes, MayLeave, leaving_value, leavings, boardings, settings_out}
use Rattle.scan_state.specs.SetQuery.{CanScan}
use Rattle.profile_scan.specs.LawStatements.{OneIndexDown}
use Rattle.scan_state.specs.SetQuery.{single_set_query}
use Rattle.tests_scan.specs.Examples.{two_hops, over_one_hop}
use Rattle.tests_scan.specs.WrongSteps.{IsStepWithoutLabels}
use Rattle.profile_scan.proofs.Ends.{nothing_follows}
use Rattle.profile_scan.proofs.StepLemmas.{one_index_down}
use Rattle.tests_scan.proofs.Refutations.{at_two, one_hop_legal, one_hop_within, takes_none, takes_from_nothing, covers_itself, nothing, at_zero}
use Rattle.tests_scan.proofs.Refutations.{leaving_nothing_out}

abbrev first_hop : Connection
first_hop = connection_at two_hops 0

abbrev second_hop : Connection
second_hop = connection_at two_hops 1

two_hops_legal : IsLegal two_hops
two_hops_legal = record {
  stops_in_range = λ i c at. elim (at_two first_hop second_hop c i at) [
    | inl e ↦ subst (λ (x : Connection). (x.from < 2) × (x.to < 2)) e.1 (omega arith, omega arith)
    | inr e ↦ subst (λ (x : Connection). (x.from < 2) × (x.to < 2)) e.1 (omega arith, omega arith)
  ];
  trips_in_range = λ i c at. elim (at_two first_hop second_hop c i at) [
    | inl e ↦ subst (λ (x : Connection). x.trip < 1) e.1 (omega arith)
    | inr e ↦ subst (λ (x : Connection). x.trip < 1) e.1 (omega arith)
  ];
  ends_in_range = one_hop_legal.ends_in_range;
  takes_time = λ i c at. elim (at_two first_hop second_hop c i at) [
    | inl e ↦ subst (λ (x : Connection). x.dep < x.arr) e.1 (omega arith)
    | inr e ↦ subst (λ (x : Connection). x.dep < x.arr) e.1 (omega arith)
  ];
  departures_never_fall = λ i c d at_c at_d. elim (at_two first_hop second_hop d (i + 1) at_d) [
    | inl e ↦ absurd (omega (arith, e.0))
    | inr e ↦ elim (at_two first_hop second_hop c i at_c) [
      | inl f ↦ subst (λ (x : Connection). x.dep ≤ d.dep) f.1 (subst (λ (x : Connection). 100 ≤ x.dep) e.1 (omega arith))
      | inr f ↦ absurd (omega (arith, e.0, f.0))
    ]
  ];
  unbroken = λ i j c d is. let before = is.before in elim (at_two first_hop second_hop d j is.second) [
    | inl e ↦ absurd (omega (arith, e.0, before))
    | inr e ↦ elim (at_two first_hop second_hop c i is.first) [
      | inl f ↦ subst (λ (x : Connection). (x.to ≡ d.from)
          × (x.arr ≤ d.dep)) f.1 (subst (λ (x : Connection). (0 ≡ x.from) × (200 ≤ x.dep)) e.1 (refl, omega arith))
      | inr f ↦ absurd (omega (arith, e.0, f.0, before))
    ]
  ];
  in_order = one_hop_legal.in_order;
  loops = one_hop_legal.loops;
  closed = one_hop_legal.closed;
}

two_hops_within : IsWithinLimits two_hops
two_hops_within = record {
  stops = omega arith;
  trips = omega arith;
  connections = omega arith;
  footpaths = omega arith;
  times = λ i c at. elim (at_two first_hop second_hop c i at) [
    | inl e ↦ subst (λ (x : Connection). x.arr < 2000000000) e.1 (omega arith)
    | inr e ↦ subst (λ (x : Connection). x.arr < 2000000000) e.1 (omega arith)
  ];
  walks = one_hop_within.walks;
}

can_scan : CanScan two_hops (single_set_query (over_one_hop 1000))
can_scan = record { legal = two_hops_legal; limits = two_hops_within; in_time = omega arith }

past_the_end : IsFirstAt two_hops 1000 2
past_the_end = record { in_range = omega arith; before = departs_before; after = λ k le lt. absurd (omega arith) }
  where
    departs_before : (k : ℕ) → k < 2 → (connection_at two_hops k).dep < 1000
    departs_before zero lt = omega arith
    departs_before (suc zero) lt = omega arith
    departs_before (suc (suc k)) lt = absurd (omega arith)

-- in the trip one stays up to its second connection, which ends at the target; nothing else is spelled
abbrev stays_seated : Aboard
stays_seated = record { last = 1; walk = []; rides = [] }

abbrev spoken : Spelling
spoken = record { onward = λ _. None; aboard = λ _. Some stays_seated; journey = λ _. None }

abbrev own_spellings : Spellings
own_spellings = from_to spoken spoken

spoken_stays : Keeps spoken spoken
spoken_stays = record { onward = λ tag x e. e; aboard = λ tag x e. e; journey = λ tag j e. e }

module _ {V : Type 0} (rules : Rules V) (laws : Laws rules) where
  abbrev label : Point V
  label = record { departure = 0; value = rules.arrive 300; tag = 0 }

  -- what is kept after the second connection: the trip's label
  abbrev seated : ScanValue V
  seated = record { bag = λ _. []; labels = at_zero rules laws (label ∷ []); found = [] }

  other_trips : (trip : ℕ) → trip ≢ 0 → at_zero rules laws (label ∷ []) trip ≡ []
  other_trips zero other = absurd (other refl)
  other_trips (suc n) other = refl

  leaves_at_the_target : TakesIn rules (leavings rules two_hops (single_set_query (over_one_hop 1000)) own_spellings 1 []) [] (label ∷ [])
  leaves_at_the_target = takes_from_nothing rules laws (leavings rules two_hops (single_set_query (over_one_hop 1000)) own_spellings 1 []) (label ∷ [])
      (λ p is. subst (IsOffered (leavings rules two_hops (single_set_query (over_one_hop 1000)) own_spellings 1 []))
      (sym (contains_only label p is)) (record {
        way = ends;
        is_open = (refl, (contains_first 1 [], omega arith));
        departs =
            refl;
        worth = refl;
        fits = refl;
      }))
      (λ way open_way. by_way way open_way.1)
    where
      by_way : (way : Leaving V) → MayLeave two_hops (single_set_query (over_one_hop 1000)) 1 [] way → Covers rules (label ∷ []) 0
          (leaving_value rules two_hops 1 way)
      by_way ends may = covers_itself rules laws (label ∷ []) label (zero, omega arith, refl) (laws.arrive_admits 300 (omega arith))
      by_way (ends_after f) may = absurd (may.3 (contains_first 1 []))
      by_way (changes p) may = absurd (not_in_nil p may.0)

  kept_after_the_second : MatchesFrom rules two_hops (single_set_query (over_one_hop 1000)) spoken 1 seated
  kept_after_the_second =
      let q = single_set_query (over_one_hop 1000) in
      one_index_down rules laws two_hops q can_scan own_spellings 1 (omega arith) (nothing rules laws) seated
      (nothing_follows rules two_hops q can_scan 2 past_the_end spoken)
      (leaving_nothing_out rules two_hops q own_spellings 1 (nothing rules laws) seated (record {
        between = spoken;
        kept_first = spoken_stays;
        kept_then = spoken_stays;
        leaves = leaves_at_the_target;
        other_trips = other_trips;
        boards = λ stop in_stops. takes_none rules laws (boardings rules two_hops own_spellings 1 stop (label ∷ []))
            (λ way may. let impossible = may.boards in cc);
        sets_out = takes_none rules laws (settings_out rules two_hops q own_spellings 1 (label ∷ [])) (λ way may. let impossible = may.boards in cc);
      }))

  -- forgotten, the label covers nobody who stays seated
  pub forgotten_labels_are_wrong : OneIndexDown rules (IsStepWithoutLabels rules) → ⊥
  forgotten_labels_are_wrong law =
      let q = single_set_query (over_one_hop 1000) in
      let matched = law two_hops q can_scan own_spellings 0 (omega arith) seated (nothing rules laws) kept_after_the_second (record {
        between = spoken;
        kept_first = spoken_stays;
        kept_then = spoken_stays;
        leaves = takes_none rules laws (leavings rules two_hops q own_spellings 0 []) (λ way may. let impossible = may.0 in cc);
        other_trips = λ trip other. sym (other_trips trip other);
        boards = λ stop in_stops. takes_none rules laws (boardings rules two_hops own_spellings 0 stop []) (λ way may. not_in_nil way.label may.is_label);
        sets_out = takes_none rules laws (settings_out rules two_hops q own_spellings 0 []) (λ way may. not_in_nil way.label may.is_label);
      }) in
      let is_seated : IsLabelled two_hops q 0 0 0 stays_seated = record {
        departed = refl;
        aboard = record {
          later = omega arith;
          in_range = omega arith;
          on_trip = refl;
          alights = refl;
          is_walk =
              tt;
          walks = λ some. absurd (some refl);
          goal = 1;
          is_goal = contains_first 1 [];
          leads = refl;
          arrives = omega arith;
        };
      } in
      elim ((matched.in_trips 0 (omega arith)).complete 0 stays_seated is_seated) [
        | inl covered ↦ not_in_nil covered.0 covered.1
        | inr outdone ↦ not_in_nil outdone.by outdone.is_found
      ]
