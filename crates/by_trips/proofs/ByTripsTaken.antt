-- What is kept by arrival and trips takes a connection in.
use Rattle.std.proofs.Common.{◌≡◌, ◌⊎◌, ℕ, ◌+◌, ◌<◌, ◌≤◌, List, [], ◌∷◌, ◌++◌, Contains, Option, Some, slice_get, slice_index, length}
use Rattle.std.proofs.Common.{Bool, false, map, nat_le, nat_lt, take, inl, inr, refl, sym, ap, ◌∙◌, subst, arith, append_assoc}
use Rattle.std.proofs.lemmas.Bool.{and_parts, cases_lt, ltb-true}
use Rattle.std.proofs.lemmas.List.{map-append, take_more}
use Rattle.std.proofs.lemmas.List.Folds.{list_any_at}
use Rattle.std.proofs.lemmas.Option.{get_or_from_slice_get, none-some, same_Some, slice_get_within}
use Rattle.std.proofs.lemmas.List.Elements.{Contains-append_cases}
use Rattle.reasoning.proofs.ListLemmas.{not_in_nil}
use Rattle.reasoning.proofs.OptionLemmas.{option_cases}
use Rattle.criteria.specs.Laws.{Admits, IsTime, time_limit}
use Rattle.criteria.specs.TimeTripsLaws.{trips_admitted}
use Rattle.criteria.specs.declared.arrival_trips.TimeTrips.{TimeTrips}
use Rattle.bags.specs.declared.bag.Bag.{Bag}
use Rattle.bags.specs.declared.point.Point.{Point}
use Rattle.timetable.specs.TimetableValue.{TimetableValue}
use Rattle.timetable.proofs.LegalLemmas.{At-Contains, Contains-At}
use Rattle.fronts.specs.Front.{Extends}
use Rattle.fronts.specs.declared.labels.Label.{Label}
use Rattle.lanes.specs.Lanes.{trip_rules, IsBeaten, IsOutdone}
use Rattle.lanes.specs.TripLanes.{front_labels, labels_at, trips_of}
use Rattle.lanes.specs.StopLanes.{AreStopLanes, points_at, stops_of}
use Rattle.lanes.specs.declared.words.Words.{Words}
use Rattle.lanes.proofs.CoverLemmas.{points_admitted}
use Rattle.lanes.proofs.EntryLemmas.{from_map, into_map}
use Rattle.scan_state.specs.Values.{started}
use Rattle.scan_state.specs.SetQuery.{SetQueryValue, asked_from}
use Rattle.scan_state.specs.Matching.{Spellings, from_to}
use Rattle.scan_state.specs.Steps.{MaySetOut, SettingOut, TakesIn, settings_out}
use Rattle.scan_state.specs.Bound.{Excludes, ExcludesMore}
use Rattle.scan_state.specs.Adding.{label_points}
use Rattle.scan_state.specs.ScanRecords.{SourceValue, spelling_of}
use Rattle.scan_state.specs.Hops.{IsHop}
use Rattle.scan_state.specs.Parts.{SourceTakes}
use Rattle.scan_state.specs.Keeping.{AdmitsKept, GoesOn}
use Rattle.by_trips.specs.InLanes.{AreInLanes}
use Rattle.by_trips.specs.ByTrips.{AreByTrips, BoardsByTrips, CanLeaveByTrips, LeavesByTrips, bag_points, points_beyond, value_by_trips}
use Rattle.by_trips.specs.TakenByTrips.{CanRenew, IsFrontOf, RenewsBound, labels_by_trips, point_labels}
use Rattle.by_trips.specs.declared.by_trips.ByTrips.{ByTrips}
use Rattle.scan_state.specs.declared.hop.Hop.{Hop}
use Rattle.by_trips.specs.declared.in_lanes.InLanes.{InLanes}
use Rattle.scan_state.proofs.KeptLemmas.{goes_on, not_left}
use Rattle.by_trips.proofs.LaneOffers.{as_point, covers_trans}
use Rattle.by_trips.proofs.LanesLeft.{label_admits}
use Rattle.scan_state.proofs.Offers.{takes_as}

-- the values of bags are admitted
bag_admits : {K V : Type 0} {c : _} (bags : List (Bag K V c)) (k : ℕ) (p : Point V) → Contains (points_beyond bags k) p
    → (criterion : K) × Admits (c.rules criterion) p.value
bag_admits {K} {V} {c} bags k p is = elim (option_cases (slice_get bags k)) [
  | inl none ↦ absurd (not_in_nil p (subst (λ (o : Option (Bag K V c)). Contains (bag_points o) p) none is))
  | inr some ↦ (some.0.criterion, some.0.kept.admitted p (subst (λ (o : Option (Bag K V c)). Contains (bag_points o) p) some.1 is))
]

-- all values that are kept are admitted
pub admits_kept : (stops trips : ℕ) (values : List TimeTrips) (kept : ByTrips) → AreByTrips stops trips values kept
    → AdmitsKept trip_rules (value_by_trips kept)
admits_kept stops trips values kept are =
    let at_stops = kept.lanes.stops in
    let in_trips = kept.lanes.trips in
    record {
      bags = λ stop p is.
          elim (Contains-append_cases (points_at at_stops stop) (points_beyond kept.beyond.points.items stop) p is) [
            | inl lane ↦ points_admitted at_stops.entries.items are.in_lanes.at_stops.lists (slice_index at_stops.heads.items stop) p
                (are.in_lanes.at_stops.within stop) lane
            | inr beyond ↦ (bag_admits kept.beyond.points.items stop p beyond).1
          ];
      labels = λ trip p is.
          elim (Contains-append_cases (label_points (labels_at in_trips trip)) (points_beyond kept.beyond.labels.items trip) p is) [
            | inl lane ↦
                let l = from_map as_point (labels_at in_trips trip) p lane in
                subst (λ (q : Point TimeTrips). Admits trip_rules q.value) l.2 (label_admits in_trips trip l.0 l.1)
            | inr beyond ↦ (bag_admits kept.beyond.labels.items trip p beyond).1
          ];
    }

-- a point that departs at 0
abbrev at_zero : Point TimeTrips → Point TimeTrips
at_zero p = record { departure = 0; value = p.value; tag = p.tag }

-- the labels read of a trip are its labels, which then depart at 0
read_at_zero : (lane : List (Label TimeTrips)) (beyond : List (Point TimeTrips))
    → label_points (lane ++ point_labels beyond) ≡ map at_zero (label_points lane ++ beyond)
read_at_zero [] [] = refl
read_at_zero [] (p ∷ ps) = ap (λ xs. at_zero p ∷ xs) (read_at_zero [] ps)
read_at_zero (l ∷ ls) ps = ap (λ xs. as_point l ∷ xs) (read_at_zero ls ps)

-- to who sets out only the values and tags of labels matter
module _ (t : TimetableValue) (tags : Spellings) (i : ℕ) (q : SetQueryValue) (labels : List (Point TimeTrips)) where
  by_other : (way : SettingOut TimeTrips) (l : Point TimeTrips) (all some : List (Point TimeTrips)) → Contains all l → MaySetOut t q i some way
      → MaySetOut t q i all (record { start = way.start; label = l })
  by_other way l all some there may = record {
    boards = may.boards;
    source = may.source;
    is_source = may.is_source;
    is_start = may.is_start;
    leads = may.leads;
    fits = may.fits;
    not_early = may.not_early;
    not_late = may.not_late;
    is_label = there;
  }

  sets_out_at_zero : (old new : List (Point TimeTrips)) → TakesIn trip_rules (settings_out trip_rules t q tags i (map at_zero labels)) old new
      → TakesIn trip_rules (settings_out trip_rules t q tags i labels) old new
  sets_out_at_zero old new takes =
      takes_as trip_rules (settings_out trip_rules t q tags i (map at_zero labels)) (settings_out trip_rules t q tags i labels) old new
      (λ way may.
      let l = from_map at_zero labels way.label may.is_label in
      record {
        there = record { start = way.start; label = l.0 };
        is_open = by_other way l.0 labels (map at_zero labels) l.1 may;
        departs = refl;
        worth = ap (λ (p : Point TimeTrips). started trip_rules way.start (trip_rules.ride p.value)) (sym l.2);
        fits = λ tag h x e. h x (ap (λ (p : Point TimeTrips). tags.earlier.aboard p.tag) (sym l.2) ∙ e);
      })
      (λ way may. takes.covered (record { start = way.start; label = at_zero way.label })
      (by_other way (at_zero way.label) (map at_zero labels) labels (into_map at_zero labels way.label may.is_label) may))
      takes

-- labels and points are counted as before
module _ (stops trips : ℕ) (values : List TimeTrips) (kept : ByTrips) where
  pub counted : AreByTrips stops trips values kept → AreByTrips (stops_of kept.lanes.stops) (trips_of kept.lanes.trips) values kept
  counted are =
      subst (λ n. AreByTrips n (trips_of kept.lanes.trips) values kept) (sym are.in_lanes.stops_are)
      (subst (λ n. AreByTrips stops n values kept) (sym are.in_lanes.trips_are) are)

  pub as_counted : stops_of kept.lanes.stops ≡ stops → trips_of kept.lanes.trips ≡ trips → (new : ByTrips)
      → AreByTrips (stops_of kept.lanes.stops) (trips_of kept.lanes.trips) values new → AreByTrips stops trips values new
  as_counted stops_are trips_are new are =
      subst (λ n. AreByTrips n trips values new) stops_are
      (subst (λ n. AreByTrips (stops_of kept.lanes.stops) n values new) trips_are are)

-- the bound is made anew
module _ (stops trips : ℕ) (older values : List TimeTrips) (kept : ByTrips) (are : AreByTrips stops trips older kept) (lanes : InLanes)
    (renewed : RenewsBound values kept.lanes lanes) where
  abbrev with_lanes : InLanes → ByTrips
  with_lanes lanes = record { lanes = lanes; beyond = kept.beyond }

  pub renewed_are : AreByTrips stops trips values (record { lanes = lanes; beyond = kept.beyond })
  renewed_are = record {
    in_lanes = subst (λ n. AreInLanes n trips values lanes) are.in_lanes.stops_are
        (subst (λ n. AreInLanes (stops_of kept.lanes.stops) n values lanes) are.in_lanes.trips_are renewed.are);
    beyond = are.beyond;
  }

  pub renewed_value : value_by_trips (record { lanes = lanes; beyond = kept.beyond }) ≡ value_by_trips kept
  renewed_value = ap (λ (l : InLanes). value_by_trips (with_lanes l)) renewed.same

-- nobody may get off
pub nobody_leaves : (q : SetQueryValue) (hop : Hop TimeTrips) (kept : ByTrips) → CanLeaveByTrips q hop kept → hop.connection.alight ≡ false
    → LeavesByTrips q hop kept kept
nobody_leaves q hop kept can stays = record {
  are = can.are;
  leaves = not_left trip_rules q hop (value_by_trips kept) stays;
}

module _ {O : Type 0} (t : TimetableValue) (sources : List ℕ → ℕ → List ℕ) (kept : O → ℕ → SourceValue TimeTrips) (q : SetQueryValue)
    (hop : Hop TimeTrips) where
  -- one has set out, and boarded
  pub went_on : (old new : ByTrips) (from to : O)
      → ((index : ℕ) → Extends (kept from index).set_outs (kept to index).set_outs)
      → ((index : ℕ) → SourceTakes trip_rules t.footpaths (λ tags. settings_out trip_rules t (asked_from sources q index) tags hop.place
      (label_points (labels_by_trips old hop.connection.trip))) (kept from index) (kept to index))
      → BoardsByTrips t hop old new → GoesOn trip_rules t sources kept q hop (value_by_trips old) (value_by_trips new) from to
  went_on old new from to set_outs sets_out boards =
      goes_on trip_rules t sources kept q hop (value_by_trips old) (value_by_trips new) from to set_outs
      (λ index exits steps before all first_grows then_grows.
      let tags = from_to (spelling_of t.footpaths before) (spelling_of t.footpaths all) in
      let asked = asked_from sources q index in
      let trip = hop.connection.trip in
      sets_out_at_zero t tags hop.place asked ((value_by_trips old).labels trip) (kept from index).found (kept to index).found
      (subst (λ ls. TakesIn trip_rules (settings_out trip_rules t asked tags hop.place ls) (kept from index).found (kept to index).found)
      (read_at_zero (labels_at old.lanes.trips trip) (points_beyond old.beyond.labels.items trip))
      (sets_out index exits steps before all first_grows then_grows)))
      boards.takes

-- the label of one more point
pub labels_more : {V : Type 0} (points : List (Point V)) (k : ℕ) (p : Point V) → slice_get points k ≡ Some p → (old mid new : List (Label V)) (tag : ℕ)
    → tag ≡ p.tag → new ≡ mid ++ record { value = p.value; tag = tag } ∷ [] → mid ≡ old ++ point_labels (take k points)
    → new ≡ old ++ point_labels (take (k + 1) points)
labels_more {V} points k p at old mid new tag tag_is pushed before =
    let within = slice_get_within points k p at in
    let more : take (k + 1) points ≡ take k points ++ p ∷ [] =
    take_more points k p within ∙ ap (λ (x : Point V). take k points ++ x ∷ []) (get_or_from_slice_get points k p p at) in
    pushed
    ∙ ap (λ n. mid ++ record { value = p.value; tag = n } ∷ []) tag_is
    ∙ ap (λ ls. ls ++ as_label_of p ∷ []) before
    ∙ append_assoc old (point_labels (take k points)) (as_label_of p ∷ [])
    ∙ ap (λ ls. old ++ ls) (sym (map-append as_label_of (take k points) (p ∷ [])) ∙ ap (map as_label_of) (sym more))
  where
    as_label_of : Point V → Label V
    as_label_of q = record { value = q.value; tag = q.tag }

-- a front has the first k values, and no others
pub record HasFirst (values : List TimeTrips) (k : ℕ) (front : Words) : Type 0 where
  pub only : (l : Label TimeTrips) → Contains (front_labels front) l → Contains values l.value
  pub each : (j : ℕ) (b : TimeTrips) → j < k → slice_get values j ≡ Some b → b.trips ≤ 8 → IsBeaten (front_labels front) b

pub first_none : (values : List TimeTrips) (front : Words) → front_labels front ≡ [] → HasFirst values 0 front
first_none values front none = record {
  only = λ l is. absurd (not_in_nil l (subst (λ ls. Contains ls l) none is));
  each = λ j b lt at few. absurd (omega (arith, lt));
}

pub first_more : (values : List TimeTrips) (k : ℕ) (value : TimeTrips) → slice_get values k ≡ Some value → (front new : Words)
    → ((l : Label TimeTrips) → Contains (front_labels new) l → Contains (front_labels front) l ⊎ (l.value ≡ value))
    → ((l : Label TimeTrips) → Contains (front_labels front) l → IsBeaten (front_labels new) l.value)
    → (value.trips ≤ 8 → IsBeaten (front_labels new) value) → HasFirst values k front → HasFirst values (k + 1) new
first_more values k value at front new only kept taken before = record {
  only = λ l is. elim (only l is) [
    | inl was ↦ before.only l was
    | inr same ↦ subst (Contains values) (sym same) (Contains-At values k value at)
  ];
  each = λ j b lt there few. elim (cases_lt j k) [
    | inl earlier ↦
        let was = before.each j b earlier there few in
        let now = kept was.0 was.1 in
        (now.0, now.1, covers_trans now.0.value was.0.value b now.2 was.2)
    | inr ge ↦
        let last : j ≡ k = omega (arith, lt, ge) in
        let same : value ≡ b = same_Some value b (sym at ∙ ap (slice_get values) (sym last) ∙ there) in
        subst (IsBeaten (front_labels new)) same (taken (subst (λ (v : TimeTrips). v.trips ≤ 8) (sym same) few))
  ];
}

pub first_all : (values : List TimeTrips) (k : ℕ) (front : Words) → length values ≤ k → HasFirst values k front → IsFrontOf values front
first_all values k front all has = record {
  only = has.only;
  each = λ b is few.
      let at = At-Contains values b is in
      let within = slice_get_within values at.0 b at.1 in
      has.each at.0 b (omega (arith, within, all)) at.1 few;
}

-- an admitted value's time is one
pub value_in_time : (v : TimeTrips) → Admits trip_rules v → IsTime v.time
value_in_time v admits = ltb-true v.time time_limit (and_parts (nat_lt v.time time_limit) (nat_le v.trips 65535) admits).0

-- what a front of these values outdoes, they exclude
pub front_excludes : (values : List TimeTrips) (front : Words) → IsFrontOf values front → (v : TimeTrips) → IsOutdone (front_labels front) v
    → Excludes trip_rules values v
front_excludes values front is v (l, in_front, no_worse) =
    let at = is.only l in_front in
    let test : TimeTrips → Bool = λ b. trip_rules.no_worse b (trip_rules.ride v) in
    list_any_at test values at.0 l.value at.1 (ap test at.2 ∙ no_worse)

module _ (values : List TimeTrips) (lanes : InLanes) (can : CanRenew values lanes) where
  -- the old front is right by these values
  pub still_right : RenewsBound values lanes lanes
  still_right = record {
    are = record {
      at_stops = can.are.at_stops;
      stops_are = can.are.stops_are;
      trips_are = can.are.trips_are;
      exits = can.are.exits;
      excludes = λ v admits outdone. can.excludes (trip_rules.ride v) (trips_admitted v (v.trips + 1) admits) (can.are.excludes v admits outdone);
    };
    same = refl;
  }

  -- and so is a front of them
  pub made_anew : (front : Words) → IsFrontOf values front
      → RenewsBound values lanes (record { trips = lanes.trips; stops = lanes.stops; exits = lanes.exits; bound = front })
  made_anew front is = record {
    are = record {
      at_stops = can.are.at_stops;
      stops_are = can.are.stops_are;
      trips_are = can.are.trips_are;
      exits = can.are.exits;
      excludes = λ v admits. front_excludes values front is v;
    };
    same = refl;
  }

-- the bound may be made anew
pub can_renew : (stops trips : ℕ) (older values : List TimeTrips) (kept : ByTrips) → AreByTrips stops trips older kept
    → ((b : TimeTrips) → Contains values b → Admits trip_rules b) → ExcludesMore trip_rules older values → CanRenew values kept.lanes
can_renew stops trips older values kept are admitted excludes = record {
  admitted = admitted;
  older = older;
  are = (counted stops trips older kept are).in_lanes;
  excludes = excludes;
}

-- the labels of a trip are of values that the laws speak of
pub labels_admitted : (stops trips : ℕ) (values : List TimeTrips) (kept : ByTrips) → AreByTrips stops trips values kept → (trip : ℕ)
    → (p : Point TimeTrips) → Contains (label_points (labels_by_trips kept trip)) p → Admits trip_rules p.value
labels_admitted stops trips values kept are trip p is =
    let of = from_map at_zero ((value_by_trips kept).labels trip) p
    (subst (λ ls. Contains ls p) (read_at_zero (labels_at kept.lanes.trips trip) (points_beyond kept.beyond.labels.items trip)) is) in
    subst (λ (x : Point TimeTrips). Admits trip_rules x.value) of.2 ((admits_kept stops trips values kept are).labels trip of.0 of.1)

-- at first nothing is kept
pub nothing_kept : (stops trips : ℕ) (kept : ByTrips) → AreStopLanes kept.lanes.stops → stops_of kept.lanes.stops ≡ stops
    → trips_of kept.lanes.trips ≡ trips → kept.lanes.exits.items ≡ [] → front_labels kept.lanes.bound ≡ [] → kept.beyond.labels.items ≡ []
    → kept.beyond.points.items ≡ [] → AreByTrips stops trips [] kept
nothing_kept stops trips kept at_stops stops_are trips_are no_exits no_bound no_labels no_points = record {
  in_lanes = record {
    at_stops = at_stops;
    stops_are = stops_are;
    trips_are = trips_are;
    exits = λ k x at. absurd (none-some x (sym (ap (λ xs. slice_get xs k) no_exits) ∙ at));
    excludes = λ v admits outdone. absurd (not_in_nil outdone.0 (subst (λ ls. Contains ls outdone.0) no_bound outdone.1));
  };
  beyond = inl (no_labels, no_points);
}

-- a hop's trip may be left
pub can_leave : (stops trips : ℕ) (q : SetQueryValue) (hop : Hop TimeTrips) (kept : ByTrips) → AreByTrips stops trips hop.bound.now kept
    → IsHop trip_rules q hop → hop.connection.trip < trips → hop.connection.to < stops → CanLeaveByTrips q hop kept
can_leave stops trips q hop kept are is trip stop = record {
  hop = is;
  are = counted stops trips hop.bound.now kept are;
  trip = subst (λ n. hop.connection.trip < n) (sym are.in_lanes.trips_are) trip;
  stop = subst (λ n. hop.connection.to < n) (sym are.in_lanes.stops_are) stop;
}
