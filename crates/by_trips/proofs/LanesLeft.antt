-- A trip in lanes is left: to end, or to change.
use Rattle.std.proofs.Common.{◌≡◌, ◌⊎◌, ℕ, ◌+◌, ◌*◌, ◌<◌, ◌≤◌, List, [], ◌∷◌, ◌++◌, length, Contains, Option, Some, None}
use Rattle.std.proofs.Common.{slice_get, slice_index, nat_lt, nat_le}
use Rattle.std.proofs.Common.{inl, inr, refl, sym, ap, ◌∙◌, subst, arith, length-append}
use Rattle.std.specs.Global.{Vec}
use Rattle.std.proofs.lemmas.Bool.{cases_lt, and_from, lt-ltb, le-leb}
use Rattle.std.proofs.lemmas.Option.{slice_get_within}
use Rattle.reasoning.proofs.ListLemmas.{contains_only, contains_first, not_in_nil, slice_get-front, slice_get-last, same_at}
use Rattle.reasoning.proofs.OptionLemmas.{option_cases}
use Rattle.criteria.specs.Laws.{Admits, time_limit}
use Rattle.criteria.specs.declared.arrival_trips.TimeTrips.{TimeTrips}
use Rattle.bags.specs.declared.point.Point.{Point}
use Rattle.timetable.specs.declared.network.Connection.{Connection}
use Rattle.timetable.specs.declared.network.Footpath.{Footpath}
use Rattle.timetable.specs.Journeys.{start_secs}
use Rattle.fronts.specs.declared.labels.Label.{Label}
use Rattle.fronts.proofs.Growth.{extends_long}
use Rattle.lanes.specs.Lanes.{trip_rules, lane_labels, IsBeaten}
use Rattle.lanes.specs.LaneLists.{word_tag}
use Rattle.lanes.specs.LanesWithTags.{labels_in}
use Rattle.lanes.specs.TripLanes.{AllBeaten, TakesAll, ending, front_labels, labels_at, offered_by, trips_of}
use Rattle.lanes.specs.StopLanes.{IsFrontFrom, entries_of, front_at, points_at, stops_of, tags_at}
use Rattle.lanes.specs.declared.trip_lanes.Lanes.{Lanes}
use Rattle.lanes.specs.declared.trip_lanes.TripLanes.{TripLanes}
use Rattle.lanes.specs.declared.words.Words.{Words}
use Rattle.lanes.proofs.LaneLemmas.{stands, no_worse_from}
use Rattle.lanes.proofs.CoverLemmas.{points_admitted}
use Rattle.lanes.proofs.EntryLemmas.{from_map, into_map}
use Rattle.scan_state.specs.ScanState.{final_walk_in}
use Rattle.scan_state.specs.SetQuery.{SetQueryValue}
use Rattle.scan_state.specs.Values.{started}
use Rattle.scan_state.specs.Matching.{Spellings, from_to}
use Rattle.scan_state.specs.Steps.{Offer, IsOffered, TakesInBut}
use Rattle.scan_state.specs.Bound.{Excludes}
use Rattle.scan_state.specs.Adding.{IsEnding, changes_from, endings, label_points}
use Rattle.scan_state.specs.ScanRecords.{KeptValue, ScanRecords, Grows, IsExit, scan_records, spelling_of}
use Rattle.by_trips.specs.InLanes.{AreInLanes, CanLeaveLanes, IsBeatenByEight, LaneTakes, LeadsWithin, changes_but_eight, exit_of, value_of}
use Rattle.scan_state.specs.declared.final_walks.FinalWalk.{FinalWalk}
use Rattle.scan_state.specs.declared.hop.Hop.{Hop}
use Rattle.by_trips.specs.declared.in_lanes.InLanes.{InLanes}
use Rattle.by_trips.specs.declared.in_lanes.LaneExit.{LaneExit}
use Rattle.by_trips.specs.declared.in_lanes.LaneExit.TheVariants.{Ends as EndsLane, Changes as ChangesLane}
use Rattle.scan_state.specs.declared.scan_records.Exit.TheVariants.{Ends}
use Rattle.scan_state.specs.declared.scan_records.SetOut.{SetOut}
use Rattle.scan_state.specs.KeptParts.{LabelsTake, takes_changes, takes_endings}
use Rattle.scan_state.proofs.KeptLemmas.{labels_as, labels_none}
use Rattle.by_trips.proofs.LaneExits.{exit_at, exit_spelled_at, exits_long, exits_more}
use Rattle.by_trips.proofs.LaneOffers.{as_point, beaten_covers, changes_taken, kept_covers}
use Rattle.scan_state.proofs.Offers.{excused_as, sure}
use Rattle.scan_state.proofs.ScanRecordLemmas.{exits_grow, grows_on, stays}

-- a trip has labels of fewer than eight trips
few_trips : (trips : TripLanes) (trip : ℕ) (l : Label TimeTrips) → Contains (labels_at trips trip) l → l.value.trips < 8
few_trips trips trip l is = elim (option_cases (slice_get trips.lanes.items trip)) [
  | inl none ↦ absurd (not_in_nil l (subst (λ (o : Option Lanes). Contains (labels_in o) l) none is))
  | inr some ↦
      let s = stands (slice_index some.0.tags) some.0.times l (subst (λ (o : Option Lanes). Contains (labels_in o) l) some.1 is) in
      let below = s.below in
      let long = (trips.tagged trip some.0 some.1).lanes_are.long in
      omega (arith, below, long)
]

-- and they are admitted
pub label_admits : (trips : TripLanes) (trip : ℕ) (l : Label TimeTrips) → Contains (labels_at trips trip) l → Admits trip_rules l.value
label_admits trips trip l is = elim (option_cases (slice_get trips.lanes.items trip)) [
  | inl none ↦ absurd (not_in_nil l (subst (λ (o : Option Lanes). Contains (labels_in o) l) none is))
  | inr some ↦
      let s = stands (slice_index some.0.tags) some.0.times l (subst (λ (o : Option Lanes). Contains (labels_in o) l) some.1 is) in
      let below = s.below in
      let at = s.at in
      let less = s.less in
      let are = (trips.tagged trip some.0 some.1).lanes_are in
      let long = are.long in
      let time = are.times l.value.trips (omega (arith, below, long)) (omega (arith, at, less)) in
      and_from (nat_lt l.value.time time_limit) (nat_le l.value.trips 65535) (lt-ltb l.value.time time_limit (omega (arith, time, at)))
      (le-leb l.value.trips 65535 (omega (arith, below, long)))
]

-- nothing was missed
none_missed : (hop : Hop TimeTrips) (points : List (Point TimeTrips)) (old new : InLanes)
    → LaneTakes hop.bound.now (LabelsTake trip_rules hop.connection.trip (λ p. Excludes trip_rules hop.bound.now p.value ⊎ ⊥)
    (λ tags. changes_from tags hop.place hop.connection.arr points)) old new
    → LaneTakes hop.bound.now (takes_changes trip_rules hop points) old new
none_missed hop points old new taken = record {
  are = taken.are;
  stops = taken.stops;
  takes = labels_as trip_rules (λ tags. excused_as trip_rules (λ p. Excludes trip_rules hop.bound.now p.value ⊎ ⊥)
      (λ p. Excludes trip_rules hop.bound.now p.value) (changes_from tags hop.place hop.connection.arr points)
      (label_points (labels_at old.trips hop.connection.trip)) (label_points (labels_at new.trips hop.connection.trip)) (λ way opened was. sure was))
      taken.takes;
}

module _ (q : SetQueryValue) (hop : Hop TimeTrips) (old : InLanes) (can : CanLeaveLanes q hop old) (trips : TripLanes) (exits : Vec LaneExit) where
  abbrev trip : ℕ
  trip = hop.connection.trip

  abbrev Tags : ℕ → List ℕ
  Tags = tags_at old.stops

  abbrev new : InLanes
  new = record { trips = trips; stops = old.stops; exits = exits; bound = old.bound }

  bag_admitted : (p : Point TimeTrips) → Contains (points_at old.stops hop.connection.to) p → Admits trip_rules p.value
  bag_admitted p is =
      points_admitted old.stops.entries.items can.are.at_stops.lists (slice_index old.stops.heads.items hop.connection.to) p
      (can.are.at_stops.within hop.connection.to) is

  -- an exit more
  module _ (x : LaneExit) (pushed : exits.items ≡ old.exits.items ++ x ∷ []) (leads : LeadsWithin (entries_of old.stops) x) where
    each_leads : (k : ℕ) (y : LaneExit) → slice_get exits.items k ≡ Some y → LeadsWithin (entries_of old.stops) y
    each_leads k y at =
        let at_pushed : slice_get (old.exits.items ++ x ∷ []) k ≡ Some y = ap (λ xs. slice_get xs k) (sym pushed) ∙ at in
        let within = slice_get_within exits.items k y at in
        let long = ap length pushed ∙ length-append old.exits.items (x ∷ []) in
        elim (cases_lt k (length old.exits.items)) [
          | inl lt ↦ can.are.exits k y (sym (slice_get-front old.exits.items (x ∷ []) k lt) ∙ at_pushed)
          | inr ge ↦
              let last : k ≡ length old.exits.items = omega (arith, within, long, ge) in
              subst (LeadsWithin (entries_of old.stops))
              (same_at (old.exits.items ++ x ∷ []) (length old.exits.items) x y (slice_get-last old.exits.items x)
              (subst (λ n. slice_get (old.exits.items ++ x ∷ []) n ≡ Some y) last at_pushed)) leads
        ]

    pub still_are : trips_of trips ≡ trips_of old.trips → AreInLanes (stops_of old.stops) (trips_of old.trips) hop.bound.now new
    still_are long = record {
      at_stops = can.are.at_stops;
      stops_are = refl;
      trips_are = long;
      exits = each_leads;
      excludes = can.are.excludes;
    }

    -- its lanes are spelled
    module _ (walks : List Footpath) (set_outs : List SetOut) (before all : ScanRecords)
        (first_grows : Grows before (scan_records (value_of old).exits (value_of old).steps set_outs))
        (then_grows : Grows (scan_records (value_of new).exits (value_of new).steps set_outs) all) where
      pub lane_spelled : (first k : ℕ) → first ≡ 8 * length old.exits.items → k < 8
          → IsExit (from_to (spelling_of walks before) (spelling_of walks all)) (exit_of Tags x k) (first + k)
      lane_spelled first k first_is lt =
          let was = scan_records (value_of old).exits (value_of old).steps set_outs in
          let now = scan_records (value_of new).exits (value_of new).steps set_outs in
          let more = exits_more Tags old.exits.items exits.items x pushed in
          let fewer = extends_long before.exits was.exits first_grows.exits in
          let long = exits_long Tags old.exits.items in
          exit_spelled_at walks before all (first + k) (exit_of Tags x k)
          (grows_on before was all first_grows (grows_on was now all (exits_grow was.exits now.exits was.steps set_outs more) then_grows))
          (stays now.exits all.exits then_grows.exits (first + k) (exit_of Tags x k) (exit_at Tags old.exits.items exits.items x pushed first k first_is lt))
          (omega (arith, fewer, long, first_is))

    -- with it, labels take in what is offered
    pub taken_with : {A : Type 0} {Excused : A → Type 0} {offer : Spellings → Offer A TimeTrips} {bound : List (Label TimeTrips)} (first : ℕ)
        (offered : List (Label TimeTrips)) → first ≡ 8 * length old.exits.items → TakesAll trip bound offered old.trips trips
        → ((l : Label TimeTrips) → Contains offered l → l.tag ≡ first + l.value.trips)
        → ((tags : Spellings) → ((l : Label TimeTrips) → Contains (labels_at trips trip) l → Contains (labels_at old.trips trip) l
        ⊎ (Contains offered l × IsExit tags (exit_of Tags x l.value.trips) l.tag))
        → TakesInBut trip_rules Excused (offer tags) (label_points (labels_at old.trips trip)) (label_points (labels_at trips trip)))
        → LaneTakes hop.bound.now (LabelsTake trip_rules trip Excused offer) old new
    taken_with first offered first_is takes tagged join = record {
      are = still_are takes.long;
      stops = refl;
      takes = record {
        exits = exits_more Tags old.exits.items exits.items x pushed;
        steps = refl;
        bags = λ stop. refl;
        other_trips = λ k other. ap label_points (takes.elsewhere k other);
        takes = λ walks set_outs before all first_grows then_grows.
            let tags = from_to (spelling_of walks before) (spelling_of walks all) in
            join tags (λ l is. elim (takes.only l is) [
              | inl was ↦ inl was
              | inr there ↦ inr (
                there,
                subst (IsExit tags (exit_of Tags x l.value.trips)) (sym (tagged l there))
                    (lane_spelled walks set_outs before all first_grows then_grows first l.value.trips first_is (few_trips trips trip l is)),
              )
            ]);
      };
    }

  -- to change, by words that stand for points of the stop, but for those missed
  module _ (entry first : ℕ) (words : List ℕ) (within : entry < entries_of old.stops) (Missed : Point TimeTrips → Type 0)
      (made_of : (l : Label TimeTrips) → Contains (lane_labels (word_tag (Tags entry)) words) l
      → (p : Point TimeTrips) × Contains (points_at old.stops hop.connection.to) p × (hop.connection.arr ≤ p.departure) × (p.value ≡ l.value)
      × (p.tag ≡ l.tag))
      (betters : (p : Point TimeTrips) → Contains (points_at old.stops hop.connection.to) p → hop.connection.arr ≤ p.departure
      → IsBeaten (lane_labels (word_tag (Tags entry)) words) p.value ⊎ Missed p) where
    abbrev ButMissed : KeptValue TimeTrips → KeptValue TimeTrips → Type 0
    ButMissed = LabelsTake trip_rules trip (λ p. Excludes trip_rules hop.bound.now p.value ⊎ Missed p)
        (λ tags. changes_from tags hop.place hop.connection.arr (points_at old.stops hop.connection.to))

    lowered_but : first ≡ 8 * length old.exits.items → exits.items ≡ old.exits.items ++ ChangesLane hop.place entry ∷ []
        → TakesAll trip (front_labels old.bound) (lane_labels (λ k. first + k) words) old.trips trips
        → LaneTakes hop.bound.now ButMissed old new
    lowered_but first_is pushed takes =
        taken_with (ChangesLane hop.place entry) pushed within first (lane_labels (λ k. first + k) words) first_is takes
        (λ l is. (stands (λ k. first + k) words l is).tagged)
        (λ tags only. changes_taken words (word_tag (Tags entry)) first hop.connection.arr hop.place (points_at old.stops hop.connection.to)
        (front_labels old.bound) (labels_at old.trips trip) (labels_at trips trip) hop.bound.now tags Missed made_of betters bag_admitted only
        takes.kept takes.taken can.are.excludes)

    none_but : AllBeaten (front_labels old.bound) (labels_at old.trips trip) (lane_labels (λ k. first + k) words)
        → LaneTakes hop.bound.now ButMissed old old
    none_but beaten = record {
      are = can.are;
      stops = refl;
      takes = labels_none trip_rules (λ tags.
          (changes_taken words (word_tag (Tags entry)) first hop.connection.arr hop.place (points_at old.stops hop.connection.to)
          (front_labels old.bound) (labels_at old.trips trip) (labels_at old.trips trip) hop.bound.now tags Missed made_of betters bag_admitted
          (λ l is. inl is) (λ l is. (l, is, no_worse_from l.value l.value (omega arith) (omega arith))) beaten can.are.excludes).covered);
    }

  -- by the front of an entry
  module _ (entry first : ℕ) (front : Words) (stands_for : IsFrontFrom old.stops hop.connection.to hop.connection.arr entry)
      (words : front_at old.stops entry ≡ lane_labels (word_tag (Tags entry)) front.times) where
    made_of : (l : Label TimeTrips) → Contains (lane_labels (word_tag (Tags entry)) front.times) l
        → (p : Point TimeTrips) × Contains (points_at old.stops hop.connection.to) p × (hop.connection.arr ≤ p.departure) × (p.value ≡ l.value)
        × (p.tag ≡ l.tag)
    made_of l is = stands_for.made_of l (subst (λ (ls : List (Label TimeTrips)). Contains ls l) (sym words) is)

    betters : (p : Point TimeTrips) → Contains (points_at old.stops hop.connection.to) p → hop.connection.arr ≤ p.departure
        → IsBeaten (lane_labels (word_tag (Tags entry)) front.times) p.value
    betters p is late = subst (λ (ls : List (Label TimeTrips)). IsBeaten ls p.value) words (stands_for.betters p is late)

    pub change_lowered : first ≡ 8 * length old.exits.items → exits.items ≡ old.exits.items ++ ChangesLane hop.place entry ∷ []
        → TakesAll trip (front_labels old.bound) (offered_by front first) old.trips trips
        → LaneTakes hop.bound.now (takes_changes trip_rules hop (points_at old.stops hop.connection.to)) old new
    change_lowered first_is pushed takes =
        none_missed hop (points_at old.stops hop.connection.to) old new
        (lowered_but entry first front.times stands_for.within (λ _. ⊥) made_of (λ p is late. inl (betters p is late)) first_is pushed takes)

    pub change_none : AllBeaten (front_labels old.bound) (labels_at old.trips trip) (offered_by front first)
        → LaneTakes hop.bound.now (takes_changes trip_rules hop (points_at old.stops hop.connection.to)) old old
    change_none beaten =
        none_missed hop (points_at old.stops hop.connection.to) old old
        (none_but entry first front.times stands_for.within (λ _. ⊥) made_of (λ p is late. inl (betters p is late)) beaten)

    -- without its value of eight trips
    module _ (few : Words)
        (only : (tag : ℕ → ℕ) (l : Label TimeTrips) → Contains (lane_labels tag few.times) l → Contains (lane_labels tag front.times) l × (l.value.trips < 8))
        (keeps : (tag : ℕ → ℕ) (l : Label TimeTrips) → Contains (lane_labels tag front.times) l → l.value.trips < 8 → Contains (lane_labels tag few.times) l)
      where
        few_better : (p : Point TimeTrips) → Contains (points_at old.stops hop.connection.to) p → hop.connection.arr ≤ p.departure
            → IsBeaten (lane_labels (word_tag (Tags entry)) few.times) p.value ⊎ IsBeatenByEight (front_at old.stops entry) p.value
        few_better p is late =
            let b = betters p is late in
            elim (cases_lt b.0.value.trips 8) [
              | inl less ↦ inl (b.0, keeps (word_tag (Tags entry)) b.0 b.1 less, b.2)
              | inr most ↦
                  let below = (stands (word_tag (Tags entry)) front.times b.0 b.1).below in
                  let long = front.falls.long in
                  inr (b.0, subst (λ (ls : List (Label TimeTrips)). Contains ls b.0) (sym words) b.1, omega (arith, most, below, long), b.2)
            ]

        few_made : (l : Label TimeTrips) → Contains (lane_labels (word_tag (Tags entry)) few.times) l
            → (p : Point TimeTrips) × Contains (points_at old.stops hop.connection.to) p × (hop.connection.arr ≤ p.departure) × (p.value ≡ l.value)
            × (p.tag ≡ l.tag)
        few_made l is = made_of l (only (word_tag (Tags entry)) l is).0

        pub eight_lowered : first ≡ 8 * length old.exits.items → exits.items ≡ old.exits.items ++ ChangesLane hop.place entry ∷ []
            → TakesAll trip (front_labels old.bound) (offered_by few first) old.trips trips → changes_but_eight hop entry old new
        eight_lowered = lowered_but entry first few.times stands_for.within (λ p. IsBeatenByEight (front_at old.stops entry) p.value) few_made few_better

        pub eight_none : AllBeaten (front_labels old.bound) (labels_at old.trips trip) (offered_by few first) → changes_but_eight hop entry old old
        eight_none = none_but entry first few.times stands_for.within (λ p. IsBeatenByEight (front_at old.stops entry) p.value) few_made few_better

started_same : (walk : Option Footpath) (v : TimeTrips) → started trip_rules walk v ≡ v
started_same None v = refl
started_same (Some f) v = refl

-- labels take in the one ending that there is
module _ (q : SetQueryValue) (c : Connection) (way : Option FinalWalk) (place time tag : ℕ) (walk : Option Footpath) (old new : List (Label TimeTrips))
    (is_ending : IsEnding c q way walk) (time_is : time ≡ c.arr + start_secs walk)
    (one : (other : Option Footpath) → IsEnding c q way other → other ≡ walk) where
  pub ends_taken : (spell : Spellings) → ((l : Label TimeTrips) → Contains new l → Contains old l
      ⊎ (Contains (ending time tag) l × IsExit spell (Ends place walk) l.tag))
      → ((l : Label TimeTrips) → Contains old l → IsBeaten new l.value) → AllBeaten [] new (ending time tag)
      → TakesInBut trip_rules (λ _. ⊥) (endings trip_rules spell place c q way) (label_points old) (label_points new)
  ends_taken spell only kept taken = record {
    only = λ p h.
        let l = from_map as_point new p h in
        elim (only l.0 l.1) [
          | inl was ↦ inl (subst (Contains (label_points old)) l.2 (into_map as_point old l.0 was))
          | inr offered ↦ inr (subst (IsOffered (endings trip_rules spell place c q way)) l.2 (record {
            way = walk;
            is_open = is_ending;
            departs = refl;
            worth = ap (λ (m : Label TimeTrips). m.value) (contains_only (record { value = record { time = time; trips = 0 }; tag = tag }) l.0 offered.0)
                ∙ ap (λ n. record { time = n; trips = 0 }) time_is ∙ sym (started_same walk (trip_rules.arrive (c.arr + start_secs walk)));
            fits = offered.1;
          }))
        ];
    kept = λ departure v a covers. kept_covers old new kept departure v covers;
    covered = λ other opened.
        let same = one other opened in
        let ends : Label TimeTrips = record { value = record { time = time; trips = 0 }; tag = tag } in
        elim (taken ends (contains_first ends [])) [
          | inl beaten ↦
              let value : ends.value ≡ started trip_rules other (trip_rules.arrive (c.arr + start_secs other)) =
              ap (λ n. record { time = n; trips = 0 }) (time_is ∙ ap (λ w. c.arr + start_secs w) (sym same))
              ∙ sym (started_same other (trip_rules.arrive (c.arr + start_secs other))) in
              inl (beaten_covers new _ (subst (IsBeaten new) value beaten))
          | inr outdone ↦ inr (not_in_nil outdone.0 outdone.1)
        ];
  }

module _ (q : SetQueryValue) (hop : Hop TimeTrips) (old : InLanes) (can : CanLeaveLanes q hop old) (walk : Option Footpath) (time first : ℕ)
    (is_ending : IsEnding hop.connection q (final_walk_in hop.final_entry) walk) (time_is : time ≡ hop.connection.arr + start_secs walk)
    (one : (other : Option Footpath) → IsEnding hop.connection q (final_walk_in hop.final_entry) other → other ≡ walk) where
  pub end_none : AllBeaten [] (labels_at old.trips hop.connection.trip) (ending time first)
      → LaneTakes hop.bound.now (takes_endings trip_rules q hop) old old
  end_none beaten = record {
    are = can.are;
    stops = refl;
    takes = labels_none trip_rules (λ tags.
        (ends_taken q hop.connection (final_walk_in hop.final_entry) hop.place time first walk (labels_at old.trips hop.connection.trip)
        (labels_at old.trips hop.connection.trip) is_ending time_is one tags (λ l is. inl is)
        (λ l is. (l, is, no_worse_from l.value l.value (omega arith) (omega arith))) beaten).covered);
  }

  pub end_lowered : (trips : TripLanes) (exits : Vec LaneExit) → first ≡ 8 * length old.exits.items
      → exits.items ≡ old.exits.items ++ EndsLane hop.place walk ∷ []
      → TakesAll hop.connection.trip [] (ending time first) old.trips trips
      → LaneTakes hop.bound.now (takes_endings trip_rules q hop) old
      (record { trips = trips; stops = old.stops; exits = exits; bound = old.bound })
  end_lowered trips exits first_is pushed takes =
      let ends : Label TimeTrips = record { value = record { time = time; trips = 0 }; tag = first } in
      let tag_is : first ≡ first + 0 = omega arith in
      taken_with q hop old can trips exits (EndsLane hop.place walk) pushed tt first (ending time first) first_is takes
      (λ l is. subst (λ (m : Label TimeTrips). m.tag ≡ first + m.value.trips) (sym (contains_only ends l is)) tag_is)
      (λ tags only. ends_taken q hop.connection (final_walk_in hop.final_entry) hop.place time first walk (labels_at old.trips hop.connection.trip)
      (labels_at trips hop.connection.trip) is_ending time_is one tags only takes.kept takes.taken)
