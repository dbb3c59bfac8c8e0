-- Passengers board with the labels of a trip, in lanes and beyond them.
use Rattle.std.proofs.Common.{◌≡◌, ◌⊎◌, ◌↔◌, ℕ, ◌+◌, ◌-◌, ◌<◌, ◌≤◌, Bool, true, false, List, [], ◌∷◌, ◌++◌, length, Contains, Some, slice_get, slice_index}
use Rattle.std.proofs.Common.{inl, inr, refl, sym, ap, ◌∙◌, subst, arith}
use Rattle.std.specs.Global.{Vec}
use Rattle.std.proofs.lemmas.Bool.{cases_eq, true≢false}
use Rattle.std.proofs.lemmas.List.Elements.{Contains-append_left}
use Rattle.reasoning.specs.Lists.{Extends}
use Rattle.reasoning.proofs.ListLemmas.{extends_none, not_in_nil}
use Rattle.criteria.specs.Laws.{Admits}
use Rattle.criteria.specs.declared.arrival_trips.TimeTrips.{TimeTrips}
use Rattle.bags.specs.declared.point.Point.{Point}
use Rattle.timetable.specs.declared.network.Footpath.{Footpath}
use Rattle.timetable.specs.TimetableValue.{TimetableValue}
use Rattle.timetable.specs.Legal.{At}
use Rattle.fronts.specs.declared.entry.Boarding.{Boarding}
use Rattle.lanes.specs.Lanes.{trip_rules}
use Rattle.lanes.specs.LaneLists.{AreLists, points_from, tags_in}
use Rattle.lanes.specs.TripLanes.{labels_at, trips_of}
use Rattle.lanes.specs.StopLanes.{AreStopLanes, HasStepBeyond, entries_of, points_at, steps_of, stops_of, tags_at}
use Rattle.lanes.specs.declared.lane_lists.LaneEntry.{LaneEntry}
use Rattle.lanes.specs.declared.stop_lanes.StopLanes.{StopLanes}
use Rattle.scan_state.specs.SetQuery.{SetQueryValue}
use Rattle.scan_state.specs.Points.{Covers}
use Rattle.scan_state.specs.declared.starts.Starts.{Starts}
use Rattle.scan_state.specs.Continuations.{Aboard}
use Rattle.scan_state.specs.Matching.{Spellings, from_to}
use Rattle.scan_state.specs.Steps.{Offer, TakesIn, TakesInBut, boarded}
use Rattle.scan_state.specs.Bound.{Excludes}
use Rattle.scan_state.specs.Adding.{StandsBefore, boardings_by, each_of, label_points, one_way}
use Rattle.scan_state.specs.ScanRecords.{Grows, KeptValue, scan_records, spelling_of}
use Rattle.scan_state.specs.KeptParts.{BagsTake, boards_after, boards_after_each, boards_all}
use Rattle.by_trips.specs.InLanes.{AreInLanes, LaneBoards, LeadsWithin, exits_in, value_of}
use Rattle.by_trips.specs.ByTrips.{BoardsBeyond, BoardsByTrips, CanBoardBeyond, CanBoardByTrips, HasBags, IsInsertedAt}
use Rattle.by_trips.specs.ByTrips.{boarding_of, boards_label, points_beyond, value_by_trips}
use Rattle.by_trips.specs.declared.by_trips.Beyond.{Beyond}
use Rattle.by_trips.specs.declared.by_trips.ByTrips.{ByTrips}
use Rattle.scan_state.specs.declared.hop.Hop.{Hop}
use Rattle.by_trips.specs.declared.in_lanes.InLanes.{InLanes}
use Rattle.by_trips.proofs.BeyondLemmas.{label_is_bag, point_is_bag}
use Rattle.scan_state.proofs.KeptLemmas.{bags_all, bags_as, bags_beside, bags_closed, bags_first, bags_next, bags_none, bags_then}
use Rattle.by_trips.proofs.LanesBoarded.{lanes_admit, ride_admitted}
use Rattle.scan_state.proofs.Offers.{all_stand, but_as, each_more, inserted_takes, stands_in, takes_but, takes_if, takes_unless}
use Rattle.scan_state.proofs.ScanRecordLemmas.{grows_on, stays, step_spelled}
use Rattle.scan_state.proofs.Together.{boardings_both, rear_takes}
use Rattle.by_trips.proofs.TripLaws.{trip_laws}

-- nothing changes
stays_so : {stops trips : ℕ} {hop : Hop TimeTrips} {Takes : KeptValue TimeTrips → KeptValue TimeTrips → Type 0} {old : ByTrips}
    → HasBags stops trips hop old → Takes (value_by_trips old) (value_by_trips old) → BoardsBeyond stops trips hop Takes old old
stays_so has takes = record { has = has; labels = refl; trips_same = refl; points = λ stop. refl; takes = takes }

-- one after another
boards_then : {stops trips : ℕ} {hop : Hop TimeTrips} {First Second Both : KeptValue TimeTrips → KeptValue TimeTrips → Type 0} {old mid new : ByTrips}
    → (First (value_by_trips old) (value_by_trips mid) → Second (value_by_trips mid) (value_by_trips new)
    → Both (value_by_trips old) (value_by_trips new))
    → BoardsBeyond stops trips hop First old mid → BoardsBeyond (stops_of mid.lanes.stops) (trips_of mid.lanes.trips) hop Second mid new
    → BoardsBeyond stops trips hop Both old new
boards_then {trips = trips} {hop = hop} {mid = mid} {new = new} join a b = record {
  has = subst (λ n. HasBags n trips hop new) a.has.are.stops_are (subst (λ n. HasBags (stops_of mid.lanes.stops) n hop new) a.has.are.trips_are b.has);
  labels = b.labels ∙ a.labels;
  trips_same = b.trips_same ∙ a.trips_same;
  points = λ stop. b.points stop ∙ a.points stop;
  takes = join a.takes b.takes;
}

-- and passengers may still board
pub still_boards : {stops trips : ℕ} {hop : Hop TimeTrips} {Takes : KeptValue TimeTrips → KeptValue TimeTrips → Type 0} {old mid : ByTrips} (walk : Footpath)
    → BoardsBeyond stops trips hop Takes old mid → hop.connection.trip < trips → walk.from < stops → CanBoardBeyond hop walk mid
still_boards {stops = stops} {trips = trips} {hop = hop} {mid = mid} walk boards trip stop =
    let stops_are = boards.has.are.stops_are in
    let trips_are = boards.has.are.trips_are in
    record {
      has = subst (λ n. HasBags n (trips_of mid.lanes.trips) hop mid) (sym stops_are) (subst (λ n. HasBags stops n hop mid) (sym trips_are) boards.has);
      trip = subst (λ n. hop.connection.trip < n) (sym trips_are) trip;
      stop = subst (λ n. walk.from < n) (sym stops_are) stop;
    }

-- with one label
module _ (hop : Hop TimeTrips) (walk : Footpath) (boarding : Boarding) (label : Point TimeTrips) (old : ByTrips) (can : CanBoardBeyond hop walk old) where
  abbrev count_stops : ℕ
  count_stops = stops_of old.lanes.stops

  abbrev count_trips : ℕ
  count_trips = trips_of old.lanes.trips

  abbrev BoardsLabel : ByTrips → Type 0
  BoardsLabel = BoardsBeyond count_stops count_trips hop (boards_label hop walk boarding label) old

  pub label_excluded : Excludes trip_rules hop.bound.now label.value → BoardsLabel old
  label_excluded excluded = stays_so can.has (bags_none trip_rules (λ stop tags way opened. inr excluded))

  -- a point in lanes covers it
  pub label_covered : Covers trip_rules (points_at old.lanes.stops walk.from) boarding.departure (trip_rules.ride label.value) → BoardsLabel old
  label_covered (p, there, late, no_worse) =
      stays_so can.has (bags_none trip_rules (λ stop tags way opened. inl (
        p,
        subst (λ s. Contains ((value_by_trips old).bag s) p) opened.0
            (Contains-append_left (points_at old.lanes.stops walk.from) (points_beyond old.beyond.points.items walk.from) p there),
        late,
        no_worse,
      )))

  module _ (tag : ℕ) (beyond : Beyond) (stands : Bool) (admitted : Admits trip_rules label.value) (same_labels : beyond.labels ≡ old.beyond.labels)
      (inserted : IsInsertedAt trip_rules walk.from (record { departure = boarding.departure; value = trip_rules.ride label.value; tag = tag }) stands
      old.beyond.points.items beyond.points.items) where
    abbrev Fits : Spellings → ℕ → Type 0
    Fits tags tag = (x : Aboard) → tags.earlier.aboard label.tag ≡ Some x
        → tags.later.onward tag ≡ Some (record { walk = walk ∷ []; rides = boarded boarding.first x })

    abbrev Offered : Spellings → ℕ → Offer (Unit {0}) TimeTrips
    Offered tags stop = boarding_of walk boarding stop tags label

    labels_same : (trip : ℕ) → label_points (labels_at old.lanes.trips trip) ++ points_beyond beyond.labels.items trip
        ≡ (value_by_trips old).labels trip
    labels_same trip = ap (λ (ls : Vec _). label_points (labels_at old.lanes.trips trip) ++ points_beyond ls.items trip) same_labels

    has_bags : AreInLanes count_stops count_trips hop.bound.now old.lanes → (lanes : InLanes)
        → AreInLanes count_stops count_trips hop.bound.now lanes → HasBags count_stops count_trips hop (record { lanes = lanes; beyond = beyond })
    has_bags was lanes are = record {
      are = are;
      values = can.has.values;
      labels = ap (λ (ls : Vec _). length ls.items) same_labels ∙ can.has.labels;
      points = inserted.long ∙ can.has.points;
    }

    at_stop : (tags : Spellings) → (stands ≡ true → Fits tags tag) → (stop : ℕ)
        → TakesInBut trip_rules (λ _. Excludes trip_rules hop.bound.now label.value) (Offered tags stop) (points_beyond old.beyond.points.items stop)
        (points_beyond beyond.points.items stop)
    at_stop tags named stop =
        takes_but trip_rules (λ _. Excludes trip_rules hop.bound.now label.value) (Offered tags stop) (points_beyond old.beyond.points.items stop)
        (points_beyond beyond.points.items stop)
        (elim (cases_eq stop walk.from) [
          | inl here ↦ subst (λ s. TakesIn trip_rules (Offered tags s) (points_beyond old.beyond.points.items s) (points_beyond beyond.points.items s))
              (sym here)
              (takes_if trip_rules (walk.from ≡ walk.from) (one_way boarding.departure (trip_rules.ride label.value) (Fits tags))
              (points_beyond old.beyond.points.items walk.from) (points_beyond beyond.points.items walk.from) refl
              (inserted_takes trip_rules trip_laws (points_beyond old.beyond.points.items walk.from) (points_beyond beyond.points.items walk.from)
              (record { departure = boarding.departure; value = trip_rules.ride label.value; tag = tag }) (Fits tags) stands
              (point_is_bag old.beyond walk.from) (ride_admitted label.value admitted) inserted.stands_is inserted.inserted named))
          | inr other ↦ subst (TakesIn trip_rules (Offered tags stop) (points_beyond old.beyond.points.items stop))
              (sym (inserted.elsewhere stop other))
              (takes_unless trip_rules (walk.from ≡ stop) (one_way boarding.departure (trip_rules.ride label.value) (Fits tags))
              (points_beyond old.beyond.points.items stop) (λ is. other (sym is)))
        ])

    -- the same with the points in lanes
    in_union : (tags : Spellings) → (stands ≡ true → Fits tags tag) → (stop : ℕ) (now : List (Point TimeTrips)) → now ≡ points_at old.lanes.stops stop
        → TakesInBut trip_rules (λ _. Excludes trip_rules hop.bound.now label.value) (Offered tags stop) ((value_by_trips old).bag stop)
        (now ++ points_beyond beyond.points.items stop)
    in_union tags named stop now same =
        subst (λ ps. TakesInBut trip_rules (λ _. Excludes trip_rules hop.bound.now label.value) (Offered tags stop) ((value_by_trips old).bag stop)
        (ps ++ points_beyond beyond.points.items stop)) (sym same)
        (rear_takes trip_rules (points_at old.lanes.stops stop) (at_stop tags named stop))

    pub label_falls : stands ≡ false → BoardsLabel (record { lanes = old.lanes; beyond = beyond })
    label_falls falls = record {
      has = has_bags can.has.are old.lanes can.has.are;
      labels = same_labels;
      trips_same = refl;
      points = λ stop. refl;
      takes = record {
        exits = refl;
        steps = extends_none (value_by_trips old).steps;
        labels = labels_same;
        takes = λ walks at stop set_outs before all first_grows then_grows.
            in_union (from_to (spelling_of walks before) (spelling_of walks all)) (λ is. absurd (true≢false (sym is ∙ falls))) stop
            (points_at old.lanes.stops stop) refl;
      };
    }

    -- its step is added
    module _ (stops : StopLanes) (tag_is : tag ≡ length (steps_of old.lanes.stops)) (step : HasStepBeyond boarding label.tag old.lanes.stops stops) where
      abbrev lanes : InLanes
      lanes = record { trips = old.lanes.trips; stops = stops; exits = old.lanes.exits; bound = old.lanes.bound }

      lists_are : AreStopLanes stops
      lists_are = record {
        lists = subst (λ (es : Vec LaneEntry). AreLists es.items) (sym step.entries) can.has.are.at_stops.lists;
        within = λ stop. subst (λ (es : Vec LaneEntry). slice_index stops.heads.items stop < length es.items) (sym step.entries)
            (subst (λ (hs : Vec ℕ). slice_index hs.items stop < entries_of old.lanes.stops) (sym step.heads) (can.has.are.at_stops.within stop));
      }

      lanes_are : AreInLanes count_stops count_trips hop.bound.now lanes
      lanes_are = record {
        at_stops = lists_are;
        stops_are = ap (λ (hs : Vec ℕ). length hs.items) step.heads;
        trips_are = refl;
        exits = λ k x at. subst (λ (es : Vec LaneEntry). LeadsWithin (length es.items) x) (sym step.entries) (can.has.are.exits k x at);
        excludes = can.has.are.excludes;
      }

      exits_same : exits_in (tags_at stops) old.lanes.exits.items ≡ (value_by_trips old).exits
      exits_same = ap (λ (es : Vec LaneEntry). exits_in (λ m. tags_in (slice_get es.items m)) old.lanes.exits.items) step.entries

      points_same : (stop : ℕ) → points_at stops stop ≡ points_at old.lanes.stops stop
      points_same stop = ap (λ (hs : Vec ℕ). points_from stops.entries.items (slice_index hs.items stop)) step.heads
          ∙ ap (λ (es : Vec LaneEntry). points_from es.items (slice_index old.lanes.stops.heads.items stop)) step.entries

      pub label_boarded : BoardsLabel (record { lanes = lanes; beyond = beyond })
      label_boarded = record {
        has = has_bags can.has.are lanes lanes_are;
        labels = same_labels;
        trips_same = refl;
        points = points_same;
        takes = record {
          exits = exits_same;
          steps = step.more;
          labels = labels_same;
          takes = λ walks at stop set_outs before all first_grows then_grows.
              let was = scan_records (value_by_trips old).exits (value_by_trips old).steps set_outs in
              let now = scan_records (exits_in (tags_at stops) old.lanes.exits.items) (steps_of stops) set_outs in
              let grows : Grows was now = record {
                exits = subst (Extends (value_by_trips old).exits) (sym exits_same) (extends_none (value_by_trips old).exits);
                steps = step.more;
                set_outs = extends_none set_outs;
              } in
              let there = subst (λ n. slice_get (steps_of stops) n ≡ Some (record { first = boarding.first; label = label.tag; walk = boarding.walk }))
              (sym tag_is) step.step in
              in_union (from_to (spelling_of walks before) (spelling_of walks all))
              (λ _. step_spelled walks before all tag boarding.first label.tag boarding.walk walk
              (grows_on before was all first_grows (grows_on was now all grows then_grows))
              (stays (steps_of stops) all.steps then_grows.steps tag (record { first = boarding.first; label = label.tag; walk = boarding.walk }) there) at)
              stop (points_at stops stop) (points_same stop);
        };
      }

-- the first n labels beyond lanes of the hop's trip have been boarded with
abbrev pub BoardsSome : Hop TimeTrips → Footpath → Boarding → ByTrips → ℕ → ByTrips → Type 0
BoardsSome hop walk boarding old n = BoardsBeyond (stops_of old.lanes.stops) (trips_of old.lanes.trips) hop
    (BagsTake trip_rules (λ walks. slice_get walks boarding.walk ≡ Some walk) (λ way. Excludes trip_rules hop.bound.now way.0.value)
    (λ stop tags. each_of (StandsBefore (points_beyond old.beyond.labels.items hop.connection.trip) n) (boarding_of walk boarding stop tags))) old

-- after a footpath, with one label more of those beyond lanes
module _ (hop : Hop TimeTrips) (walk_index : ℕ) (walk : Footpath) (old : ByTrips) (can : CanBoardBeyond hop walk old) where
  abbrev Labels : List (Point TimeTrips)
  Labels = points_beyond old.beyond.labels.items hop.connection.trip

  abbrev Excused : TimeTrips → Type 0
  Excused = Excludes trip_rules hop.bound.now

  abbrev BoardsHere : (KeptValue TimeTrips → KeptValue TimeTrips → Type 0) → ByTrips → Type 0
  BoardsHere Takes = BoardsBeyond (stops_of old.lanes.stops) (trips_of old.lanes.trips) hop Takes old

  pub labels_admitted : (l : Point TimeTrips) → Contains Labels l → Admits trip_rules l.value
  labels_admitted l is = (label_is_bag old.beyond hop.connection.trip).admitted l is

  pub early_boards : hop.connection.dep < walk.secs → BoardsHere (boards_after trip_rules hop Labels walk_index walk) old
  early_boards early = stays_so can.has (bags_none trip_rules (λ stop tags way opened. let late = opened.0.1 in absurd (omega (arith, early, late))))

  module _ (boarding : Boarding) where
    pub labels_first : BoardsSome hop walk boarding old 0 old
    labels_first = stays_so can.has (bags_none trip_rules (λ stop tags way opened. let none = opened.0.1 in absurd (omega (arith, none))))

    pub labels_next : (n : ℕ) (label : Point TimeTrips) (mid new : ByTrips) → slice_get Labels n ≡ Some label → BoardsSome hop walk boarding old n mid
        → BoardsBeyond (stops_of mid.lanes.stops) (trips_of mid.lanes.trips) hop (boards_label hop walk boarding label) mid new
        → BoardsSome hop walk boarding old (n + 1) new
    labels_next n label mid new at =
        boards_then (bags_then trip_rules (λ walks are. (are, are)) (λ stop tags.
        each_more trip_rules Labels (boarding_of walk boarding stop tags) (λ l. Excused l.value) n label at
        (λ l way is opened. ride_admitted l.value (labels_admitted l is))))

    pub labels_all : (n : ℕ) (new : ByTrips) → length Labels ≤ n → boarding.walk ≡ walk_index → boarding.first ≡ hop.place
        → boarding.departure ≡ hop.connection.dep - walk.secs → walk.secs ≤ hop.connection.dep → BoardsSome hop walk boarding old n new
        → BoardsHere (boards_after trip_rules hop Labels walk_index walk) new
    labels_all n new all_of walk_is first_is departure_is fits boards = record {
      has = boards.has;
      labels = boards.labels;
      trips_same = boards.trips_same;
      points = boards.points;
      takes = bags_as trip_rules (λ walks at. ap (slice_get walks) walk_is ∙ at) (λ stop tags takes.
          but_as trip_rules (λ way. Excused way.0.value) (λ l. Excused l.value) (each_of (StandsBefore Labels n) (boarding_of walk boarding stop tags))
          (boardings_by trip_rules tags hop.place hop.connection stop Labels walk) ((value_by_trips old).bag stop) ((value_by_trips new).bag stop)
          (λ way opened. record {
            there = way.0;
            is_open = ((opened.1.0, fits), stands_in Labels n way.0 opened.0);
            departs = departure_is;
            worth = refl;
            fits = λ tag told x e. told x e ∙ ap (λ first. Some (record { walk = walk ∷ []; rides = boarded first x })) first_is;
          })
          (λ label opened. subst (λ d. Covers trip_rules ((value_by_trips new).bag stop) d (trip_rules.ride label.value) ⊎ Excused label.value) departure_is
          (takes.covered (label, tt) (all_stand Labels n label all_of opened.1, (opened.0.0, tt))))
          takes) boards.takes;
    }

-- after each of some footpaths, one more at a time
module _ (t : TimetableValue) (hop : Hop TimeTrips) (begin : ℕ) where
  abbrev pub BoardsTo : ℕ → ByTrips → ByTrips → Type 0
  BoardsTo end old = BoardsBeyond t.stops t.trips hop
      (boards_after_each trip_rules t begin end hop (points_beyond old.beyond.labels.items hop.connection.trip)) old

  pub walks_first : (old : ByTrips) → HasBags t.stops t.trips hop old → BoardsTo begin old old
  walks_first old has =
      stays_so has (bags_first trip_rules t hop (points_beyond old.beyond.labels.items hop.connection.trip) (λ l. Excludes trip_rules hop.bound.now l.value)
      begin (value_by_trips old))

  pub walks_next : (k : ℕ) (walk : Footpath) (old mid new : ByTrips) → begin ≤ k → slice_get t.footpaths k ≡ Some walk → BoardsTo k old mid
      → BoardsBeyond (stops_of mid.lanes.stops) (trips_of mid.lanes.trips) hop
      (boards_after trip_rules hop (points_beyond mid.beyond.labels.items hop.connection.trip) k walk) mid new
      → BoardsTo (k + 1) old new
  walks_next k walk old mid new low at before here =
      let labels : Vec _ → List (Point TimeTrips) = λ bags. points_beyond bags.items hop.connection.trip in
      boards_then (bags_next trip_rules t hop (labels old.beyond.labels) (λ l. Excludes trip_rules hop.bound.now l.value) begin k walk low at
      (λ l is f _. ride_admitted l.value ((label_is_bag old.beyond hop.connection.trip).admitted l is))) before
      (subst (λ bags. BoardsBeyond (stops_of mid.lanes.stops) (trips_of mid.lanes.trips) hop (boards_after trip_rules hop (labels bags) k walk) mid new)
      before.labels here)

-- passengers may get on, or not
module _ (t : TimetableValue) (q : SetQueryValue) (known : Starts) (hop : Hop TimeTrips) (old : ByTrips) (can : CanBoardByTrips t q known hop old)
    (has : HasBags t.stops t.trips hop old) where
  abbrev Beyonds : List (Point TimeTrips)
  Beyonds = points_beyond old.beyond.labels.items hop.connection.trip

  pub none_boards_beyond : hop.connection.board ≡ false → BoardsBeyond t.stops t.trips hop (boards_all trip_rules t hop Beyonds) old old
  none_boards_beyond closed = stays_so has (bags_closed trip_rules t hop Beyonds (value_by_trips old) can.hop.stands closed)

  pub each_boards_beyond : hop.connection.board ≡ true → (begin end : ℕ)
      → ((k : ℕ) (f : Footpath) → At t.footpaths k f → (f.to ≡ hop.connection.from) ↔ ((begin ≤ k) × (k < end)))
      → (new : ByTrips) → BoardsTo t hop begin end old new → BoardsBeyond t.stops t.trips hop (boards_all trip_rules t hop Beyonds) old new
  each_boards_beyond boards begin end into new each = record {
    has = each.has;
    labels = each.labels;
    trips_same = each.trips_same;
    points = each.points;
    takes = bags_all trip_rules t hop Beyonds (λ l. Excludes trip_rules hop.bound.now l.value) begin end can.hop.stands boards into each.takes;
  }

-- in lanes, and then beyond them
module _ (t : TimetableValue) (q : SetQueryValue) (known : Starts) (hop : Hop TimeTrips) (old : ByTrips) (can : CanBoardByTrips t q known hop old)
    (lanes : InLanes)
    (first : LaneBoards t.stops t.trips hop.bound.now (boards_all trip_rules t hop ((value_of old.lanes).labels hop.connection.trip)) old.lanes lanes) where
  abbrev mid : ByTrips
  mid = record { lanes = lanes; beyond = old.beyond }

  pub can_board_beyond : CanBoardByTrips t q known hop mid
  can_board_beyond = record { hop = can.hop; are = record { in_lanes = first.are; beyond = can.are.beyond } }

  -- if there are bags
  pub has_bags_still : (old.beyond.labels.items ≡ [] → ⊥) → HasBags t.stops t.trips hop mid
  has_bags_still some = elim can.are.beyond [
    | inl none ↦ absurd (some none.0)
    | inr long ↦ record { are = first.are; values = can.hop.bound; labels = long.0; points = long.1 }
  ]

  abbrev Lane : List (Point TimeTrips)
  Lane = label_points (labels_at old.lanes.trips hop.connection.trip)

  abbrev Rest : List (Point TimeTrips)
  Rest = points_beyond old.beyond.labels.items hop.connection.trip

  both_boarded : (new : ByTrips) → boards_all trip_rules t hop Rest (value_by_trips mid) (value_by_trips new)
      → boards_all trip_rules t hop ((value_by_trips old).labels hop.connection.trip) (value_by_trips old) (value_by_trips new)
  both_boarded new =
      bags_then trip_rules (λ walks are. (are, are))
      (λ stop tags. boardings_both trip_rules t (Excludes trip_rules hop.bound.now) tags hop.place stop Lane Rest
      (λ way opened. lanes_admit old.lanes.trips hop.connection.trip way.label opened.is_label))
      (bags_beside trip_rules (points_beyond old.beyond.points.items) (points_beyond old.beyond.labels.items) first.takes)

  pub all_boarded : (new : ByTrips) → BoardsBeyond t.stops t.trips hop (boards_all trip_rules t hop Rest) mid new → BoardsByTrips t hop old new
  all_boarded new second = record {
    are = record { in_lanes = second.has.are; beyond = inr (second.has.labels, second.has.points) };
    takes = both_boarded new second.takes;
  }

  -- if the trip has no labels beyond lanes
  pub lanes_boarded : Rest ≡ [] → BoardsByTrips t hop old mid
  lanes_boarded none = record {
    are = record { in_lanes = first.are; beyond = can.are.beyond };
    takes = both_boarded mid (bags_none trip_rules (λ stop tags way opened.
        absurd (not_in_nil way.label (subst (λ (ps : List (Point TimeTrips)). Contains ps way.label) none opened.is_label))));
  }
