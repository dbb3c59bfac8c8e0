-- Passengers board with the labels of a trip in lanes.
use Rattle.std.proofs.Common.{◌≡◌, ℕ, suc, ◌+◌, ◌-◌, ◌<◌, ◌≤◌, List, [], ◌∷◌, Contains, Some, slice_get, inl, inr, refl, sym, ap, ◌∙◌, subst, arith}
use Rattle.std.proofs.Common.{min, nat_le, nat_lt, true, false, ◌↔◌}
use Rattle.std.proofs.lemmas.Bool.{cases_eq, and_parts, and_from, le-leb}
use Rattle.reasoning.specs.Lists.{Extends}
use Rattle.reasoning.proofs.ListLemmas.{extends_none}
use Rattle.criteria.specs.Laws.{Admits, time_limit}
use Rattle.criteria.specs.declared.arrival_trips.TimeTrips.{TimeTrips}
use Rattle.bags.specs.Dominance.{IsCovered}
use Rattle.bags.specs.declared.point.Point.{Point}
use Rattle.timetable.specs.declared.network.Footpath.{Footpath}
use Rattle.timetable.specs.TimetableValue.{TimetableValue}
use Rattle.timetable.specs.Legal.{At}
use Rattle.fronts.specs.declared.entry.Boarding.{Boarding}
use Rattle.fronts.specs.declared.labels.Label.{Label}
use Rattle.lanes.specs.Lanes.{trip_rules, IsOutdone}
use Rattle.lanes.specs.TripLanes.{front_labels, labels_at, trips_of}
use Rattle.lanes.specs.StopLanes.{IsBoardedAt, entries_of, points_at, steps_of, stops_of, tags_at}
use Rattle.lanes.specs.declared.stop_lanes.StopLanes.{StopLanes}
use Rattle.lanes.specs.declared.trip_lanes.TripLanes.{TripLanes}
use Rattle.lanes.proofs.EntryLemmas.{from_map, into_map}
use Rattle.scan_state.specs.SetQuery.{SetQueryValue}
use Rattle.scan_state.specs.declared.starts.Starts.{Starts}
use Rattle.scan_state.specs.Matching.{Spellings, from_to}
use Rattle.scan_state.specs.Steps.{Offer, TakesInBut}
use Rattle.scan_state.specs.Bound.{Excludes}
use Rattle.scan_state.specs.Adding.{boardings_by, label_points}
use Rattle.scan_state.specs.ScanRecords.{ScanRecords, Grows, scan_records, spelling_of}
use Rattle.scan_state.specs.KeptParts.{boards_after, boards_after_each, boards_all}
use Rattle.by_trips.specs.InLanes.{AreInLanes, CanBoardHop, CanBoardLanes, LaneBoards, LeadsWithin, exit_of}
use Rattle.by_trips.specs.InLanes.{exits_in, value_of}
use Rattle.scan_state.specs.declared.hop.Hop.{Hop}
use Rattle.by_trips.specs.declared.in_lanes.InLanes.{InLanes}
use Rattle.by_trips.specs.declared.in_lanes.LaneExit.{LaneExit}
use Rattle.by_trips.specs.declared.in_lanes.LaneExit.TheVariants.{Ends as EndsLane, Changes as ChangesLane, ChangesToStep as ToStep}
use Rattle.scan_state.specs.declared.scan_records.Exit.{Exit}
use Rattle.scan_state.specs.declared.scan_records.SetOut.{SetOut}
use Rattle.by_trips.proofs.LaneOffers.{as_point}
use Rattle.by_trips.proofs.LanesLeft.{label_admits}
use Rattle.scan_state.proofs.KeptLemmas.{bags_all, bags_closed, bags_first, bags_next, bags_none}
use Rattle.scan_state.proofs.Offers.{but_none}
use Rattle.scan_state.proofs.ScanRecordLemmas.{grows_on, stays, step_spelled}

-- exits mean the same where the entries that they name keep their tags
same_exit : (tags other : ℕ → List ℕ) (entries : ℕ) (x : LaneExit) → LeadsWithin entries x → ((m : ℕ) → m < entries → other m ≡ tags m) → (k : ℕ)
    → exit_of other x k ≡ exit_of tags x k
same_exit tags other entries (EndsLane last walk) leads same k = refl
same_exit tags other entries (ToStep last step) leads same k = refl
same_exit tags other entries (ChangesLane last entry) leads same k =
    ap (λ ts. exit_of (λ _. ts) (ChangesLane last entry) k) (same entry leads)

same_eight : (tags other : ℕ → List ℕ) (x : LaneExit) → ((k : ℕ) → exit_of other x k ≡ exit_of tags x k) → (rest more : List Exit) → more ≡ rest
    → exit_of other x 0 ∷ exit_of other x 1 ∷ exit_of other x 2 ∷ exit_of other x 3 ∷ exit_of other x 4 ∷ exit_of other x 5 ∷ exit_of other x 6
    ∷ exit_of other x 7 ∷ more
    ≡ exit_of tags x 0 ∷ exit_of tags x 1 ∷ exit_of tags x 2 ∷ exit_of tags x 3 ∷ exit_of tags x 4 ∷ exit_of tags x 5 ∷ exit_of tags x 6
    ∷ exit_of tags x 7 ∷ rest
same_eight tags other x same rest more is = λ i. same 0 i ∷ same 1 i ∷ same 2 i ∷ same 3 i ∷ same 4 i ∷ same 5 i ∷ same 6 i ∷ same 7 i ∷ is i

pub same_exits : (tags other : ℕ → List ℕ) (entries : ℕ) (xs : List LaneExit)
    → ((k : ℕ) (x : LaneExit) → slice_get xs k ≡ Some x → LeadsWithin entries x)
    → ((m : ℕ) → m < entries → other m ≡ tags m) → exits_in other xs ≡ exits_in tags xs
same_exits tags other entries [] leads same = refl
same_exits tags other entries (x ∷ xs) leads same =
    same_eight tags other x (same_exit tags other entries x (leads 0 x refl) same) (exits_in tags xs) (exits_in other xs)
    (same_exits tags other entries xs (λ k y at. leads (suc k) y at) same)

-- an exit still names one of the entries
still_within : (few many : ℕ) → few ≤ many → (x : LaneExit) → LeadsWithin few x → LeadsWithin many x
still_within few many le (EndsLane last walk) leads = tt
still_within few many le (ToStep last step) leads = tt
still_within few many le (ChangesLane last entry) leads = omega (arith, leads, le)

-- riding keeps a value admitted
pub ride_admitted : (v : TimeTrips) → Admits trip_rules v → Admits trip_rules (trip_rules.ride v)
ride_admitted v a =
    let p = and_parts (nat_lt v.time time_limit) (nat_le v.trips 65535) a in
    and_from (nat_lt v.time time_limit) (nat_le (min (v.trips + 1) 65535) 65535) p.0 (le-leb (min (v.trips + 1) 65535) 65535 (omega arith))

module _ (hop : Hop TimeTrips) (walk_index number : ℕ) (walk : Footpath) (old : InLanes) (can : CanBoardLanes hop walk old) where
  abbrev Labels : List (Label TimeTrips)
  Labels = labels_at old.trips hop.connection.trip

  abbrev boarding : Boarding
  boarding = record { departure = hop.connection.dep - walk.secs; first = hop.place; walk = number; secs = walk.secs }

  module _ (stops : StopLanes) (boarded : IsBoardedAt walk.from boarding Labels (front_labels old.bound) old.stops stops) (number_is : number ≡ walk_index)
      (late : walk.secs ≤ hop.connection.dep) where
    abbrev new : InLanes
    new = record { trips = old.trips; stops = stops; exits = old.exits; bound = old.bound }

    exits_same : (value_of new).exits ≡ (value_of old).exits
    exits_same = same_exits (tags_at old.stops) (tags_at stops) (entries_of old.stops) old.exits.items can.are.exits boarded.tags

    -- at the stop where the footpath begins
    module _ (walks : List Footpath) (at : slice_get walks walk_index ≡ Some walk) (set_outs : List SetOut) (before all : ScanRecords)
        (grows : Grows before all) (steps_more : Extends (steps_of stops) all.steps) where
      abbrev spell : Spellings
      spell = from_to (spelling_of walks before) (spelling_of walks all)

      here_taken : TakesInBut trip_rules (λ l. Excludes trip_rules hop.bound.now l.value)
          (boardings_by trip_rules spell hop.place hop.connection walk.from (label_points Labels) walk)
          (points_at old.stops walk.from) (points_at stops walk.from)
      here_taken = record {
        only = λ p h. elim (boarded.takes.only p h) [
          | inl was ↦ inl was
          | inr b ↦ inr (record {
            way = as_point b.by;
            is_open = ((refl, late), into_map as_point Labels b.by b.is_label);
            departs = b.departs;
            worth = b.worth;
            fits = step_spelled walks before all p.tag hop.place b.by.tag number walk grows
                (stays (steps_of stops) all.steps steps_more p.tag (record { first = hop.place; label = b.by.tag; walk = number }) b.goes_on)
                (ap (slice_get walks) number_is ∙ at);
          })
        ];
        kept = λ departure v a covers. boarded.takes.kept departure v covers;
        covered = λ way opened.
            let l = from_map as_point Labels way opened.1 in
            let same = ap (λ (q : Point TimeTrips). q.value) l.2 in
            elim (boarded.takes.covered l.0 l.1) [
              | inl covers ↦ inl (subst (λ (v : TimeTrips). IsCovered trip_rules (points_at stops walk.from) boarding.departure
                  (trip_rules.ride v)) same covers)
              | inr outdone ↦ inr (subst (Excludes trip_rules hop.bound.now) same
                  (can.are.excludes l.0.value (label_admits old.trips hop.connection.trip l.0 l.1) outdone))
            ];
      }

    pub boards : LaneBoards (stops_of old.stops) (trips_of old.trips) hop.bound.now (boards_after trip_rules hop (label_points Labels) walk_index walk)
        old new
    boards = record {
      are = record {
        at_stops = boarded.lists;
        stops_are = boarded.long;
        trips_are = refl;
        exits = λ k x at. still_within (entries_of old.stops) (entries_of stops) boarded.entries x (can.are.exits k x at);
        excludes = can.are.excludes;
      };
      trips_same = refl;
      takes = record {
        exits = exits_same;
        steps = boarded.steps;
        labels = λ trip. refl;
        takes = λ walks at stop set_outs before all first_grows then_grows.
            let was = scan_records (value_of old).exits (value_of old).steps set_outs in
            let now = scan_records (value_of new).exits (value_of new).steps set_outs in
            let grows : Grows was now = record {
              exits = subst (Extends (value_of old).exits) (sym exits_same) (extends_none (value_of old).exits);
              steps = boarded.steps;
              set_outs = extends_none set_outs;
            } in
            let tags = from_to (spelling_of walks before) (spelling_of walks all) in
            let offer : ℕ → Offer (Point TimeTrips) TimeTrips = λ s.
            boardings_by trip_rules tags hop.place hop.connection s (label_points Labels) walk in
            elim (cases_eq stop walk.from) [
              | inl here ↦ subst (λ s. TakesInBut trip_rules (λ l. Excludes trip_rules hop.bound.now l.value) (offer s) (points_at old.stops s)
                  (points_at stops s)) (sym here)
                  (here_taken walks at set_outs before all (grows_on before was all first_grows (grows_on was now all grows then_grows)) then_grows.steps)
              | inr other ↦ subst (TakesInBut trip_rules (λ l. Excludes trip_rules hop.bound.now l.value) (offer stop) (points_at old.stops stop))
                  (sym (boarded.elsewhere stop other))
                  (but_none trip_rules (λ l. Excludes trip_rules hop.bound.now l.value) (offer stop) (points_at old.stops stop)
                  (λ way may. other (sym may.0.0)))
            ];
      };
    }

-- labels of a trip are admitted, also ridden
pub lanes_admit : (trips : TripLanes) (trip : ℕ) (l : Point TimeTrips) → Contains (label_points (labels_at trips trip)) l
    → Admits trip_rules (trip_rules.ride l.value)
lanes_admit trips trip l is =
    let m = from_map as_point (labels_at trips trip) l is in
    subst (λ (p : Point TimeTrips). Admits trip_rules (trip_rules.ride p.value)) m.2 (ride_admitted m.0.value (label_admits trips trip m.0 m.1))

-- after each of some footpaths, one more at a time
module _ (t : TimetableValue) (hop : Hop TimeTrips) (begin : ℕ) where
  abbrev pub BoardsTo : ℕ → InLanes → InLanes → Type 0
  BoardsTo end old = LaneBoards t.stops t.trips hop.bound.now
      (boards_after_each trip_rules t begin end hop ((value_of old).labels hop.connection.trip)) old

  abbrev Excused : Point TimeTrips → Type 0
  Excused l = Excludes trip_rules hop.bound.now l.value

  pub lanes_first : (lanes : InLanes) → AreInLanes t.stops t.trips hop.bound.now lanes → BoardsTo begin lanes lanes
  lanes_first lanes are = record {
    are = are;
    trips_same = refl;
    takes = bags_first trip_rules t hop ((value_of lanes).labels hop.connection.trip) Excused begin (value_of lanes);
  }

  pub lanes_next : (k : ℕ) (walk : Footpath) (old mid new : InLanes) → begin ≤ k → slice_get t.footpaths k ≡ Some walk → BoardsTo k old mid
      → LaneBoards (stops_of mid.stops) (trips_of mid.trips) hop.bound.now
      (boards_after trip_rules hop ((value_of mid).labels hop.connection.trip) k walk) mid new
      → BoardsTo (k + 1) old new
  lanes_next k walk old mid new low at before here = record {
    are = subst (λ n. AreInLanes n t.trips hop.bound.now new) before.are.stops_are
        (subst (λ n. AreInLanes (stops_of mid.stops) n hop.bound.now new) before.are.trips_are here.are);
    trips_same = here.trips_same ∙ before.trips_same;
    takes = bags_next trip_rules t hop ((value_of old).labels hop.connection.trip) Excused begin k walk low at
        (λ l is f _. lanes_admit old.trips hop.connection.trip l is) before.takes
        (subst (λ labels. boards_after trip_rules hop labels k walk (value_of mid) (value_of new)) (before.takes.labels hop.connection.trip) here.takes);
  }

-- passengers may get on, or not
module _ (t : TimetableValue) (q : SetQueryValue) (known : Starts) (hop : Hop TimeTrips) (old : InLanes) (can : CanBoardHop t q known hop old) where
  abbrev BoardsAll : InLanes → Type 0
  BoardsAll = LaneBoards t.stops t.trips hop.bound.now (boards_all trip_rules t hop ((value_of old).labels hop.connection.trip)) old

  pub not_boarded : hop.connection.board ≡ false → BoardsAll old
  not_boarded closed = record {
    are = can.are;
    trips_same = refl;
    takes = bags_closed trip_rules t hop ((value_of old).labels hop.connection.trip) (value_of old) can.hop.stands closed;
  }

  -- the bound outdoes all labels of the trip
  pub all_excluded : ((l : Label TimeTrips) → Contains (labels_at old.trips hop.connection.trip) l → IsOutdone (front_labels old.bound) l.value)
      → BoardsAll old
  all_excluded outdone = record {
    are = can.are;
    trips_same = refl;
    takes = bags_none trip_rules (λ stop tags way may.
        let l = from_map as_point (labels_at old.trips hop.connection.trip) way.label may.is_label in
        inr (subst (λ (p : Point TimeTrips). Excludes trip_rules hop.bound.now p.value) l.2
        (can.are.excludes l.0.value (label_admits old.trips hop.connection.trip l.0 l.1) (outdone l.0 l.1))));
  }

  pub hop_boarded : hop.connection.board ≡ true → (begin end : ℕ)
      → ((k : ℕ) (f : Footpath) → At t.footpaths k f → (f.to ≡ hop.connection.from) ↔ ((begin ≤ k) × (k < end)))
      → (after : InLanes) → BoardsTo t hop begin end old after → BoardsAll after
  hop_boarded boards begin end into after each = record {
    are = each.are;
    trips_same = each.trips_same;
    takes = bags_all trip_rules t hop ((value_of old).labels hop.connection.trip) (λ l. Excludes trip_rules hop.bound.now l.value) begin end
        can.hop.stands boards into each.takes;
  }
