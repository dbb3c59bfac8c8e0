-- A trip is left, by what is in lanes and beyond them.
use Rattle.std.proofs.Common.{◌≡◌, ◌⊎◌, ℕ, ◌+◌, ◌<◌, ◌≤◌, true, List, [], length, Contains, Some, slice_get, slice_index}
use Rattle.std.proofs.Common.{inl, inr, refl, sym, ap, ◌∙◌, subst, arith}
use Rattle.std.proofs.lemmas.List.Elements.{Contains-append_left}
use Rattle.reasoning.proofs.ListLemmas.{not_in_nil}
use Rattle.criteria.specs.Laws.{Admits, NoWorse}
use Rattle.criteria.specs.declared.arrival_trips.TimeTrips.{TimeTrips}
use Rattle.bags.specs.declared.point.Point.{Point}
use Rattle.fronts.specs.declared.labels.Label.{Label}
use Rattle.lanes.specs.Lanes.{IsBeaten, trip_rules, lane_labels}
use Rattle.lanes.specs.LaneLists.{word_tag}
use Rattle.lanes.specs.TripLanes.{labels_at, trips_of}
use Rattle.lanes.specs.StopLanes.{IsFrontFrom, front_at, points_at, stops_of, tags_at}
use Rattle.lanes.specs.declared.words.Words.{Words}
use Rattle.lanes.proofs.LaneLemmas.{stands, no_worse_from, no_worse_parts}
use Rattle.lanes.proofs.CoverLemmas.{points_admitted}
use Rattle.lanes.proofs.EntryLemmas.{into_map}
use Rattle.scan_state.specs.SetQuery.{SetQueryValue}
use Rattle.scan_state.specs.Matching.{Spellings}
use Rattle.scan_state.specs.Steps.{Offer}
use Rattle.scan_state.specs.Bound.{Excludes}
use Rattle.scan_state.specs.Adding.{StandsBefore, changes_from, each_of, label_points, one_way, only_if}
use Rattle.scan_state.specs.ScanRecords.{IsExit, KeptValue}
use Rattle.scan_state.specs.Keeping.{Leaves}
use Rattle.scan_state.specs.KeptParts.{LabelsTake, takes_changes, takes_endings}
use Rattle.by_trips.specs.InLanes.{CanLeaveLanes, IsBeatenByEight, LaneTakes}
use Rattle.by_trips.specs.ByTrips.{AreByTrips, CanLeaveByTrips, LeavesByTrips, RelabelsByTrips, points_beyond, value_by_trips}
use Rattle.by_trips.specs.declared.by_trips.ByTrips.{ByTrips}
use Rattle.scan_state.specs.declared.hop.Hop.{Hop}
use Rattle.by_trips.specs.declared.in_lanes.InLanes.{InLanes}
use Rattle.scan_state.specs.declared.scan_records.Exit.TheVariants.{Changes}
use Rattle.by_trips.proofs.BeyondLemmas.{point_is_bag}
use Rattle.by_trips.proofs.LaneOffers.{as_point}
use Rattle.scan_state.proofs.KeptLemmas.{labels_as, labels_beside, labels_none, labels_then, left}
use Rattle.scan_state.proofs.Offers.{all_stand, but_as, each_more, excused_as, stands_in}
use Rattle.scan_state.proofs.Together.{changes_both}
use Rattle.by_trips.proofs.LaneOffers.{with_missed}
use Rattle.by_trips.proofs.TripLaws.{trip_laws}

-- what is taken in, seen as something else
seen_as : {values : List TimeTrips} {Was Takes : KeptValue TimeTrips → KeptValue TimeTrips → Type 0} {old new : ByTrips}
    → (Was (value_by_trips old) (value_by_trips new) → Takes (value_by_trips old) (value_by_trips new)) → RelabelsByTrips values Was old new
    → RelabelsByTrips values Takes old new
seen_as as_other taken =
    record { are = taken.are; stops = taken.stops; points = taken.points; bags = taken.bags; takes = as_other taken.takes }

module _ (q : SetQueryValue) (hop : Hop TimeTrips) (old : ByTrips) (can : CanLeaveByTrips q hop old) where
  abbrev trip : ℕ
  trip = hop.connection.trip

  abbrev values : List TimeTrips
  values = hop.bound.now

  pub lanes_can : CanLeaveLanes q hop old.lanes
  lanes_can = record { hop = can.hop; are = can.are.in_lanes; trip = can.trip; stop = can.stop }

  pub stop_admits : (p : Point TimeTrips) → Contains (points_at old.lanes.stops hop.connection.to) p → Admits trip_rules p.value
  stop_admits p is =
      points_admitted old.lanes.stops.entries.items can.are.in_lanes.at_stops.lists (slice_index old.lanes.stops.heads.items hop.connection.to) p
      (can.are.in_lanes.at_stops.within hop.connection.to) is

  -- an offer that lanes take in
  pub in_lanes : {A : Type 0} {Excused : A → Type 0} {offer : Spellings → Offer A TimeTrips} {lanes : InLanes}
      → LaneTakes values (LabelsTake trip_rules trip Excused offer) old.lanes lanes
      → RelabelsByTrips values (LabelsTake trip_rules trip Excused offer) old (record { lanes = lanes; beyond = old.beyond })
  in_lanes taken = record {
    are = record { in_lanes = taken.are; beyond = can.are.beyond };
    stops = taken.stops;
    points = λ stop. refl;
    bags = omega arith;
    takes = labels_beside trip_rules (points_beyond old.beyond.points.items) (points_beyond old.beyond.labels.items) taken.takes;
  }

  -- nothing changes
  pub nothing_taken : {Takes : KeptValue TimeTrips → KeptValue TimeTrips → Type 0} → Takes (value_by_trips old) (value_by_trips old)
      → RelabelsByTrips values Takes old old
  nothing_taken takes = record { are = can.are; stops = refl; points = λ stop. refl; bags = omega arith; takes = takes }

  -- lanes already beat a label
  pub beaten_taken : (value : TimeTrips) (fits : Spellings → ℕ → Type 0) → IsBeaten (labels_at old.lanes.trips trip) value
      → RelabelsByTrips values (LabelsTake trip_rules trip (λ _. ⊥) (λ tags. one_way 0 value (fits tags))) old old
  beaten_taken value fits (l, is, no_worse) =
      nothing_taken (labels_none trip_rules (λ tags way opened. inl (
        as_point l,
        Contains-append_left (label_points (labels_at old.lanes.trips trip)) (points_beyond old.beyond.labels.items trip) (as_point l)
            (into_map as_point (labels_at old.lanes.trips trip) l is),
        omega arith,
        no_worse,
      )))

  -- after an offer is taken in, the trip may still be left
  module _ {mid : ByTrips} {First : KeptValue TimeTrips → KeptValue TimeTrips → Type 0} (first : RelabelsByTrips values First old mid) where
    pub still_can : CanLeaveByTrips q hop mid
    still_can =
        let stops = first.are.in_lanes.stops_are in
        let trips = first.are.in_lanes.trips_are in
        record {
          hop = can.hop;
          are = subst (λ n. AreByTrips n (trips_of mid.lanes.trips) values mid) (sym stops)
              (subst (λ n. AreByTrips (stops_of old.lanes.stops) n values mid) (sym trips) first.are);
          trip = subst (λ n. trip < n) (sym trips) can.trip;
          stop = subst (λ n. hop.connection.to < n) (sym stops) can.stop;
        }

    -- one after another
    pub one_then : {Second Both : KeptValue TimeTrips → KeptValue TimeTrips → Type 0} {new : ByTrips}
        → (First (value_by_trips old) (value_by_trips mid) → Second (value_by_trips mid) (value_by_trips new)
        → Both (value_by_trips old) (value_by_trips new))
        → RelabelsByTrips values Second mid new → RelabelsByTrips values Both old new
    one_then {new = new} join second = record {
      are = subst (λ n. AreByTrips n (trips_of old.lanes.trips) values new) first.are.in_lanes.stops_are
          (subst (λ n. AreByTrips (stops_of mid.lanes.stops) n values new) first.are.in_lanes.trips_are second.are);
      stops = second.stops ∙ first.stops;
      points = λ stop. second.points stop ∙ first.points stop;
      bags = (let before = first.bags in let after = second.bags in omega (arith, before, after));
      takes = join first.takes second.takes;
    }

  abbrev pub ButEight : ℕ → KeptValue TimeTrips → KeptValue TimeTrips → Type 0
  ButEight entry = LabelsTake trip_rules trip (λ p. Excludes trip_rules values p.value ⊎ IsBeatenByEight (front_at old.lanes.stops entry) p.value)
      (λ tags. changes_from tags hop.place hop.connection.arr (points_at old.lanes.stops hop.connection.to))

  -- the front of an entry stands for the stop's points; its value of eight trips is offered by itself
  module _ (entry : ℕ) (stands_for : IsFrontFrom old.lanes.stops hop.connection.to hop.connection.arr entry) (mid : ByTrips) (front : Words)
      (first : RelabelsByTrips values (ButEight entry) old mid)
      (words : front_at mid.lanes.stops entry ≡ lane_labels (word_tag (tags_at mid.lanes.stops entry)) front.times) where
    abbrev Labels : List (Label TimeTrips)
    Labels = lane_labels (word_tag (tags_at mid.lanes.stops entry)) front.times

    same : front_at old.lanes.stops entry ≡ Labels
    same = ap (λ s. front_at s entry) (sym first.stops) ∙ words

    pub none_of_eight : ((tag : ℕ → ℕ) (l : Label TimeTrips) → Contains (lane_labels tag front.times) l → l.value.trips < 8)
        → RelabelsByTrips values (takes_changes trip_rules hop (points_at old.lanes.stops hop.connection.to)) old mid
    none_of_eight few =
        seen_as (labels_as trip_rules (λ tags.
        excused_as trip_rules (λ p. Excludes trip_rules values p.value ⊎ IsBeatenByEight (front_at old.lanes.stops entry) p.value)
        (λ p. Excludes trip_rules values p.value)
        (changes_from tags hop.place hop.connection.arr (points_at old.lanes.stops hop.connection.to)) ((value_by_trips old).labels trip)
        ((value_by_trips mid).labels trip)
        (λ way opened was. elim was [
          | inl excluded ↦ excluded
          | inr eight ↦
              let less = few (word_tag (tags_at mid.lanes.stops entry)) eight.0 (subst (λ (ls : List (Label TimeTrips)). Contains ls eight.0) same eight.1) in
              let trips = eight.2 in
              absurd (omega (arith, less, trips))
        ]))) first

    module _ (value : TimeTrips) (step : ℕ) (eight : value.trips ≡ 8)
        (has : (tag : ℕ → ℕ) → Contains (lane_labels tag front.times) (record { value = value; tag = tag 8 }))
        (step_is : step ≡ slice_index (tags_at mid.lanes.stops entry) 7) where
      abbrev label : Label TimeTrips
      label = record { value = value; tag = slice_index (tags_at mid.lanes.stops entry) 7 }

      from : (p : Point TimeTrips) × Contains (points_at old.lanes.stops hop.connection.to) p × (hop.connection.arr ≤ p.departure)
          × (p.value ≡ value) × (p.tag ≡ label.tag)
      from = stands_for.made_of label (subst (λ (ls : List (Label TimeTrips)). Contains ls label) (sym same) (has (word_tag (tags_at mid.lanes.stops entry))))

      pub eight_admits : Admits trip_rules value
      eight_admits = subst (Admits trip_rules) from.3 (stop_admits from.0 from.1)

      no_worse : (p : Point TimeTrips) → IsBeatenByEight (front_at old.lanes.stops entry) p.value → NoWorse trip_rules from.0.value p.value
      no_worse p beaten =
          let is = subst (λ (ls : List (Label TimeTrips)). Contains ls beaten.0) same beaten.1 in
          let at = (stands (word_tag (tags_at mid.lanes.stops entry)) front.times beaten.0 is).at in
          let here = (stands (word_tag (tags_at mid.lanes.stops entry)) front.times label (has (word_tag (tags_at mid.lanes.stops entry)))).at in
          let trips = beaten.2 in
          let time : slice_index front.times 8 ≡ beaten.0.value.time = subst (λ n. slice_index front.times n ≡ beaten.0.value.time) trips at in
          let own : slice_index front.times 8 ≡ value.time = subst (λ n. slice_index front.times n ≡ value.time) eight here in
          let parts = no_worse_parts beaten.0.value p.value beaten.3 in
          subst (λ (v : TimeTrips). NoWorse trip_rules v p.value) (sym from.3)
          (no_worse_from value p.value (omega (arith, parts, time, own)) (omega (arith, parts, trips, eight)))

      pub with_eight : (new : ByTrips)
          → RelabelsByTrips values (LabelsTake trip_rules trip (λ _. ⊥) (λ tags. one_way 0 value (IsExit tags (Changes hop.place step)))) mid new
          → RelabelsByTrips values (takes_changes trip_rules hop (points_at old.lanes.stops hop.connection.to)) old new
      with_eight new second =
          one_then first
          (labels_then trip_rules (λ tags.
          with_missed (λ p. Excludes trip_rules values p.value) (λ p. IsBeatenByEight (front_at old.lanes.stops entry) p.value)
          tags hop.place hop.connection.arr (points_at old.lanes.stops hop.connection.to) stop_admits from.0 from.1 from.2 no_worse))
          (subst (λ n. RelabelsByTrips values (LabelsTake trip_rules trip (λ _. ⊥)
          (λ tags. one_way 0 from.0.value (IsExit tags (Changes hop.place n)))) mid new)
          (step_is ∙ sym from.4)
          (subst (λ (v : TimeTrips). RelabelsByTrips values (LabelsTake trip_rules trip (λ _. ⊥)
          (λ tags. one_way 0 v (IsExit tags (Changes hop.place step)))) mid new) (sym from.3) second))

-- one point of those beyond lanes after another
module _ (q : SetQueryValue) (hop : Hop TimeTrips) (old : ByTrips) (can : CanLeaveByTrips q hop old) where
  abbrev Excused : TimeTrips → Type 0
  Excused = Excludes trip_rules hop.bound.now

  -- what one point offers
  abbrev pub ChangeOf : Spellings → Point TimeTrips → Offer (Unit {0}) TimeTrips
  ChangeOf tags p = only_if (hop.connection.arr ≤ p.departure) (one_way 0 p.value (IsExit tags (Changes hop.place p.tag)))

  pub change_offered : (p : Point TimeTrips) (step : ℕ) (new : ByTrips) → step ≡ p.tag → hop.connection.arr ≤ p.departure
      → RelabelsByTrips hop.bound.now (LabelsTake trip_rules hop.connection.trip (λ _. ⊥)
      (λ tags. one_way 0 p.value (IsExit tags (Changes hop.place step)))) old new
      → RelabelsByTrips hop.bound.now (LabelsTake trip_rules hop.connection.trip (λ _. Excused p.value) (λ tags. ChangeOf tags p)) old new
  change_offered p step new step_is late taken =
      seen_as (labels_as trip_rules (λ tags takes. record {
        only = λ x h. elim (takes.only x h) [
          | inl was ↦ inl was
          | inr o ↦ inr (record { way = o.way; is_open = (late, o.is_open); departs = o.departs; worth = o.worth; fits = o.fits })
        ];
        kept = takes.kept;
        covered = λ way opened. elim (takes.covered way tt) [ inl c ↦ inl c | inr none ↦ absurd none ];
      }))
      (subst (λ n. RelabelsByTrips hop.bound.now (LabelsTake trip_rules hop.connection.trip (λ _. ⊥)
      (λ tags. one_way 0 p.value (IsExit tags (Changes hop.place n)))) old new) step_is taken)

  abbrev Points : List (Point TimeTrips)
  Points = points_beyond old.beyond.points.items hop.connection.to

  pub points_admitted_beyond : (p : Point TimeTrips) → Contains Points p → Admits trip_rules p.value
  points_admitted_beyond p is = (point_is_bag old.beyond hop.connection.to).admitted p is

  abbrev pub ChangesSome : ℕ → ByTrips → Type 0
  ChangesSome n = RelabelsByTrips hop.bound.now (LabelsTake trip_rules hop.connection.trip (λ way. Excused way.0.value)
      (λ tags. each_of (StandsBefore Points n) (ChangeOf tags))) old

  pub changes_first : ChangesSome 0 old
  changes_first =
      nothing_taken q hop old can (labels_none trip_rules (λ tags way opened. let none = opened.0.1 in absurd (omega (arith, none))))

  pub changes_next : (n : ℕ) (p : Point TimeTrips) (mid new : ByTrips) → slice_get Points n ≡ Some p → ChangesSome n mid
      → RelabelsByTrips hop.bound.now (LabelsTake trip_rules hop.connection.trip (λ _. Excused p.value) (λ tags. ChangeOf tags p)) mid new
      → ChangesSome (n + 1) new
  changes_next n p mid new at before =
      one_then q hop old can before (labels_then trip_rules (λ tags.
      each_more trip_rules Points (ChangeOf tags) (λ y. Excused y.value) n p at (λ y way is opened. points_admitted_beyond y is)))

  pub changes_all : (n : ℕ) (new : ByTrips) → length Points ≤ n → ChangesSome n new
      → RelabelsByTrips hop.bound.now (takes_changes trip_rules hop Points) old new
  changes_all n new all_of =
      seen_as (labels_as trip_rules (λ tags takes.
      but_as trip_rules (λ way. Excused way.0.value) (λ p. Excused p.value) (each_of (StandsBefore Points n) (ChangeOf tags))
      (changes_from tags hop.place hop.connection.arr Points) ((value_by_trips old).labels hop.connection.trip)
      ((value_by_trips new).labels hop.connection.trip)
      (λ way opened. record {
        there = way.0;
        is_open = (stands_in Points n way.0 opened.0, opened.1.0);
        departs = refl;
        worth = refl;
        fits = λ tag h. h;
      })
      (λ p opened. takes.covered (p, tt) (all_stand Points n p all_of opened.0, (opened.1, tt))) takes))

  -- no point beyond lanes, no change
  pub none_changed : Points ≡ [] → RelabelsByTrips hop.bound.now (takes_changes trip_rules hop Points) old old
  none_changed none =
      nothing_taken q hop old can (labels_none trip_rules (λ tags p opened.
      absurd (not_in_nil p (subst (λ (ps : List (Point TimeTrips)). Contains ps p) none opened.0))))

  -- the ways to leave: to end, to change by lanes, and by what is beyond them
  pub has_left : hop.connection.alight ≡ true → (ended changed new : ByTrips)
      → RelabelsByTrips hop.bound.now (takes_endings trip_rules q hop) old ended
      → RelabelsByTrips hop.bound.now (takes_changes trip_rules hop (points_at ended.lanes.stops hop.connection.to)) ended changed
      → RelabelsByTrips hop.bound.now (takes_changes trip_rules hop (points_beyond changed.beyond.points.items hop.connection.to)) changed new
      → LeavesByTrips q hop old new
  has_left alights ended changed new first second third =
      let can_change = still_can q hop old can first in
      let by_bags = subst (λ ps. RelabelsByTrips hop.bound.now (takes_changes trip_rules hop ps) changed new) (second.points hop.connection.to) third in
      let to_change : RelabelsByTrips hop.bound.now (takes_changes trip_rules hop ((value_by_trips ended).bag hop.connection.to)) ended new =
      one_then q hop ended can_change second (labels_then trip_rules (λ tags.
      changes_both trip_rules (λ p. Excused p.value) tags hop.place hop.connection.arr (points_at ended.lanes.stops hop.connection.to)
      (points_beyond ended.beyond.points.items hop.connection.to) (stop_admits q hop ended can_change))) by_bags in
      let all : RelabelsByTrips hop.bound.now (Leaves trip_rules q hop) old new =
      one_then q hop old can first (left trip_rules trip_laws q hop can.hop alights) to_change in
      record { are = all.are; leaves = all.takes }
