-- Bags beyond lanes, and a label put into one of them.
use Rattle.std.proofs.Common.{◌≡◌, ◌≢◌, ℕ, ◌+◌, ◌*◌, ◌<◌, ◌≤◌, Bool, true, false, nat_eq, vec_len, get_or, List, [], ◌∷◌, ◌++◌, length}
use Rattle.std.proofs.Common.{set, slice_get, Option, Some}
use Rattle.std.proofs.Common.{inl, inr, refl, sym, ap, ◌∙◌, subst, arith, length-set}
use Rattle.std.specs.Global.{Vec}
use Rattle.std.proofs.lemmas.Bool.{cases_lt, eqb-true, eqb-false, true≢false}
use Rattle.std.proofs.lemmas.Option.{slice_get_within, slice_get_past, slice_get_read}
use Rattle.std.proofs.lemmas.List.{length_push, nil_from_length}
use Rattle.reasoning.proofs.ListLemmas.{not_in_nil, extends_none, slice_get-front, slice_get-last, slice_get-set_same, slice_get-set_other}
use Rattle.reasoning.proofs.OptionLemmas.{option_cases}
use Rattle.criteria.specs.Laws.{Rules, Admits}
use Rattle.criteria.specs.declared.arrival_trips.TimeTrips.{TimeTrips}
use Rattle.bags.specs.Bag.{points_of}
use Rattle.bags.specs.Dominance.{IsBag, Inserted, Stands}
use Rattle.bags.specs.declared.bag.Bag.{Bag}
use Rattle.bags.specs.declared.point.Point.{Point}
use Rattle.lanes.specs.Lanes.{trip_rules}
use Rattle.lanes.specs.TripLanes.{labels_at, trips_of}
use Rattle.lanes.specs.StopLanes.{points_at, stops_of, tags_at}
use Rattle.scan_state.specs.SetQuery.{SetQueryValue}
use Rattle.scan_state.specs.Matching.{from_to}
use Rattle.scan_state.specs.Steps.{TakesIn, TakesInBut}
use Rattle.scan_state.specs.Adding.{label_points, one_way}
use Rattle.scan_state.specs.ScanRecords.{IsExit, KeptValue, spelling_of}
use Rattle.scan_state.specs.KeptParts.{LabelsTake}
use Rattle.by_trips.specs.InLanes.{AreInLanes, CanLeaveLanes}
use Rattle.by_trips.specs.ByTrips.{AreBeyond, CanLeaveByTrips, IsFilled, IsInsertedAt, RelabelsByTrips, bag_points, points_beyond, value_by_trips}
use Rattle.by_trips.specs.declared.by_trips.Beyond.{Beyond}
use Rattle.by_trips.specs.declared.by_trips.ByTrips.{ByTrips}
use Rattle.scan_state.specs.declared.hop.Hop.{Hop}
use Rattle.by_trips.specs.declared.in_lanes.LaneExit.{LaneExit}
use Rattle.by_trips.specs.declared.in_lanes.LaneExit.TheVariants.{ChangesToStep as ToStep}
use Rattle.scan_state.specs.declared.scan_records.Exit.TheVariants.{Changes}
use Rattle.by_trips.proofs.LaneExits.{exits_more}
use Rattle.by_trips.proofs.LanesLeft.{lane_spelled, still_are}
use Rattle.scan_state.proofs.Offers.{inserted_takes, takes_but}
use Rattle.scan_state.proofs.Together.{rear_takes}
use Rattle.by_trips.proofs.TripLaws.{trip_laws}

-- whether a vector is empty
pub is_none : {X : Type 0} (v : Vec X) (empty : Bool) → empty ≡ nat_eq (vec_len v) 0 → empty ≡ true → v.items ≡ []
is_none v empty is e = nil_from_length v.items (sym v.ok.0 ∙ eqb-true (vec_len v) 0 (sym is ∙ e))

pub is_some : {X : Type 0} (v : Vec X) (empty : Bool) → empty ≡ nat_eq (vec_len v) 0 → empty ≡ false → v.items ≡ [] → ⊥
is_some v empty is e none = eqb-false (vec_len v) 0 (sym is ∙ e) (v.ok.0 ∙ ap length none)

-- no points are a bag, and so are those of each of some bags
none_is_bag : {V : Type 0} (rules : Rules V) → IsBag rules []
none_is_bag rules = record { admitted = λ p is. absurd (not_in_nil p is); undominated = λ i j d lt below. absurd (omega (arith, below)) }

pub is_bag : {K V : Type 0} {c : _} (rules : Rules V) (bags : List (Bag K V c)) → ((k : K) → c.rules k ≡ rules) → (n : ℕ)
    → IsBag rules (points_beyond bags n)
is_bag {K} {V} rules bags same n = elim (option_cases (slice_get bags n)) [
  | inl none ↦ subst (λ o. IsBag rules (bag_points o)) (sym none) (none_is_bag rules)
  | inr some ↦
      subst (λ o. IsBag rules (bag_points o)) (sym some.1)
      (subst (λ (r : Rules V). IsBag r (points_of some.0)) (same some.0.criterion) some.0.kept)
]

pub label_is_bag : (beyond : Beyond) (trip : ℕ) → IsBag trip_rules (points_beyond beyond.labels.items trip)
label_is_bag beyond = is_bag trip_rules beyond.labels.items (λ k. refl)

pub point_is_bag : (beyond : Beyond) (stop : ℕ) → IsBag trip_rules (points_beyond beyond.points.items stop)
point_is_bag beyond = is_bag trip_rules beyond.points.items (λ k. refl)

-- the bag at an index has the points of that index
pub bag_at : {K V : Type 0} {c : _} (bags : List (Bag K V c)) (k : ℕ) (bag : Bag K V c) → k < length bags → bag ≡ get_or bags k bag
    → points_beyond bags k ≡ points_of bag
bag_at {K} {V} {c} bags k bag there is =
    ap (λ (o : Option (Bag K V c)). bag_points o) (slice_get_read bags (length bags) k bag refl there is)

-- a point is inserted into one of some bags
pub inserted_at : {K V : Type 0} {c : _} (rules : Rules V) (k : ℕ) (p : Point V) (stands : Bool) (olds : List (Bag K V c)) (old new : Bag K V c)
    → slice_get olds k ≡ Some old → Stands rules (points_of old) p stands → Inserted rules (points_of old) p stands (points_of new)
    → IsInsertedAt rules k p stands olds (set olds k new)
inserted_at {K} {V} {c} rules k p stands olds old new at is_stands is_inserted =
    let there = slice_get-set_same olds k new (slice_get_within olds k old at) in
    record {
      long = length-set olds k new;
      stands_is = subst (λ (o : Option (Bag K V c)). Stands rules (bag_points o) p stands) (sym at) is_stands;
      inserted = subst (λ (o : Option (Bag K V c)). Inserted rules (bag_points o) p stands (points_beyond (set olds k new) k)) (sym at)
          (subst (λ (o : Option (Bag K V c)). Inserted rules (points_of old) p stands (bag_points o)) (sym there) is_inserted);
      elsewhere = λ m other. ap (λ (o : Option (Bag K V c)). bag_points o) (slice_get-set_other olds k m new other);
    }

-- bags without points
pub record AreEmpty {K V : Type 0} {c : _} (count : ℕ) (bags : List (Bag K V c)) : Type 0 where
  pub long : length bags ≡ count
  pub none : (k : ℕ) → points_beyond bags k ≡ []

pub no_bags : {K V : Type 0} {c : _} (bags : List (Bag K V c)) → bags ≡ [] → AreEmpty 0 bags
no_bags {K} {V} {c} bags is = record { long = ap length is; none = λ k. ap (λ (bs : List (Bag K V c)). points_beyond bs k) is }

pub one_bag_more : {K V : Type 0} {c : _} (n : ℕ) (olds news : List (Bag K V c)) (bag : Bag K V c) → news ≡ olds ++ bag ∷ [] → points_of bag ≡ []
    → AreEmpty n olds → AreEmpty (n + 1) news
one_bag_more {K} {V} {c} n olds news bag is none are = record {
  long = (let a = ap length is in let b = length_push olds bag in let l = are.long in omega (arith, a, b, l));
  none = λ k. ap (λ (bs : List (Bag K V c)). points_beyond bs k) is ∙ elim (cases_lt k (length olds)) [
    | inl lt ↦ ap (λ (o : Option (Bag K V c)). bag_points o) (slice_get-front olds (bag ∷ []) k lt) ∙ are.none k
    | inr ge ↦ elim (cases_lt (length olds) k) [
      | inl gt ↦
          let b = length_push olds bag in
          ap (λ (o : Option (Bag K V c)). bag_points o) (slice_get_past (olds ++ bag ∷ []) k (omega (arith, gt, b)))
      | inr le ↦
          let e : k ≡ length olds = omega (arith, ge, le) in
          ap (λ n. points_beyond (olds ++ bag ∷ []) n) e ∙ ap (λ (o : Option (Bag K V c)). bag_points o) (slice_get-last olds bag) ∙ none
    ]
  ];
}

-- bags are there already
pub filled_before : (stops trips : ℕ) (beyond : Beyond) → AreBeyond stops trips beyond → (beyond.labels.items ≡ [] → ⊥)
    → IsFilled stops trips beyond beyond
filled_before stops trips beyond are some = elim are [
  | inl none ↦ absurd (some none.0)
  | inr long ↦ record { trips_are = long.0; stops_are = long.1; labels = λ k. refl; points = λ k. refl }
]

-- if there are no labels, there are no points
no_points : (stops trips : ℕ) (beyond : Beyond) → 0 < trips → AreBeyond stops trips beyond → beyond.labels.items ≡ [] → (k : ℕ)
    → points_beyond beyond.points.items k ≡ []
no_points stops trips beyond some are none k = elim are [
  | inl empty ↦ ap (λ (bs : List _). points_beyond bs k) empty.1
  | inr long ↦ let trips_are = long.0 in let empty = ap length none in absurd (omega (arith, trips_are, empty, some))
]

-- or are made
pub filled_now : (stops trips : ℕ) (old new : Beyond) → 0 < trips → AreBeyond stops trips old → old.labels.items ≡ [] → AreEmpty trips new.labels.items
    → AreEmpty stops new.points.items → IsFilled stops trips old new
filled_now stops trips old new some are none labels points = record {
  trips_are = labels.long;
  stops_are = points.long;
  labels = λ k. labels.none k ∙ sym (ap (λ (bs : List _). points_beyond bs k) none);
  points = λ k. points.none k ∙ sym (no_points stops trips old some are none k);
}

-- a label of a trip is put in, with its exit
module _ (q : SetQueryValue) (hop : Hop TimeTrips) (old : ByTrips) (can : CanLeaveByTrips q hop old) (filled : Beyond)
    (fills : IsFilled (stops_of old.lanes.stops) (trips_of old.lanes.trips) old.beyond filled) (value : TimeTrips) (tag step : ℕ)
    (admitted : Admits trip_rules value) (tag_is : tag ≡ 8 * length old.lanes.exits.items) (beyond : Beyond) (stands : Bool)
    (same_points : beyond.points ≡ filled.points)
    (inserted : IsInsertedAt trip_rules hop.connection.trip (record { departure = 0; value = value; tag = tag }) stands filled.labels.items
    beyond.labels.items) where
  abbrev with_exits : Vec LaneExit → ByTrips
  with_exits exits =
      record { lanes = record { trips = old.lanes.trips; stops = old.lanes.stops; exits = exits; bound = old.lanes.bound }; beyond = beyond }

  abbrev trip : ℕ
  trip = hop.connection.trip

  lanes_can : CanLeaveLanes q hop old.lanes
  lanes_can = record { hop = can.hop; are = can.are.in_lanes; trip = can.trip; stop = can.stop }

  are_beyond : AreBeyond (stops_of old.lanes.stops) (trips_of old.lanes.trips) beyond
  are_beyond = inr (inserted.long ∙ fills.trips_are, ap (λ (ps : Vec _). length ps.items) same_points ∙ fills.stops_are)

  bags_more : length old.beyond.points.items ≤ length beyond.points.items
  bags_more =
      let same = ap (λ (ps : Vec _). length ps.items) same_points in
      let now = fills.stops_are in
      elim can.are.beyond [
        | inl none ↦ let empty = ap length none.1 in omega (arith, empty, now, same)
        | inr long ↦ let was = long.1 in omega (arith, was, now, same)
      ]

  points_same : (stop : ℕ) → points_beyond beyond.points.items stop ≡ points_beyond old.beyond.points.items stop
  points_same stop = ap (λ (ps : Vec _). points_beyond ps.items stop) same_points ∙ fills.points stop

  abbrev labels : ℕ → List (Point TimeTrips)
  labels k = label_points (labels_at old.lanes.trips k) ++ points_beyond beyond.labels.items k

  others_same : (k : ℕ) → k ≢ trip → labels k ≡ (value_by_trips old).labels k
  others_same k other = ap (λ ps. label_points (labels_at old.lanes.trips k) ++ ps) (inserted.elsewhere k other ∙ fills.labels k)

  -- as far as the tag fits
  one_taken : (fits : ℕ → Type 0) → (stands ≡ true → fits tag)
      → TakesInBut trip_rules (λ _. ⊥) (one_way 0 value fits) ((value_by_trips old).labels trip) (labels trip)
  one_taken fits named =
      let olds = points_beyond old.beyond.labels.items trip in
      let news = points_beyond beyond.labels.items trip in
      rear_takes trip_rules (label_points (labels_at old.lanes.trips trip))
      (takes_but trip_rules (λ _. ⊥) (one_way 0 value fits) olds news
      (subst (λ (ps : List (Point TimeTrips)). TakesIn trip_rules (one_way 0 value fits) ps news) (fills.labels trip)
      (inserted_takes trip_rules trip_laws (points_beyond filled.labels.items trip) news (record { departure = 0; value = value; tag = tag }) fits stands
      (label_is_bag filled trip) admitted inserted.stands_is inserted.inserted named)))

  abbrev OneWay : KeptValue TimeTrips → KeptValue TimeTrips → Type 0
  OneWay = LabelsTake trip_rules trip (λ _. ⊥) (λ tags. one_way 0 value (IsExit tags (Changes hop.place step)))

  relabels : (exits : Vec LaneExit) → AreInLanes (stops_of old.lanes.stops) (trips_of old.lanes.trips) hop.bound.now (with_exits exits).lanes
      → OneWay (value_by_trips old) (value_by_trips (with_exits exits)) → RelabelsByTrips hop.bound.now OneWay old (with_exits exits)
  relabels exits are takes =
      record { are = record { in_lanes = are; beyond = are_beyond }; stops = refl; points = points_same; bags = bags_more; takes = takes }

  bags_same : (stop : ℕ) → points_at old.lanes.stops stop ++ points_beyond beyond.points.items stop ≡ (value_by_trips old).bag stop
  bags_same stop = ap (λ ps. points_at old.lanes.stops stop ++ ps) (points_same stop)

  pub label_stands : (exits : Vec LaneExit) → exits.items ≡ old.lanes.exits.items ++ ToStep hop.place step ∷ []
      → RelabelsByTrips hop.bound.now OneWay old (with_exits exits)
  label_stands exits pushed =
      relabels exits (still_are q hop old.lanes lanes_can old.lanes.trips exits (ToStep hop.place step) pushed tt refl) (record {
        exits = exits_more (tags_at old.lanes.stops) old.lanes.exits.items exits.items (ToStep hop.place step) pushed;
        steps = refl;
        bags = bags_same;
        other_trips = others_same;
        takes = λ walks set_outs before all first_grows then_grows.
            let none_more : tag + 0 ≡ tag = omega arith in
            let fits = IsExit (from_to (spelling_of walks before) (spelling_of walks all)) (Changes hop.place step) in
            one_taken fits (λ _. subst fits none_more
            (lane_spelled q hop old.lanes lanes_can old.lanes.trips exits (ToStep hop.place step) pushed tt walks set_outs before all first_grows then_grows
            tag 0 tag_is (omega arith)));
      })

  pub label_falls : stands ≡ false → RelabelsByTrips hop.bound.now OneWay old (with_exits old.lanes.exits)
  label_falls falls =
      relabels old.lanes.exits can.are.in_lanes (record {
        exits = extends_none (value_by_trips old).exits;
        steps = refl;
        bags = bags_same;
        other_trips = others_same;
        takes = λ walks set_outs before all first_grows then_grows.
            one_taken (IsExit (from_to (spelling_of walks before) (spelling_of walks all)) (Changes hop.place step))
            (λ is. absurd (true≢false (sym is ∙ falls)));
      })
