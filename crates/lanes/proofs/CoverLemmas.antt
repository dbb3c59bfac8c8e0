-- What the points along a list cover, by the words of its first entry.
use Rattle.std.proofs.Common.{◌≡◌, ℕ, zero, suc, ◌<◌, ◌≤◌, List, length, Contains, slice_get}
use Rattle.std.proofs.Common.{Option, true, nat_lt, nat_le, inl, inr, refl, sym, ◌∙◌, subst, arith}
use Rattle.std.proofs.lemmas.Bool.{cases_lt, and_from, lt-ltb, le-leb}
use Rattle.reasoning.proofs.ListLemmas.{at_below}
use Rattle.criteria.specs.Laws.{Admits, time_limit}
use Rattle.criteria.specs.declared.arrival_trips.TimeTrips.{TimeTrips}
use Rattle.bags.specs.Dominance.{IsCovered}
use Rattle.bags.specs.declared.point.Point.{Point}
use Rattle.fronts.specs.declared.labels.Label.{Label}
use Rattle.lanes.specs.Lanes.{never, trip_rules, AreLanes}
use Rattle.lanes.specs.LaneLists.{word_tag, words_in, tags_in, departure_of, next_of, word_of, labels_of, point_of, points_from, AreLists, CoversAll}
use Rattle.lanes.specs.declared.lane_lists.LaneEntry.{LaneEntry}
use Rattle.lanes.proofs.LaneLemmas.{Stands, stands, is_label, label_below, no_worse_parts, no_worse_from}
use Rattle.lanes.proofs.EntryLemmas.{IsOwn, own_is, of_own, of_next, own_or_next, rises, under, same, next_within, next_less}

-- points that cover each of some others cover all that those do
pub covers_each : (old new : List (Point TimeTrips)) → ((p : Point TimeTrips) → Contains old p → IsCovered trip_rules new p.departure p.value)
    → CoversAll old new
covers_each old new each departure v (p, is, late, no_worse) =
    let c = each p is in
    let a = no_worse_parts c.0.value p.value c.3 in
    let b = no_worse_parts p.value v no_worse in
    let later = c.2 in
    (c.0, c.1, omega (arith, late, later), no_worse_from c.0.value v (omega (arith, a, b)) (omega (arith, a, b)))

pub covers_inside : (old new : List (Point TimeTrips)) → ((p : Point TimeTrips) → Contains old p → Contains new p) → CoversAll old new
covers_inside old new each departure v (p, is, late, no_worse) = (p, each p is, late, no_worse)

module _ (entries : List LaneEntry) (are : AreLists entries) where
  -- the front of an entry has nine lanes
  pub nine : (m : ℕ) → m < length entries → AreLanes 9 (words_in (slice_get entries m))
  nine m within =
      let e = at_below entries m within in
      subst (λ (o : Option LaneEntry). AreLanes 9 (words_in o)) (sym e.1) e.0.front.falls

  pub label_stands : (m : ℕ) (l : Label TimeTrips) → Contains (labels_of (slice_get entries m)) l
      → Stands (word_tag (tags_in (slice_get entries m))) (words_in (slice_get entries m)) l
  label_stands m l is = stands (word_tag (tags_in (slice_get entries m))) (words_in (slice_get entries m)) l is

  -- a label of a front that isn't less than the next entry's words is one of the next entry's front
  next_label : (m : ℕ) (l : Label TimeTrips) → m < length entries → Contains (labels_of (slice_get entries m)) l
      → word_of entries (next_of entries m) l.value.trips ≤ l.value.time → Contains (labels_of (slice_get entries (next_of entries m))) l
  next_label m l within is more =
      let s = label_stands m l is in
      let long = (nine m within).long in
      let next_long = (nine (next_of entries m) (next_within entries are m within)).long in
      let below = s.below in
      let at = s.at in
      let few : l.value.trips < 9 = omega (arith, below, long) in
      let le = under entries are m l.value.trips within few in
      let equal : word_of entries m l.value.trips ≡ word_of entries (next_of entries m) l.value.trips = omega (arith, le, at, more) in
      is_label (word_tag (tags_in (slice_get entries (next_of entries m)))) (words_in (slice_get entries (next_of entries m))) l (record {
        below = omega (arith, few, next_long);
        at = sym equal ∙ at;
        less = s.less;
        first = λ i h. let f = s.first i h in let u = under entries are m i within (omega (arith, h, few)) in omega (arith, f, u);
        tagged = s.tagged ∙ same entries are m l.value.trips within few equal;
      })

  -- each label of a front is a point of the list, with the same tag
  pub owner : (n m : ℕ) (l : Label TimeTrips) → m ≤ n → m < length entries → Contains (labels_of (slice_get entries m)) l
      → (p : Point TimeTrips) × Contains (points_from entries m) p × (departure_of entries m ≤ p.departure) × (p.value ≡ l.value) × (p.tag ≡ l.tag)
  owner n zero l most within is =
      let s = label_stands zero l is in
      let long = (nine zero within).long in
      let below = s.below in
      let at = s.at in
      let less = s.less in
      let none = are.none l.value.trips (omega (arith, below, long)) in
      absurd (omega (arith, at, less, none))
  owner zero (suc m) l most within is = absurd (omega (arith, most))
  owner (suc n) (suc m) l most within is =
      let next = next_of entries (suc m) in
      let less = next_less entries are (suc m) (omega arith) in
      elim (cases_lt l.value.time (word_of entries next l.value.trips)) [
        | inl lt ↦ (
          point_of (departure_of entries (suc m)) l,
          of_own entries are (suc m) (point_of (departure_of entries (suc m)) l) (omega arith) (own_is entries (suc m) l is lt),
          omega arith,
          refl,
          refl,
        )
        | inr ge ↦
            let r = owner n next l (omega (arith, less, most)) (next_within entries are (suc m) within) (next_label (suc m) l within is ge) in
            let up = rises entries are (suc m) within in
            let late = r.2 in
            (r.0, of_next entries are (suc m) r.0 r.1, omega (arith, up, late), r.3, r.4)
      ]

  -- where word k is no greater than the time of a value of k trips or more, the list covers the value
  pub covers_at : (m departure : ℕ) (v : TimeTrips) (k : ℕ) → m < length entries → departure ≤ departure_of entries m → k < 9 → k ≤ v.trips
      → word_of entries m k ≤ v.time → v.time < never → IsCovered trip_rules (points_from entries m) departure v
  covers_at m departure v k within early below few le less =
      let long = (nine m within).long in
      let l = label_below (word_tag (tags_in (slice_get entries m))) (words_in (slice_get entries m)) k v.time (omega (arith, below, long)) le less in
      let p = owner m m l.0 (omega arith) within l.1 in
      let late = p.2 in (
        p.0,
        p.1,
        omega (arith, early, late),
        subst (λ (w : TimeTrips). trip_rules.no_worse w v ≡ true) (sym p.3) (no_worse_from l.0.value v l.3 (omega (arith, few, l.2))),
      )

  -- a point along a list, and the front of the list's first entry
  pub record IsAlong (m : ℕ) (p : Point TimeTrips) : Type 0 where
    pub late : departure_of entries m ≤ p.departure
    pub few : p.value.trips < 9
    pub least : word_of entries m p.value.trips ≤ p.value.time
    pub less : p.value.time < never
    pub is_time : p.value.time < time_limit

  own_along : (m : ℕ) (p : Point TimeTrips) → m < length entries → IsOwn entries m p → IsAlong m p
  own_along m p within own =
      let l = own.label in
      let s = label_stands m l own.is_label in
      let long = (nine m within).long in
      let below = s.below in
      let at = s.at in
      subst (IsAlong m) own.point (record {
        late = omega arith;
        few = omega (arith, below, long);
        least = omega (arith, at);
        less = s.less;
        is_time =
            let less = s.less in
            let t = (nine m within).times l.value.trips (omega (arith, below, long)) (omega (arith, at, less)) in
            omega (arith, t, at);
      })

  next_along : (m : ℕ) (p : Point TimeTrips) → m < length entries → IsAlong (next_of entries m) p → IsAlong m p
  next_along m p within a =
      let up = rises entries are m within in
      let late = a.late in
      let least = a.least in
      let down = under entries are m p.value.trips within a.few in
      record { late = omega (arith, up, late); few = a.few; least = omega (arith, least, down); less = a.less; is_time = a.is_time }

  pub along : (n m : ℕ) (p : Point TimeTrips) → m ≤ n → m < length entries → Contains (points_from entries m) p → IsAlong m p
  along zero m p most within h =
      let o = own_or_next entries are m p h in
      let some = o.0 in
      elim o.1 [ inl own ↦ own_along m p within own | inr next ↦ absurd (omega (arith, most, some)) ]
  along (suc n) m p most within h =
      let o = own_or_next entries are m p h in
      let less = next_less entries are m o.0 in
      elim o.1 [
        | inl own ↦ own_along m p within own
        | inr next ↦ next_along m p within (along n (next_of entries m) p (omega (arith, less, most)) (next_within entries are m within) next)
      ]

  -- the points of a list are admitted
  pub points_admitted : (m : ℕ) (p : Point TimeTrips) → m < length entries → Contains (points_from entries m) p → Admits trip_rules p.value
  points_admitted m p within is =
      let a = along m m p (omega arith) within is in
      let few = a.few in
      and_from (nat_lt p.value.time time_limit) (nat_le p.value.trips 65535) (lt-ltb p.value.time time_limit a.is_time)
      (le-leb p.value.trips 65535 (omega (arith, few)))
