-- An entry is put before a list: for boarding with lanes, or for an entry that was there.
use Rattle.std.proofs.Common.{◌≡◌, ◌⊎◌, ℕ, zero, suc, ◌+◌, ◌<◌, ◌≤◌, min, List, [], ◌∷◌, ◌++◌, length, Contains, slice_get, slice_index}
use Rattle.std.proofs.Common.{Option, Some, inl, inr, refl, sym, ap, ◌∙◌, subst, arith}
use Rattle.reasoning.proofs.ListLemmas.{extends_none}
use Rattle.criteria.specs.TimeTripsLaws.{same_parts}
use Rattle.criteria.specs.declared.arrival_trips.TimeTrips.{TimeTrips}
use Rattle.bags.specs.Dominance.{IsCovered}
use Rattle.bags.specs.declared.point.Point.{Point}
use Rattle.fronts.specs.declared.labels.Label.{Label}
use Rattle.lanes.specs.Lanes.{never, trip_rules}
use Rattle.lanes.specs.LanesWithTags.{AreTagged, labels_in}
use Rattle.lanes.specs.LaneLists.{word_tag, departure_in, next_in, words_in, tags_in, departure_of, next_of, word_of, labels_of, point_of, points_from}
use Rattle.lanes.specs.LaneLists.{IsLinked, CoversAll, AreMore, IsRidden, MayPut, IsOnePut, MayJoin, IsOneJoined}
use Rattle.lanes.specs.declared.lane_lists.LaneEntry.{LaneEntry}
use Rattle.lanes.specs.declared.trip_lanes.Lanes.{Lanes}
use Rattle.lanes.proofs.LaneLemmas.{Stands, stands, is_label, no_worse_from}
use Rattle.lanes.proofs.EntryLemmas.{own_is, of_own, of_next, own_or_next}
use Rattle.lanes.proofs.PushLemmas.{pushed_at, pushed_has, same_entry, same_points}
use Rattle.lanes.proofs.CoverLemmas.{covers_each, covers_inside, nine, label_stands, covers_at}

-- the new entry stands at the end, linked to a list that was there; all that is said of it, given what its front is
module _ (old new : List LaneEntry) (e : LaneEntry) (next : ℕ) (more : AreMore old new (length old)) (at : slice_get new (length old) ≡ Some e)
    (links : e.next ≡ next) (within : next < length old) (was : AreMore old old next) where
  abbrev index : ℕ
  index = length old

  next_is : next_of new index ≡ next
  next_is = ap next_in at ∙ links

  rest_same : points_from new (next_of new index) ≡ points_from old next
  rest_same = ap (points_from new) next_is ∙ same_points old new was.has.lists more.more next within

  next_word : (k : ℕ) → word_of new (next_of new index) k ≡ word_of old next k
  next_word k = ap (λ n. word_of new n k) next_is ∙ ap (λ o. slice_index (words_in o) k) (same_entry old new more.more next within)

  -- a point of the new list is of the old one, or a label of the entry that is less than the words of the old one
  pub new_points : (p : Point TimeTrips) → Contains (points_from new index) p
      → Contains (points_from old next) p
      ⊎ ((l : Label TimeTrips) × Contains (labels_of (Some e)) l × (point_of e.departure l ≡ p) × (l.value.time < word_of old next l.value.trips))
  new_points p h = elim (own_or_next new more.has.lists index p h).1 [
    | inl own ↦
        let w = next_word own.label.value.trips in
        let less = own.less in
        inr (
          own.label,
          subst (λ (o : Option LaneEntry). Contains (labels_of o) own.label) at own.is_label,
          subst (λ (o : Option LaneEntry). point_of (departure_in o) own.label ≡ p) at own.point,
          omega (arith, w, less),
        )
    | inr rest ↦ inl (subst (λ ps. Contains ps p) rest_same rest)
  ]

  pub rest_points : (p : Point TimeTrips) → Contains (points_from old next) p → Contains (points_from new index) p
  rest_points p h = of_next new more.has.lists index p (subst (λ ps. Contains ps p) (sym rest_same) h)

  pub rest_covered : CoversAll (points_from old next) (points_from new index)
  rest_covered = covers_inside (points_from old next) (points_from new index) rest_points

  -- where a word of the entry is no greater than the time of a value, that is covered
  pub new_covered : (departure : ℕ) (v : TimeTrips) (k : ℕ) → departure ≤ e.departure → k < 9 → k ≤ v.trips
      → slice_index e.front.times k ≤ v.time → v.time < never → IsCovered trip_rules (points_from new index) departure v
  new_covered departure v k early below few le less =
      covers_at new more.has.lists index departure v k more.has.within
      (subst (λ (o : Option LaneEntry). departure ≤ departure_in o) (sym at) early) below few
      (subst (λ (o : Option LaneEntry). slice_index (words_in o) k ≤ v.time) (sym at) le) less

  pub departs_so : departure_of new index ≡ e.departure
  departs_so = ap departure_in at

  pub word_so : (k : ℕ) → word_of new index k ≡ slice_index e.front.times k
  word_so k = ap (λ o. slice_index (words_in o) k) at

-- for boarding with lanes
module _ (old new : List LaneEntry) (e : LaneEntry) (is : new ≡ old ++ e ∷ []) (behind : LaneEntry) (after departure first : ℕ) (lanes : Lanes)
    (may : MayPut old after departure)
    (tagged : AreTagged lanes) (there : slice_get old after ≡ Some behind) (links : e.next ≡ after) (departs : e.departure ≡ departure)
    (first_word : slice_index e.front.times 0 ≡ slice_index behind.front.times 0)
    (words : (k : ℕ) → k < 8 → slice_index e.front.times (k + 1) ≡ min (slice_index lanes.times k) (slice_index behind.front.times (k + 1)))
    (eight : length e.tags ≡ 8)
    (tags_new : (k : ℕ) → k < 8 → slice_index lanes.times k < slice_index behind.front.times (k + 1) → slice_index e.tags k ≡ first + k)
    (tags_old : (k : ℕ) → k < 8 → slice_index behind.front.times (k + 1) ≤ slice_index lanes.times k → slice_index e.tags k ≡ slice_index behind.tags k) where
  word_suc : (k : ℕ) → suc k < 9 → slice_index e.front.times (suc k) ≡ min (slice_index lanes.times k) (slice_index behind.front.times (suc k))
  word_suc k lt =
      let on : k + 1 ≡ suc k = omega arith in
      subst (λ n. slice_index e.front.times n ≡ min (slice_index lanes.times k) (slice_index behind.front.times n)) on (words k (omega (arith, lt)))

  suc_new : (k : ℕ) → suc k < 9 → slice_index lanes.times k < slice_index behind.front.times (suc k) → slice_index e.tags k ≡ first + k
  suc_new k lt less =
      let on : suc k ≡ k + 1 = omega arith in
      tags_new k (omega (arith, lt)) (subst (λ n. slice_index lanes.times k < slice_index behind.front.times n) on less)

  suc_old : (k : ℕ) → suc k < 9 → slice_index behind.front.times (suc k) ≤ slice_index lanes.times k → slice_index e.tags k ≡ slice_index behind.tags k
  suc_old k lt more =
      let on : suc k ≡ k + 1 = omega arith in
      tags_old k (omega (arith, lt)) (subst (λ n. slice_index behind.front.times n ≤ slice_index lanes.times k) on more)

  put_under : (k : ℕ) → k < 9 → slice_index e.front.times k ≤ slice_index behind.front.times k
  put_under zero lt = omega (arith, first_word)
  put_under (suc k) lt = let w = word_suc k lt in omega (arith, w)

  put_same : (k : ℕ) → k < 9 → slice_index e.front.times k ≡ slice_index behind.front.times k → word_tag e.tags k ≡ word_tag behind.tags k
  put_same zero lt equal = refl
  put_same (suc k) lt equal = let w = word_suc k lt in suc_old k lt (omega (arith, w, equal))

  after_is : slice_get old e.next ≡ Some behind
  after_is = ap (slice_get old) links ∙ there

  pub put_linked : IsLinked old e
  put_linked =
      let early = may.early in
      record {
        tagged = eight;
        rises = subst (λ n. e.departure ≤ departure_of old n) (sym links) (omega (arith, early, departs));
        under = subst (λ (o : Option LaneEntry). (k : ℕ) → k < 9 → slice_index e.front.times k ≤ slice_index (words_in o) k) (sym after_is) put_under;
        same = subst (λ (o : Option LaneEntry). (k : ℕ) → k < 9 → slice_index e.front.times k ≡ slice_index (words_in o) k
            → word_tag e.tags k ≡ word_tag (tags_in o) k) (sym after_is) put_same;
      }

  -- a label of the entry that is less than the word behind it is one of the lanes', with the ride
  put_ridden : (l : Label TimeTrips) → Stands (word_tag e.tags) e.front.times l → (k : ℕ) → l.value.trips ≡ k
      → l.value.time < slice_index behind.front.times k → IsRidden departure first (labels_in (Some lanes)) (point_of e.departure l)
  put_ridden l s zero is less =
      let at : slice_index e.front.times 0 ≡ l.value.time = subst (λ n. slice_index e.front.times n ≡ l.value.time) is s.at in
      absurd (omega (arith, at, first_word, less))
  put_ridden l s (suc j) is less =
      let below = s.below in
      let long = e.front.falls.long in
      let long_lanes = tagged.lanes_are.long in
      let lt : suc j < 9 = omega (arith, below, long, is) in
      let at : slice_index e.front.times (suc j) ≡ l.value.time = subst (λ n. slice_index e.front.times n ≡ l.value.time) is s.at in
      let w = word_suc j lt in
      let by : Label TimeTrips = record { value = record { time = l.value.time; trips = j }; tag = slice_index lanes.tags j } in
      let t : Stands (slice_index lanes.tags) lanes.times by = record {
        below = omega (arith, lt, long_lanes);
        at = omega (arith, w, at, less);
        less = s.less;
        first = λ i h. let f = s.first (suc i) (omega (arith, h, is)) in let v = word_suc i (omega (arith, h, lt)) in omega (arith, f, v);
        tagged = refl;
      } in
      record {
        by = by;
        is_label = is_label (slice_index lanes.tags) lanes.times by t;
        departs = departs;
        worth = same_parts l.value (trip_rules.ride by.value) refl (omega (arith, is, lt));
        tagged = s.tagged ∙ ap (word_tag e.tags) is ∙ suc_new j lt (omega (arith, w, at, less));
      }

  more_is : AreMore old new (length old)
  more_is = pushed_has old new e may.has.lists is put_linked (subst (λ n. n < length old) (sym links) may.has.within)

  at_end : slice_get new (length old) ≡ Some e
  at_end = pushed_at old new e may.has.lists is put_linked (subst (λ n. n < length old) (sym links) may.has.within)

  pub is_put : IsOnePut old after departure lanes first new (length old)
  is_put =
      let was : AreMore old old after = record { has = may.has; more = extends_none old } in
      let within = may.has.within in
      record {
        more = more_is;
        departs = departs_so old new e after more_is at_end links within was ∙ departs;
        under = λ k few.
            let w = word_so old new e after more_is at_end links within was k in
            let u = put_under k few in
            let b : word_of old after k ≡ slice_index behind.front.times k = ap (λ o. slice_index (words_in o) k) there in
            omega (arith, w, u, b);
        only = λ p h. elim (new_points old new e after more_is at_end links within was p h) [
          | inl rest ↦ inl rest
          | inr own ↦
              let b : word_of old after own.0.value.trips ≡ slice_index behind.front.times own.0.value.trips =
              ap (λ o. slice_index (words_in o) own.0.value.trips) there in
              let less = own.3 in
              inr (subst (IsRidden departure first (labels_in (Some lanes))) own.2
              (put_ridden own.0 (stands (word_tag e.tags) e.front.times own.0 own.1) own.0.value.trips refl (omega (arith, b, less))))
        ];
        kept = rest_covered old new e after more_is at_end links within was;
        covered = λ l is_in.
            let s = stands (slice_index lanes.tags) lanes.times l is_in in
            let below = s.below in
            let long = tagged.lanes_are.long in
            let at = s.at in
            let w = word_suc l.value.trips (omega (arith, below, long)) in
            new_covered old new e after more_is at_end links within was departure (trip_rules.ride l.value) (suc l.value.trips)
            (omega (arith, departs)) (omega (arith, below, long)) (omega (arith, below, long)) (omega (arith, w, at)) s.less;
      }

-- for an entry that was there
module _ (old : List LaneEntry) (gone behind : LaneEntry) (from index : ℕ) (may : MayJoin old from index) (from_is : slice_get old from ≡ Some gone)
    (there : slice_get old index ≡ Some behind) where
  from_word : (k : ℕ) → word_of old from k ≡ slice_index gone.front.times k
  from_word k = ap (λ o. slice_index (words_in o) k) from_is

  behind_word : (k : ℕ) → word_of old index k ≡ slice_index behind.front.times k
  behind_word k = ap (λ o. slice_index (words_in o) k) there

  was : AreMore old old index
  was = record { has = may.has; more = extends_none old }

  -- a point of the entry's list is covered by a list that has the words of both
  module _ (now : List (Point TimeTrips)) (rest : CoversAll (points_from old index) now)
      (own : (v : TimeTrips) (k : ℕ) → k < 9 → k ≤ v.trips → slice_index gone.front.times k ≤ v.time → v.time < never
      → IsCovered trip_rules now (departure_of old from) v) where
    from_covered : CoversAll (points_from old from) now
    from_covered = covers_each (points_from old from) now (λ p h. elim (own_or_next old may.has.lists from p h).1 [
      | inl mine ↦
          let l = mine.label in
          let s = label_stands old may.has.lists from l mine.is_label in
          let long = (nine old may.has.lists from may.within).long in
          let below = s.below in
          let at = s.at in
          let w = from_word l.value.trips in
          subst (λ (q : Point TimeTrips). IsCovered trip_rules now q.departure q.value) mine.point
          (own l.value l.value.trips (omega (arith, below, long)) (omega arith) (omega (arith, at, w)) s.less)
      | inr next ↦ rest p.departure p.value (may.covers p.departure p.value (
        p,
        next,
        omega arith,
        no_worse_from p.value
            p.value (omega arith) (omega arith),
      ))
    ])

  -- where no word of the entry is less, there is nothing to put
  pub is_skipped : ((k : ℕ) → k < 9 → slice_index behind.front.times k ≤ slice_index gone.front.times k) → IsOneJoined old from index old index
  is_skipped none =
      let early = may.early in
      record {
        joined = record {
          more = was;
          only = λ p h. inr h;
          kept_first = from_covered (points_from old index) (λ d v c. c) (λ v k below few le less.
              let n = none k below in
              let w = behind_word k in
              covers_at old may.has.lists index (departure_of old from) v k may.has.within early below few (omega (arith, n, le, w)) less);
          kept_second = λ d v c. c;
        };
        late = early;
        under = λ k few. let n = none k few in let a = behind_word k in let b = from_word k in omega (arith, n, a, b);
      }

  module _ (new : List LaneEntry) (e : LaneEntry) (is : new ≡ old ++ e ∷ []) (links : e.next ≡ index) (departs : e.departure ≡ gone.departure)
      (words : (k : ℕ) → k < 9 → slice_index e.front.times k ≡ min (slice_index gone.front.times k) (slice_index behind.front.times k))
      (eight : length e.tags ≡ 8)
      (tags_new : (k : ℕ) → k < 8 → slice_index gone.front.times (k + 1) < slice_index behind.front.times (k + 1)
      → slice_index e.tags k ≡ slice_index gone.tags k)
      (tags_old : (k : ℕ) → k < 8 → slice_index behind.front.times (k + 1) ≤ slice_index gone.front.times (k + 1)
      → slice_index e.tags k ≡ slice_index behind.tags k) where
    join_new : (k : ℕ) → k < 9 → slice_index gone.front.times k < slice_index behind.front.times k → word_tag e.tags k ≡ word_tag gone.tags k
    join_new zero lt less = refl
    join_new (suc k) lt less =
        let on : suc k ≡ k + 1 = omega arith in
        tags_new k (omega (arith, lt)) (subst (λ n. slice_index gone.front.times n < slice_index behind.front.times n) on less)

    join_same : (k : ℕ) → k < 9 → slice_index e.front.times k ≡ slice_index behind.front.times k → word_tag e.tags k ≡ word_tag behind.tags k
    join_same zero lt equal = refl
    join_same (suc k) lt equal =
        let w = words (suc k) lt in
        let on : suc k ≡ k + 1 = omega arith in
        tags_old k (omega (arith, lt)) (subst (λ n. slice_index behind.front.times n ≤ slice_index gone.front.times n) on (omega (arith, w, equal)))

    index_is : slice_get old e.next ≡ Some behind
    index_is = ap (slice_get old) links ∙ there

    from_departs : departure_of old from ≡ gone.departure
    from_departs = ap departure_in from_is

    pub join_linked : IsLinked old e
    join_linked =
        let early = may.early in
        let d = from_departs in
        record {
          tagged = eight;
          rises = subst (λ n. e.departure ≤ departure_of old n) (sym links) (omega (arith, early, departs, d));
          under = subst (λ (o : Option LaneEntry). (k : ℕ) → k < 9 → slice_index e.front.times k ≤ slice_index (words_in o) k) (sym index_is)
              (λ k few. let w = words k few in omega (arith, w));
          same = subst (λ (o : Option LaneEntry). (k : ℕ) → k < 9 → slice_index e.front.times k ≡ slice_index (words_in o) k
              → word_tag e.tags k ≡ word_tag (tags_in o) k) (sym index_is) join_same;
        }

    -- a label of the new entry that is less than the word behind it is one of the old entry's own
    join_own : (l : Label TimeTrips) → Contains (labels_of (Some e)) l → l.value.time < word_of old index l.value.trips
        → Contains (points_from old from) (point_of e.departure l)
    join_own l is less =
        let s = stands (word_tag e.tags) e.front.times l is in
        let below = s.below in
        let long = e.front.falls.long in
        let gone_long = gone.front.falls.long in
        let at = s.at in
        let trips = l.value.trips in
        let few : trips < 9 = omega (arith, below, long) in
        let w = words trips few in
        let b = behind_word trips in
        let t : Stands (word_tag gone.tags) gone.front.times l = record {
          below = omega (arith, few, gone_long);
          at = omega (arith, w, at, b, less);
          less = s.less;
          first = λ i h. let f = s.first i h in let v = words i (omega (arith, h, few)) in omega (arith, f, v);
          tagged = s.tagged ∙ join_new trips few (omega (arith, w, at, b, less));
        } in
        let mine = is_label (word_tag gone.tags) gone.front.times l t in
        let u = may.under trips few in
        subst (λ d. Contains (points_from old from) (point_of d l)) (from_departs ∙ sym departs)
        (of_own old may.has.lists from (point_of (departure_of old from) l) may.some
        (own_is old from l (subst (λ (o : Option LaneEntry). Contains (labels_of o) l) (sym from_is) mine) (omega (arith, u, less))))

    joined_more : AreMore old new (length old)
    joined_more = pushed_has old new e may.has.lists is join_linked (subst (λ n. n < length old) (sym links) may.has.within)

    joined_at : slice_get new (length old) ≡ Some e
    joined_at = pushed_at old new e may.has.lists is join_linked (subst (λ n. n < length old) (sym links) may.has.within)

    pub is_joined : IsOneJoined old from index new (length old)
    is_joined =
        let within = may.has.within in
        let rest = rest_covered old new e index joined_more joined_at links within was in
        let d = from_departs in
        record {
          joined = record {
            more = joined_more;
            only = λ p h. elim (new_points old new e index joined_more joined_at links within was p h) [
              | inl old_point ↦ inr old_point
              | inr own ↦ inl (subst (Contains (points_from old from)) own.2 (join_own own.0 own.1 own.3))
            ];
            kept_first = from_covered (points_from new (length old)) rest (λ v k below few le less.
                let w = words k below in
                new_covered old new e index joined_more joined_at links within was (departure_of old from) v k (omega (arith, d, departs)) below few
                (omega (arith, w, le)) less);
            kept_second = rest;
          };
          late = let n = departs_so old new e index joined_more joined_at links within was in omega (arith, n, departs, d);
          under = λ k few.
              let w = words k few in
              let n = word_so old new e index joined_more joined_at links within was k in
              let g = from_word k in
              omega (arith, w, n, g);
        }
