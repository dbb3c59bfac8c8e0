-- What a boarding makes of the points of a stop.
use Rattle.std.proofs.Common.{◌≡◌, ◌⊎◌, ℕ, ◌+◌, ◌<◌, ◌≤◌, min, set, List, [], ◌∷◌, length, Contains, slice_get, slice_index, Some}
use Rattle.std.proofs.Common.{get_or-set_same, get_or-set_other, length-set, inl, inr, sym, ap, ◌∙◌, subst, arith}
use Rattle.std.proofs.lemmas.Bool.{cases_eq, cases_lt}
use Rattle.std.proofs.lemmas.List.{get_or_past}
use Rattle.criteria.specs.declared.arrival_trips.TimeTrips.{TimeTrips}
use Rattle.bags.specs.Dominance.{IsCovered}
use Rattle.bags.specs.declared.point.Point.{Point}
use Rattle.fronts.specs.declared.entry.Boarding.{Boarding}
use Rattle.fronts.specs.declared.entry.Step.{Step}
use Rattle.fronts.specs.declared.labels.Label.{Label}
use Rattle.reasoning.proofs.ListLemmas.{contains_cases, not_in_nil}
use Rattle.lanes.specs.Lanes.{never, trip_rules, AreLanes, lane_labels}
use Rattle.lanes.specs.LanesWithTags.{AreTagged, labels_in}
use Rattle.lanes.specs.LaneLists.{departure_in, words_in, tags_in, next_of, word_of, points_from, HasList, CoversAll}
use Rattle.lanes.specs.LaneLists.{IsRidden, MayPut, IsOnePut, IsLate, MayJoinAll, AreJoined, IsPath}
use Rattle.lanes.specs.StopLanes.{points_at, stops_of, steps_of, AreStopLanes, IsBoarding, IsBoardedAt, IsListBoarded, TakesBoardings, HasSteps}
use Rattle.lanes.specs.declared.lane_lists.LaneEntry.{LaneEntry}
use Rattle.lanes.specs.declared.stop_lanes.StopLanes.{StopLanes}
use Rattle.lanes.specs.declared.trip_lanes.Lanes.{Lanes}
use Rattle.lanes.proofs.LaneLemmas.{stands}
use Rattle.lanes.proofs.EntryLemmas.{path_on}
use Rattle.lanes.proofs.PushLemmas.{same_entry, same_points, longer, path_more}
use Rattle.lanes.proofs.CoverLemmas.{covers_inside, covers_at}
use Rattle.lanes.proofs.BoardLemmas.{none_boards}

-- each head is below a bound that grows
pub heads_within : (heads : List ℕ) (stop head old new : ℕ) → ((k : ℕ) → slice_index heads k < old) → old ≤ new
    → head < new → (k : ℕ) → slice_index (set heads stop head) k < new
heads_within heads stop head old new within grows lt k = elim (cases_eq k stop) [
  | inl e ↦ elim (cases_lt stop (length heads)) [
    | inl inside ↦ (let here = ap (λ (n : ℕ). slice_index (set heads stop head) n) e ∙ get_or-set_same heads stop head 0 inside in omega (arith, here, lt))
    | inr past ↦ (
        let long = length-set heads stop head in
        let here = get_or_past (set heads stop head) k 0 (omega (arith, long, past, e)) in
        let low = within k in
        omega (arith, here, low, grows))
  ]
  | inr other ↦ (let same = get_or-set_other heads stop k head 0 other in let low = within k in omega (arith, same, low, grows))
]

module _ (old : List LaneEntry) (head after : ℕ) (boarding : Boarding) (lanes : Lanes) (bound : List ℕ) (has : HasList old head)
    (late : IsLate old head boarding.departure after) (tagged : AreTagged lanes) (are_bound : AreLanes 9 bound) where
  abbrev Labels : List (Label TimeTrips)
  Labels = labels_in (Some lanes)

  after_inside : (p : Point TimeTrips) → Contains (points_from old after) p → Contains (points_from old head) p
  after_inside p h = path_on old has.lists late.0 head after p late.1.path h

  -- nothing is news
  pub none_taken : (steps : List Step)
      → ((k : ℕ) → k < 8 → min (word_of old after (k + 1)) (slice_index bound (k + 1)) ≤ slice_index lanes.times k)
      → AreLanes 9 (words_in (slice_get old after))
      → TakesBoardings steps boarding Labels (lane_labels (λ _. 0) bound) (points_from old head) (points_from old head)
  none_taken steps each behind = record {
    only = λ p h. inl h;
    kept = λ d v c. c;
    covered = λ l is. elim (none_boards lanes.times (words_in (slice_get old after)) (slice_index lanes.tags) tagged.lanes_are behind bound are_bound each
        l is) [
          | inl (few, le, less) ↦ inl (covers_inside (points_from old after) (points_from old head) after_inside boarding.departure (trip_rules.ride l.value)
              (l_covered l few le less))
          | inr outdone ↦ inr outdone
        ];
  }
    where
      l_covered : (l : Label TimeTrips) → l.value.trips < 8 → word_of old after (l.value.trips + 1) ≤ l.value.time → l.value.time < never
          → IsCovered trip_rules (points_from old after) boarding.departure (trip_rules.ride l.value)
      l_covered l few le less =
          covers_at old has.lists after boarding.departure (trip_rules.ride l.value) (l.value.trips + 1) late.1.within late.1.late (omega (arith, few))
          (omega (arith, few)) le less

  pub may_put : MayPut old after boarding.departure
  may_put = record { has = record { lists = has.lists; within = late.1.within }; early = late.1.late }

  -- an entry is put before the later part of the list
  module _ (mid : List LaneEntry) (index first : ℕ) (put : IsOnePut old after boarding.departure lanes first mid index) where
    pub may_join : MayJoinAll mid head boarding.departure index
    may_join =
        let long = longer old mid put.more.more in
        let within = has.within in
        let after_within = late.1.within in
        let up = late.1.late in
        let after_same = same_entry old mid put.more.more after late.1.within in
        let d = ap departure_in after_same in
        record {
          has_head = record { lists = put.more.has.lists; within = omega (arith, long, within) };
          has = put.more.has;
          after = after;
          is_late = (
            late.0,
            record {
              within = omega (arith, long, after_within);
              path = path_more old mid has.lists put.more.more head late.0 after late.1.path;
              early = λ b h.
                  let e = late.1.early b h in
                  let s = ap departure_in (same_entry old mid put.more.more b (on_path late.0 head b late.1.path h)) in
                  omega (arith, e, s);
              late = omega (arith, up, d);
            },
          );
          departs = put.departs;
          under = λ k few. let u = put.under k few in let w = ap (λ o. slice_index (words_in o) k) after_same in omega (arith, u, w);
          covers = subst (λ ps. CoversAll ps (points_from mid index)) (sym (same_points old mid has.lists put.more.more after late.1.within)) put.kept;
        }
      where
        on_path : (bs : List ℕ) (from b : ℕ) → IsPath old from bs after → Contains bs b → b < length old
        on_path [] from b path h = absurd (not_in_nil b h)
        on_path (x ∷ xs) from b path h = elim (contains_cases b x xs h) [
          | inl e ↦ subst (λ k. k < length old) e path.2
          | inr r ↦ on_path xs (next_of old x) b path.3 r
        ]

    module _ (steps was : List Step) (step : HasSteps boarding lanes.tags was first steps) where
      is_boarding : (p : Point TimeTrips) → IsRidden boarding.departure first Labels p → IsBoarding steps boarding Labels p
      is_boarding p ridden =
          let s = stands (slice_index lanes.tags) lanes.times ridden.by ridden.is_label in
          let below = s.below in
          let long = tagged.lanes_are.long in
          record {
            by = ridden.by;
            is_label = ridden.is_label;
            departs = ridden.departs;
            worth = ridden.worth;
            goes_on = ap (slice_get steps) ridden.tagged ∙ step.each ridden.by.value.trips (omega (arith, below, long))
                ∙ ap (λ tag. Some (record { first = boarding.first; label = tag; walk = boarding.walk })) (sym s.tagged);
          }

      -- a list that has the points of both, and covers them, takes the boardings in
      pub taken : (now : List (Point TimeTrips))
          → ((p : Point TimeTrips) → Contains now p → Contains (points_from old head) p ⊎ Contains (points_from mid index) p)
          → CoversAll (points_from old head) now → CoversAll (points_from mid index) now
          → TakesBoardings steps boarding Labels (lane_labels (λ _. 0) bound) (points_from old head) now
      taken now only first_kept second_kept = record {
        only = λ p h. elim (only p h) [
          | inl was_there ↦ inl was_there
          | inr put_there ↦ elim (put.only p put_there) [
            | inl behind ↦ inl (after_inside p behind)
            | inr ridden ↦ inr (is_boarding p ridden)
          ]
        ];
        kept = first_kept;
        covered = λ l is. inl (second_kept boarding.departure (trip_rules.ride l.value) (put.covered l is));
      }

      pub taken_ahead : after ≡ head → TakesBoardings steps boarding Labels (lane_labels (λ _. 0) bound) (points_from old head) (points_from mid index)
      taken_ahead same = taken (points_from mid index) (λ p h. inr h) (subst (λ n. CoversAll (points_from old n) (points_from mid index)) same put.kept)
          (λ d v c. c)

      pub taken_behind : (new : List LaneEntry) (result : ℕ) → AreJoined mid head index new result
          → TakesBoardings steps boarding Labels (lane_labels (λ _. 0) bound) (points_from old head) (points_from new result)
      taken_behind new result joined =
          let same = same_points old mid has.lists put.more.more head has.within in
          taken (points_from new result) (λ p h. elim (joined.only p h) [
            | inl a ↦ inl (subst (λ ps. Contains ps p) same a)
            | inr b ↦ inr b
          ]) (subst (λ ps. CoversAll ps (points_from new result)) same joined.kept_first) joined.kept_second

-- a list that takes boardings in is that of a stop
pub boarded_at : (old new : StopLanes) (stop : ℕ) (boarding : Boarding) (labels bound : List (Label TimeTrips)) (head : ℕ) → AreStopLanes old
    → stop < stops_of old → new.heads.items ≡ set old.heads.items stop head
    → IsListBoarded old.entries.items (slice_index old.heads.items stop) (steps_of old) boarding labels bound new.entries.items (steps_of new) head
    → IsBoardedAt stop boarding labels bound old new
boarded_at old new stop boarding labels bound head are within heads is =
    let more = is.more.more in
    let here : slice_index new.heads.items stop ≡ head =
    ap (λ hs. slice_index hs stop) heads ∙ get_or-set_same old.heads.items stop head 0 within in
    record {
      lists = record {
        lists = is.more.has.lists;
        within = subst (λ (hs : List ℕ). (k : ℕ) → slice_index hs k < length new.entries.items) (sym heads)
            (heads_within old.heads.items stop head (length old.entries.items) (length new.entries.items) are.within
            (longer old.entries.items new.entries.items more) is.more.has.within);
      };
      takes = subst (λ n. TakesBoardings (steps_of new) boarding labels bound (points_at old stop) (points_from new.entries.items n)) (sym here) is.takes;
      elsewhere = λ k other.
          ap (points_from new.entries.items)
          (ap (λ hs. slice_index hs k) heads ∙ get_or-set_other old.heads.items stop k head 0 other)
          ∙ same_points old.entries.items new.entries.items are.lists more (slice_index old.heads.items k) (are.within k);
      long = ap length heads ∙ length-set old.heads.items stop head;
      steps = is.steps_more;
      entries = longer old.entries.items new.entries.items more;
      tags = λ m lt. ap tags_in (same_entry old.entries.items new.entries.items more m lt);
    }
