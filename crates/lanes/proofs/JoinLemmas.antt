-- The entries of a list that depart before a time, put before another list one by one.
use Rattle.std.proofs.Common.{◌≡◌, ◌⊎◌, ℕ, ◌<◌, ◌≤◌, List, [], ◌∷◌, ◌++◌, length, Contains, slice_get, slice_index}
use Rattle.std.proofs.Common.{inl, inr, sym, ap, ◌∙◌, subst, arith}
use Rattle.std.proofs.lemmas.List.Elements.{Contains-append_left, Contains-push}
use Rattle.reasoning.specs.Lists.{Extends}
use Rattle.reasoning.proofs.ListLemmas.{extends_none, extends_on}
use Rattle.criteria.specs.declared.arrival_trips.TimeTrips.{TimeTrips}
use Rattle.bags.specs.Dominance.{IsCovered}
use Rattle.bags.specs.declared.point.Point.{Point}
use Rattle.lanes.specs.Lanes.{trip_rules}
use Rattle.lanes.specs.LaneLists.{departure_in, next_in, words_in, departure_of, next_of, word_of, points_from}
use Rattle.lanes.specs.LaneLists.{AreLists, IsPath, DepartBefore, CoversAll, IsUnder, MayJoin, AreJoined, IsOneJoined, MayJoinAll, ArePassed}
use Rattle.lanes.specs.declared.lane_lists.LaneEntry.{LaneEntry}
use Rattle.fronts.proofs.Chains.{path_pop}
use Rattle.lanes.proofs.EntryLemmas.{rises, of_next, path_one}
use Rattle.lanes.proofs.PushLemmas.{same_entry, same_points, longer}

-- what is joined so far: all from entry `was` on; `rest` are the entries before it
pub record IsJoinedFrom (old : List LaneEntry) (head index : ℕ) (now : List LaneEntry) (rest : List ℕ) (new was : ℕ) : Type 0 where
  pub path : IsPath old head rest was
  pub within : was < length old
  pub early : DepartBefore old (departure_of old index) rest
  pub late : (departure_of old index ≤ departure_of now new) ⊎ (departure_of old was ≤ departure_of now new)
  pub under : IsUnder old was now new
  pub joined : AreJoined old was index now new

-- nothing is joined yet
pub joined_first : (old : List LaneEntry) (head time index : ℕ) (passed : List ℕ) → MayJoinAll old head time index → ArePassed old head time passed
    → (was : ℕ) × IsJoinedFrom old head index old passed index was
joined_first old head time index passed may (after, is) =
    let same : may.after ≡ after = path_one old may.has.lists time may.is_late.0 passed head may.after after may.is_late.1.path is.path
    may.is_late.1.early is.early may.is_late.1.late is.late in
    let departs = may.departs in (
      after,
      record {
        path = is.path;
        within = is.within;
        early = λ b h. let e = is.early b h in omega (arith, e, departs);
        late = inl (omega arith);
        under = subst (λ n. IsUnder old n old index) same may.under;
        joined = record {
          more = record { has = may.has; more = extends_none old };
          only = λ p h. inr h;
          kept_first = subst (λ n. CoversAll (points_from old n) (points_from old index)) same may.covers;
          kept_second = λ d v c. c;
        };
      },
    )

module _ (old : List LaneEntry) (are : AreLists old) (head index : ℕ) (now : List LaneEntry) (passed rest : List ℕ) (from new was : ℕ)
    (so_far : IsJoinedFrom old head index now passed new was) (popped : passed ≡ rest ++ from ∷ []) where
  abbrev more : Extends old now
  more = so_far.joined.more.more

  last : IsPath old head rest from × (0 < from) × (from < length old) × (next_of old from ≡ was)
  last = path_pop (next_of old) (length old) head rest from was (subst (λ bs. IsPath old head bs was) popped so_far.path)

  from_same : slice_get now from ≡ slice_get old from
  from_same = same_entry old now more from last.2

  next_same : next_of now from ≡ was
  next_same = ap next_in from_same ∙ last.3

  was_word : (k : ℕ) → word_of now (next_of now from) k ≡ word_of old was k
  was_word k = ap (λ n. word_of now n k) next_same ∙ ap (λ o. slice_index (words_in o) k) (same_entry old now more was so_far.within)

  was_points : points_from now (next_of now from) ≡ points_from old was
  was_points = ap (points_from now) next_same ∙ same_points old now are more was so_far.within

  is_earlier : departure_of now from ≤ departure_of now new
  is_earlier =
      let same = ap departure_in from_same in
      elim so_far.late [
        | inl l ↦
            let lt = so_far.early from (subst (λ bs. Contains bs from) (sym popped) (Contains-push rest from)) in
            omega (arith, same, l, lt)
        | inr l ↦
            let up = rises old are from last.2 in
            let n = ap (departure_of old) last.3 in
            omega (arith, same, l, up, n)
      ]

  pub may_join : MayJoin now from new
  may_join =
      let long = longer old now more in
      let within = last.2 in
      record {
        has = so_far.joined.more.has;
        some = last.1;
        within = omega (arith, long, within);
        early = is_earlier;
        under = λ k few. let u = so_far.under k few in let w = was_word k in omega (arith, u, w);
        covers = subst (λ ps. CoversAll ps (points_from now new)) (sym was_points) so_far.joined.kept_first;
      }

  pub joined_next : (last_entries : List LaneEntry) (result : ℕ) → IsOneJoined now from new last_entries result
      → IsJoinedFrom old head index last_entries rest result from
  joined_next last_entries result one =
      let points = same_points old now are more from last.2 in
      let d = ap departure_in from_same in
      let late = one.late in
      record {
        path = last.0;
        within = last.2;
        early = λ b h. so_far.early b (subst (λ bs. Contains bs b) (sym popped) (Contains-append_left rest (from ∷ []) b h));
        late = inr (omega (arith, d, late));
        under = λ k few. let u = one.under k few in let w = ap (λ o. slice_index (words_in o) k) from_same in omega (arith, u, w);
        joined = record {
          more = record { has = one.joined.more.has; more = extends_on old now last_entries more one.joined.more.more };
          only = λ p h. elim (one.joined.only p h) [
            | inl mine ↦ inl (subst (λ ps. Contains ps p) points mine)
            | inr rest_point ↦ elim (so_far.joined.only p rest_point) [
              | inl w ↦ inl (of_was p w)
              | inr i ↦ inr i
            ]
          ];
          kept_first = λ departure v c. one.joined.kept_first departure v (subst (λ ps. IsCovered trip_rules ps departure v) (sym points) c);
          kept_second = λ departure v c. one.joined.kept_second departure v (so_far.joined.kept_second departure v c);
        };
      }
    where
      of_was : (p : Point TimeTrips) → Contains (points_from old was) p → Contains (points_from old from) p
      of_was p w = of_next old are from p (subst (λ n. Contains (points_from old n) p) (sym last.3) w)
