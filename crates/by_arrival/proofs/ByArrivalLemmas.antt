-- What is kept by arrival alone takes offers in.
use Rattle.std.proofs.Common.{◌≡◌, ◌⊎◌, ℕ, zero, suc, ◌+◌, ◌-◌, ◌<◌, ◌≤◌, List, []}
use Rattle.std.proofs.Common.{◌∷◌, ◌++◌, length, replicate, set, take, drop, Contains, slice_get, slice_index, ◌↔◌}
use Rattle.std.proofs.Common.{true, false, nat_le, nat_lt, min, Option, Some, None, inl, inr, refl, sym, ap, ◌∙◌, subst, arith}
use Rattle.std.specs.Global.{Vec}
use Rattle.std.specs.Vec.{with_item}
use Rattle.std.proofs.lemmas.Bool.{cases_Bool, cases_eq, cases_lt, le-leb, leb-true, lt-ltb, ltb-true}
use Rattle.std.proofs.lemmas.List.{get_or_past, length-replicate, length-set}
use Rattle.std.proofs.lemmas.List.Folds.{list_any_at}
use Rattle.std.proofs.lemmas.Option.{none-some, same_Some, slice_get_cases, slice_get_within}
use Rattle.timetable.proofs.LegalLemmas.{At-Contains, Contains-At}
use Rattle.reasoning.proofs.ListLemmas.{contains_first, contains_only, extends_one}
use Rattle.reasoning.proofs.ListLemmas.{not_in_nil, slice_get-replicate-is, slice_get-set_other, slice_get-set_same}
use Rattle.criteria.specs.Laws.{Admits, IsTime, time_limit}
use Rattle.bags.specs.declared.point.Point.{Point}
use Rattle.bags.specs.Dominance.{IsCovered}
use Rattle.timetable.specs.declared.network.Connection.{Connection}
use Rattle.timetable.specs.declared.network.Footpath.{Footpath}
use Rattle.timetable.specs.Legal.{At}
use Rattle.timetable.specs.TimetableValue.{TimetableValue}
use Rattle.timetable.specs.Journeys.{start_secs}
use Rattle.fronts.specs.Lists.{TakesRidden}
use Rattle.fronts.specs.declared.entry.RiddenLabel.{RiddenLabel}
use Rattle.fronts.specs.declared.entry.Step.{Step}
use Rattle.fronts.specs.declared.labels.Label.{Label}
use Rattle.arrival_lists.specs.Lists.{AreMoreLists, HasTaken, IsBestFrom, IsEmptyAlone, IsFirstOf, Reaches, TakesPoint}
use Rattle.arrival_lists.specs.Lists.{as_point, entries_of, list_points, never, steps_of}
use Rattle.arrival_lists.specs.declared.arrival_lists.ArrivalLists.{ArrivalLists}
use Rattle.arrival_lists.specs.declared.entry.FirstPoint.{FirstPoint}
use Rattle.arrival_lists.proofs.Entries.{same_points, times_of}
use Rattle.arrival_lists.proofs.Searches.{first_least, first_made, first_still, steps_more}
use Rattle.scan_state.specs.ScanState.{final_walk_in}
use Rattle.scan_state.specs.SetQuery.{SetQueryValue}
use Rattle.scan_state.specs.Values.{started}
use Rattle.scan_state.specs.Points.{Covers}
use Rattle.scan_state.specs.Matching.{Spellings, from_to}
use Rattle.scan_state.specs.Steps.{Boarding, Offer, TakesIn, TakesInBut, boardings}
use Rattle.scan_state.specs.Bound.{Excludes}
use Rattle.scan_state.specs.Adding.{AreRidden, IsEnding, StandsBetween, boardings_by, changes_from, each_of, endings, label_points, one_way}
use Rattle.scan_state.specs.ScanRecords.{IsExit, scan_records, spelling_of}
use Rattle.scan_state.specs.Hops.{StandsAt}
use Rattle.scan_state.specs.Keeping.{AdmitsKept, IsIdle}
use Rattle.scan_state.specs.KeptParts.{BagsTake}
use Rattle.by_arrival.specs.ByArrival.{AreByArrival, AreUnderByArrival, BoardsByArrival, BoundExcludes}
use Rattle.by_arrival.specs.ByArrival.{CanBoardAfterByArrival, CanLeaveByArrival, CanRenewByArrival}
use Rattle.by_arrival.specs.ByArrival.{IsLikeByArrival, RelabelsByArrival, RenewsByArrival, arrival_rules, heads_of}
use Rattle.by_arrival.specs.ByArrival.{label_if, label_in, labels_of, ridden_point, stops_of, trips_of, value_by_arrival}
use Rattle.by_arrival.specs.declared.by_arrival.ByArrival.{ByArrival}
use Rattle.scan_state.specs.declared.final_walks.FinalWalk.{FinalWalk}
use Rattle.scan_state.specs.declared.hop.Hop.{Hop}
use Rattle.scan_state.specs.declared.scan_records.Exit.{Exit}
use Rattle.scan_state.specs.declared.scan_records.Exit.TheVariants.{Changes, Ends}
use Rattle.scan_state.proofs.EndLemmas.{takes_the_end}
use Rattle.scan_state.proofs.KeptLemmas.{bags_all, bags_as, bags_closed, bags_none, labels_as, labels_none}
use Rattle.scan_state.proofs.Offers.{but_as, excused_as, sure, takes_but}
use Rattle.scan_state.proofs.RideLemmas.{boarded_at}
use Rattle.scan_state.proofs.ScanRecordLemmas.{exit_next, grows_on, steps_grow}

-- nothing has changed
pub still_like : (kept : ByArrival) → AreByArrival kept → IsLikeByArrival kept kept
still_like kept are = record { are = are; stops = refl; trips = refl; bound = refl }

pub like_then : (old mid new : ByArrival) → IsLikeByArrival old mid → IsLikeByArrival mid new → IsLikeByArrival old new
like_then old mid new a b = record { are = b.are; stops = b.stops ∙ a.stops; trips = b.trips ∙ a.trips; bound = b.bound ∙ a.bound }

-- the label of a trip
module _ (l : Label ℕ) where
  pub has_label : l.value < never → label_in (Some l) ≡ l ∷ []
  has_label lt = ap (λ b. label_if b l) (lt-ltb l.value never lt)

  pub lacks_label : never ≤ l.value → label_in (Some l) ≡ []
  lacks_label ge = elim (cases_Bool (nat_lt l.value never)) [
    | inl yes_lt ↦ let lt = ltb-true l.value never yes_lt in absurd (omega (arith, lt, ge))
    | inr no_lt ↦ ap (λ b. label_if b l) no_lt
  ]

  -- a point of it
  pub of_label : (p : Point ℕ) → Contains (label_points (label_in (Some l))) p
      → (l.value < never) × (p ≡ record { departure = 0; value = l.value; tag = l.tag })
  of_label p is = elim (cases_lt l.value never) [
    | inl lt ↦ (lt, contains_only _ p (subst (λ ls. Contains (label_points ls) p) (has_label lt) is))
    | inr ge ↦ absurd (not_in_nil p (subst (λ ls. Contains (label_points ls) p) (lacks_label ge) is))
  ]

  -- what it covers
  pub label_covers : (v : ℕ) → l.value ≤ v → v < never → Covers arrival_rules (label_points (label_in (Some l))) 0 v
  label_covers v le lt =
      subst (λ ls. Covers arrival_rules (label_points ls) 0 v) (sym (has_label (omega (arith, le, lt))))
      (record { departure = 0; value = l.value; tag = l.tag }, contains_first _ [], omega arith, le-leb l.value v le)

-- the labels of a trip are those of its slot
pub labels_are : (kept : ByArrival) (trip : ℕ) (l : Label ℕ) → slice_get kept.labels.items trip ≡ Some l → labels_of kept trip ≡ label_in (Some l)
labels_are kept trip l at = ap label_in at

-- all values that are kept are admitted
pub admits_kept : (kept : ByArrival) → AreByArrival kept → AdmitsKept arrival_rules (value_by_arrival kept)
admits_kept kept are = record {
  bags = λ stop p is. lt-ltb p.value time_limit (times_of (entries_of kept.lists) are.sound (slice_index (heads_of kept.firsts.items) stop) p is);
  labels = λ trip p is. elim (slice_get_cases kept.labels.items trip).1 [
    | inl there ↦
        let l = there.0 in
        let at : slice_get kept.labels.items trip ≡ Some l = there.2 in
        let of = of_label l p (subst (λ ls. Contains (label_points ls) p) (labels_are kept trip l at) is) in
        subst (λ (q : Point ℕ). Admits arrival_rules q.value) (sym of.1) (lt-ltb l.value time_limit (are.times trip l at of.0))
    | inr past ↦ absurd (not_in_nil p (subst (λ o. Contains (label_points (label_in o)) p) past.1 is))
  ];
}

module _ (old : ByArrival) (are : AreByArrival old) (trip : ℕ) (l : Label ℕ) (at : slice_get old.labels.items trip ≡ Some l)
    (time : ℕ) (in_time : IsTime time) where
  -- the label is no later
  pub not_offered : (fits : Spellings → ℕ → Type 0) → l.value ≤ time
      → RelabelsByArrival trip (λ _. ⊥) (λ tags. one_way 0 time (fits tags)) old old
  not_offered fits le = record {
    like = still_like old are;
    takes = labels_none arrival_rules
        (λ tags way opened. inl (subst (λ ls. Covers arrival_rules (label_points ls) 0 time) (sym (labels_are old trip l at))
        (label_covers l time le (omega (arith, in_time)))));
  }

  -- the label is later, and replaced
  module _ (exit : Exit) (exits : Vec Exit) (pushed : exits.items ≡ old.exits.items ++ exit ∷ []) (tag : ℕ) (tag_is : tag ≡ length old.exits.items)
      (earlier : time < l.value) where
    abbrev label : Label ℕ
    label = record { value = time; tag = tag }

    abbrev with_label : ByArrival
    with_label = record {
      labels = with_item old.labels trip label;
      exits = exits;
      firsts = old.firsts;
      lists = old.lists;
      bound = old.bound;
    }

    at_trip : slice_get (set old.labels.items trip label) trip ≡ Some label
    at_trip = slice_get-set_same old.labels.items trip label (slice_get_within old.labels.items trip l at)

    new_times : (k : ℕ) (m : Label ℕ) → slice_get (set old.labels.items trip label) k ≡ Some m → m.value < never → IsTime m.value
    new_times k m there lt = elim (cases_eq k trip) [
      | inl same ↦
          let is : label ≡ m = same_Some label m (sym at_trip ∙ subst (λ n. slice_get (set old.labels.items trip label) n ≡ Some m) same there) in
          subst (λ (x : Label ℕ). IsTime x.value) is in_time
      | inr other ↦ are.times k m (sym (slice_get-set_other old.labels.items trip k label other) ∙ there) lt
    ]

    taken : (spell : Spellings) → IsExit spell exit (length old.exits.items)
        → TakesInBut arrival_rules (λ _. ⊥) (one_way 0 time (IsExit spell exit)) (label_points (labels_of old trip)) (label_points (labels_of with_label trip))
    taken spell spelled =
        let here : labels_of with_label trip ≡ label ∷ [] = ap label_in at_trip ∙ has_label label (omega (arith, in_time)) in
        let p : Point ℕ = record { departure = 0; value = time; tag = tag } in
        subst (λ ls. TakesInBut arrival_rules (λ _. ⊥) (one_way 0 time (IsExit spell exit)) (label_points (labels_of old trip)) (label_points ls)) (sym here)
        (record {
          only = λ q h.
              let is : q ≡ p = contains_only p q h in
              inr (record {
                way = tt;
                is_open = tt;
                departs = ap (λ (x : Point ℕ). x.departure) is;
                worth = ap (λ (x : Point ℕ). x.value) is;
                fits = subst (λ n. IsExit spell exit n) (sym (ap (λ (x : Point ℕ). x.tag) is ∙ tag_is)) spelled;
              });
          kept = λ d v a c.
              let of = of_label l c.0 (subst (λ ls. Contains (label_points ls) c.0) (labels_are old trip l at) c.1) in
              let late = c.2 in
              let departs : c.0.departure ≡ 0 = ap (λ (x : Point ℕ). x.departure) of.1 in
              let le : l.value ≤ v = leb-true l.value v (subst (λ (x : Point ℕ). nat_le x.value v ≡ true) of.1 c.3) in
              (p, contains_first p [], omega (arith, late, departs), le-leb time v (omega (arith, earlier, le)));
          covered = λ way opened. inl (p, contains_first p [], omega arith, le-leb time time (omega arith));
        })

    pub relabelled : RelabelsByArrival trip (λ _. ⊥) (λ tags. one_way 0 time (IsExit tags exit)) old with_label
    relabelled = record {
      like = record {
        are = record { sound = are.sound; firsts = are.firsts; times = new_times; limit = are.limit };
        stops = refl;
        trips = length-set old.labels.items trip label;
        bound = refl;
      };
      takes = record {
        exits = extends_one old.exits.items exits.items exit pushed;
        steps = refl;
        bags = λ stop. refl;
        other_trips = λ k other. ap (λ o. label_points (label_in o)) (slice_get-set_other old.labels.items trip k label other);
        takes = λ walks set_outs before all first_grows then_grows.
            taken (from_to (spelling_of walks before) (spelling_of walks all))
            (exit_next walks old.exits.items exits.items (steps_of old.lists) set_outs before all exit pushed first_grows then_grows);
      };
    }

-- the heads of lists
pub head_at : (firsts : List FirstPoint) (k : ℕ) (f : FirstPoint) → slice_get firsts k ≡ Some f → slice_index (heads_of firsts) k ≡ f.head
head_at [] k f at = absurd (none-some f at)
head_at (x ∷ xs) zero f at = ap (λ (y : FirstPoint). y.head) (same_Some x f at)
head_at (x ∷ xs) (suc k) f at = head_at xs k f at

heads_long : (firsts : List FirstPoint) → length (heads_of firsts) ≡ length firsts
heads_long [] = refl
heads_long (x ∷ xs) = ap suc (heads_long xs)

heads_set : (firsts : List FirstPoint) (k : ℕ) (f : FirstPoint) → heads_of (set firsts k f) ≡ set (heads_of firsts) k f.head
heads_set [] k f = refl
heads_set (x ∷ xs) zero f = refl
heads_set (x ∷ xs) (suc k) f = ap (λ hs. x.head ∷ hs) (heads_set xs k f)

module _ (kept : ByArrival) (are : AreByArrival kept) where
  pub heads_below : (k : ℕ) → slice_index (heads_of kept.firsts.items) k < length (entries_of kept.lists)
  heads_below k = elim (cases_lt k (length kept.firsts.items)) [
    | inl below ↦ elim (slice_get_cases kept.firsts.items k).1 [
      | inl there ↦
          let at : slice_get kept.firsts.items k ≡ Some there.0 = there.2 in
          let first = are.firsts k there.0 at in
          let within = slice_get_within (entries_of kept.lists) (there.0).head first.entry first.at in
          subst (λ n. n < length (entries_of kept.lists)) (sym (head_at kept.firsts.items k there.0 at)) within
      | inr past ↦ (let out = past.0 in absurd (omega (arith, out, below)))
    ]
    | inr past ↦
        let some = are.sound.some in
        let long = heads_long kept.firsts.items in
        let none = get_or_past (heads_of kept.firsts.items) k 0 (omega (arith, past, long)) in
        omega (arith, none, some)
  ]

-- one changes to no point that isn't news, and to the best
module _ (hop : Hop ℕ) (old : ByArrival) (are : AreByArrival old) (excludes : BoundExcludes hop.bound.now old) (first : FirstPoint)
    (there : slice_get old.firsts.items hop.connection.to ≡ Some first) where
  abbrev Points : List (Point ℕ)
  Points = (value_by_arrival old).bag hop.connection.to

  abbrev Excused : Point ℕ → Type 0
  Excused p = Excludes arrival_rules hop.bound.now p.value

  abbrev ChangesTo : Spellings → Offer (Point ℕ) ℕ
  ChangesTo tags = changes_from tags hop.place hop.connection.arr Points

  points_are : Points ≡ list_points old.lists first.head
  points_are = ap (list_points old.lists) (head_at old.firsts.items hop.connection.to first there)

  point_in_time : (p : Point ℕ) → Contains Points p → IsTime p.value
  point_in_time p is = ltb-true p.value time_limit ((admits_kept old are).bags hop.connection.to p is)

  excused : (p : Point ℕ) → Contains Points p → old.bound ≤ p.value → Excused p
  excused p is le = excludes p.value ((admits_kept old are).bags hop.connection.to p is) le

  -- the first point isn't news
  pub no_news : (l : Label ℕ) → slice_get old.labels.items hop.connection.trip ≡ Some l → min l.value old.bound ≤ first.time
      → RelabelsByArrival hop.connection.trip Excused ChangesTo old old
  no_news l at low = record {
    like = still_like old are;
    takes = labels_none arrival_rules
        (λ tags p opened.
        let least = first_least old.lists are.sound first (are.firsts hop.connection.to first there) p (subst (λ ps. Contains ps p) points_are opened.0) in
        let in_time = point_in_time p opened.0 in
        elim (cases_lt first.time l.value) [
          | inl news ↦ inr (excused p opened.0 (omega (arith, news, low, least)))
          | inr beaten ↦
              inl (subst (λ ls. Covers arrival_rules (label_points ls) 0 p.value) (sym (labels_are old hop.connection.trip l at))
              (label_covers l p.value (omega (arith, beaten, least)) (omega (arith, in_time))))
        ]);
  }

  module _ (best : FirstPoint) (is_best : IsBestFrom (list_points old.lists first.head) hop.connection.arr best) where
    low : (p : Point ℕ) → Contains Points p → hop.connection.arr ≤ p.departure → best.time ≤ p.value
    low p is late = is_best.least p (subst (λ ps. Contains ps p) points_are is) late

    -- the bound excludes it, and so all that depart late enough
    pub all_excluded : old.bound ≤ best.time → RelabelsByArrival hop.connection.trip Excused ChangesTo old old
    all_excluded le = record {
      like = still_like old are;
      takes = labels_none arrival_rules
          (λ tags p opened. let least = low p opened.0 opened.1 in inr (excused p opened.0 (omega (arith, le, least))));
    }

    -- it is offered, and stands for all
    pub changed_by : best.time < never → (new : ByArrival)
        → RelabelsByArrival hop.connection.trip (λ _. ⊥) (λ tags. one_way 0 best.time (IsExit tags (Changes hop.place best.tag))) old new
        → RelabelsByArrival hop.connection.trip Excused ChangesTo old new
    changed_by lt new taken = record {
      like = taken.like;
      takes = labels_as arrival_rules (λ tags takes.
          let made = is_best.made_of lt in
          but_as arrival_rules (λ _. ⊥) Excused (one_way 0 best.time (IsExit tags (Changes hop.place best.tag))) (ChangesTo tags)
          ((value_by_arrival old).labels hop.connection.trip) ((value_by_arrival new).labels hop.connection.trip)
          (λ way opened. record {
            there = as_point best;
            is_open = (subst (λ ps. Contains ps (as_point best)) (sym points_are) made.0, made.1);
            departs = refl;
            worth = refl;
            fits = λ tag h. h;
          })
          (λ p opened.
          let c = sure (takes.covered tt tt) in
          let first_le = leb-true c.0.value best.time c.3 in
          let then_le = low p opened.0 opened.1 in
          inl (c.0, c.1, c.2, le-leb c.0.value p.value (omega (arith, first_le, then_le))))
          takes)
          taken.takes;
    }

-- a connection adds nothing whose trip has no label, and whose stop no point that isn't excluded
module _ (kept : ByArrival) (are : AreByArrival kept) (values : List ℕ) (excludes : BoundExcludes values kept) where
  pub is_idle : (trip stop : ℕ) (l : Label ℕ) (first : FirstPoint) → slice_get kept.labels.items trip ≡ Some l
      → slice_get kept.firsts.items stop ≡ Some first → never ≤ l.value → kept.bound ≤ first.time
      → (c : Connection) (way : Option FinalWalk) → way ≡ None
      → IsIdle arrival_rules values c way ((value_by_arrival kept).labels trip) ((value_by_arrival kept).bag stop)
  is_idle trip stop l first at there none late c way no_way = record {
    no_labels = ap label_points (labels_are kept trip l at ∙ lacks_label l none);
    leads_nowhere = λ alights. (
      no_way,
      λ p h.
          let is = subst (λ ps. Contains ps p) (ap (list_points kept.lists) (head_at kept.firsts.items stop first there)) h in
          let least = first_least kept.lists are.sound first (are.firsts stop first there) p is in
          excludes p.value ((admits_kept kept are).bags stop p h) (omega (arith, late, least)),
    );
  }

-- a ridden value stands for one label
alone : (ride : RiddenLabel ℕ) → AreRidden arrival_rules (ridden_point ride ∷ []) (ride ∷ [])
alone ride = record {
  of_label = λ r h.
      let same : r ≡ ride = contains_only ride r h in (
        ridden_point ride,
        contains_first (ridden_point ride) [],
        ap (λ (x : RiddenLabel ℕ). x.value) same,
        ap (λ (x : RiddenLabel ℕ). x.label) same,
      );
  each = λ p h.
      let same : p ≡ ridden_point ride = contains_only (ridden_point ride) p h in
      (ride, contains_first ride [], sym (ap (λ (x : Point ℕ). x.value) same));
}

-- what is reached is covered
reached : (points : List (Point ℕ)) (d v : ℕ) → Reaches points d v → IsCovered arrival_rules points d v
reached points d v r = (r.0, r.1, r.2, le-leb (r.0).value v r.3)

reaches : (points : List (Point ℕ)) (d v : ℕ) → IsCovered arrival_rules points d v → Reaches points d v
reaches points d v c = (c.0, c.1, c.2, leb-true (c.0).value v c.3)

-- a list takes in the point of boarding with a label
takes_ridden : (steps : List Step) (departure first walk secs : ℕ) (ride : RiddenLabel ℕ) (old new : List (Point ℕ))
    → TakesPoint steps departure ride.value (record { first = first; label = ride.label; walk = walk }) old new
    → TakesRidden arrival_rules steps (record { departure = departure; first = first; walk = walk; secs = secs }) (ride ∷ []) old new
takes_ridden steps departure first walk secs ride old new takes = record {
  only = λ p h. elim (takes.only p h) [
    | inl before ↦ inl before
    | inr is ↦ inr (
      record { departure = p.departure; value = p.value; tag = p.tag },
      refl,
      record {
        by = ride;
        is_ridden = contains_first ride [];
        departs = is.0;
        worth = is.1;
        goes_on = is.2;
      },
    )
  ];
  kept = λ d v a c. reached new d v (takes.kept d v (reaches old d v c));
  covered = λ r h.
      subst (λ (x : RiddenLabel ℕ). IsCovered arrival_rules new departure x.value) (sym (contains_only ride r h))
      (reached new departure ride.value takes.covered);
}

-- passengers board after a footpath
module _ (hop : Hop ℕ) (walk_index : ℕ) (walk : Footpath) (ride : RiddenLabel ℕ) (old : ByArrival) (can : CanBoardAfterByArrival walk ride old) where
  abbrev IsWalk : List Footpath → Type 0
  IsWalk walks = slice_get walks walk_index ≡ Some walk

  abbrev Boardings : ℕ → Spellings → Offer (Point ℕ) ℕ
  Boardings stop tags = boardings_by arrival_rules tags hop.place hop.connection stop (ridden_point ride ∷ []) walk

  -- one that begins before time 0 is none
  pub too_long : hop.connection.dep < walk.secs → BoardsByArrival IsWalk (λ _. ⊥) Boardings old old
  too_long early = record {
    like = still_like old can.are;
    takes = bags_none arrival_rules (λ stop tags way opened. let late = opened.0.1 in absurd (omega (arith, late, early)));
  }

  module _ (fits : walk.secs ≤ hop.connection.dep) (first : FirstPoint) (there : slice_get old.firsts.items walk.from ≡ Some first) where
    -- the stop's first point covers it
    pub covered_already : hop.connection.dep - walk.secs ≤ first.departure → first.time ≤ ride.value
        → BoardsByArrival IsWalk (λ _. ⊥) Boardings old old
    covered_already late low =
        let time = can.time in
        let points = (value_by_arrival old).bag in
        let made = first_made old.lists can.are.sound first (can.are.firsts walk.from first there) (omega (arith, low, time)) in
        let is : points walk.from ≡ list_points old.lists first.head = ap (list_points old.lists) (head_at old.firsts.items walk.from first there) in
        let covers : IsCovered arrival_rules (points walk.from) (hop.connection.dep - walk.secs) ride.value =
        (as_point first, subst (λ ps. Contains ps (as_point first)) (sym is) made, late, le-leb first.time ride.value low) in
        record {
          like = still_like old can.are;
          takes = bags_none arrival_rules (λ stop tags way opened.
              inl (subst (λ s. Covers arrival_rules (points s) (hop.connection.dep - walk.secs) way.value) opened.0.0
              (subst (λ (p : Point ℕ). Covers arrival_rules (points walk.from) (hop.connection.dep - walk.secs) p.value)
              (sym (contains_only (ridden_point ride) way opened.1)) covers)));
        }

    -- the stop's list takes it in
    module _ (number : ℕ) (number_is : number ≡ walk_index) (lists : ArrivalLists) (more : AreMoreLists old.lists lists) (f : FirstPoint)
        (taken : HasTaken (hop.connection.dep - walk.secs) ride.value (record {
          first = hop.place;
          label = ride.label;
          walk = number;
        }) old.lists first.head lists f) where
      abbrev after : ByArrival
      after = record {
        labels = old.labels;
        exits = old.exits;
        firsts = with_item old.firsts walk.from f;
        lists = lists;
        bound = old.bound;
      }

      same : (index : ℕ) → index < length (entries_of old.lists) → list_points lists index ≡ list_points old.lists index
      same = same_points (entries_of old.lists) (entries_of lists) can.are.sound more.entries

      new_firsts : (k : ℕ) (x : FirstPoint) → slice_get (set old.firsts.items walk.from f) k ≡ Some x → IsFirstOf lists x.head x
      new_firsts k x at = elim (cases_eq k walk.from) [
        | inl here ↦
            let is : f ≡ x = same_Some f x (sym (slice_get-set_same old.firsts.items walk.from f can.stop)
            ∙ subst (λ n. slice_get (set old.firsts.items walk.from f) n ≡ Some x) here at) in
            subst (λ (y : FirstPoint). IsFirstOf lists y.head y) is taken.is_first
        | inr other ↦
            first_still old.lists lists more.entries x (can.are.firsts k x (sym (slice_get-set_other old.firsts.items walk.from k f other) ∙ at))
      ]

      pub boards : BoardsByArrival IsWalk (λ _. ⊥) Boardings old after
      boards = record {
        like = record {
          are = record { sound = more.sound; firsts = new_firsts; times = can.are.times; limit = can.are.limit };
          stops = length-set old.firsts.items walk.from f;
          trips = refl;
          bound = refl;
        };
        takes = record {
          exits = refl;
          steps = steps_more (entries_of old.lists) (entries_of lists) more.entries;
          labels = λ trip. refl;
          takes = λ walks at stop set_outs before all first_grows then_grows.
              let heads = heads_of old.firsts.items in
              let was = scan_records old.exits.items (steps_of old.lists) set_outs in
              let now = scan_records old.exits.items (steps_of lists) set_outs in
              let spell = from_to (spelling_of walks before) (spelling_of walks all) in
              let long = heads_long old.firsts.items in
              let stop_in = can.stop in
              let grown = steps_more (entries_of old.lists) (entries_of lists) more.entries in
              let heads_are : set heads walk.from f.head ≡ heads_of (set old.firsts.items walk.from f) = sym (heads_set old.firsts.items walk.from f) in
              takes_but arrival_rules (λ _. ⊥) (Boardings stop spell) ((value_by_arrival old).bag stop) ((value_by_arrival after).bag stop)
              (subst (λ hs. TakesIn arrival_rules (Boardings stop spell) ((value_by_arrival old).bag stop) (list_points lists (slice_index hs stop))) heads_are
              (boarded_at (λ (_ : ℕ). arrival_rules) 0 0 refl (ridden_point ride ∷ []) walks (ride ∷ []) (alone ride) (list_points old.lists)
              (list_points lists) heads (length (entries_of old.lists)) (heads_below old can.are) same (steps_of lists) walk number hop.place hop.connection.dep
              first.head f.head
              (omega (arith, long, stop_in)) fits (subst (λ n. slice_get walks n ≡ Some walk) (sym number_is) at)
              (sym (head_at old.firsts.items walk.from first there))
              (takes_ridden (steps_of lists) (hop.connection.dep - walk.secs) hop.place number walk.secs ride (list_points old.lists first.head)
              (list_points lists f.head) taken.takes) stop before all
              (grows_on before was all first_grows
              (grows_on was now all (steps_grow old.exits.items (steps_of old.lists) (steps_of lists) set_outs grown) then_grows)) then_grows.steps));
        };
      }

-- the least of some values is their bound
pub least_excludes : (values : List ℕ) (kept : ByArrival) → (kept.bound ≡ never) ⊎ Contains values kept.bound → BoundExcludes values kept
least_excludes values kept (inl none) v a le = let lt = ltb-true v time_limit a in absurd (omega (arith, none, le, lt))
least_excludes values kept (inr is) v a le =
    list_any_at (λ b. nat_le b v) values is.0 kept.bound is.1 (ap (λ b. nat_le b v) is.2 ∙ le-leb kept.bound v le)

pub still_bounds : (values : List ℕ) (kept : ByArrival) → CanRenewByArrival values kept → BoundExcludes values kept
still_bounds values kept can v a le = can.more v a (can.excludes v a le)

-- the least of the first k values
pub record IsLeastOf (values : List ℕ) (k least : ℕ) : Type 0 where
  pub one : (least ≡ never) ⊎ Contains values least
  pub low : (j v : ℕ) → j < k → slice_get values j ≡ Some v → least ≤ v

pub least_none : (values : List ℕ) → IsLeastOf values 0 never
least_none values = record { one = inl refl; low = λ j v lt at. absurd (omega (arith, lt)) }

pub least_more : (values : List ℕ) (k v least : ℕ) → slice_get values k ≡ Some v → IsLeastOf values k least → IsLeastOf values (k + 1) (min least v)
least_more values k v least at before = record {
  one = elim (cases_lt least v) [
    | inl lt ↦ subst (λ n. (n ≡ never) ⊎ Contains values n) (omega (arith, lt)) before.one
    | inr ge ↦ inr (subst (Contains values) (omega (arith, ge)) (Contains-At values k v at))
  ];
  low = λ j w lt there. elim (cases_lt j k) [
    | inl earlier ↦ let le = before.low j w earlier there in omega (arith, le)
    | inr ge ↦
        let last : j ≡ k = omega (arith, lt, ge) in
        let same : v ≡ w = same_Some v w (sym at ∙ ap (slice_get values) (sym last) ∙ there) in
        omega (arith, same)
  ];
}

pub least_all : (values : List ℕ) (k least : ℕ) → length values ≤ k → IsLeastOf values k least → (v : ℕ) → Contains values v → least ≤ v
least_all values k least all is v h =
    let at = At-Contains values v h in
    let within = slice_get_within values at.0 v at.1 in
    is.low at.0 v (omega (arith, within, all)) at.1

-- to walk changes no value
started_same : (walk : Option Footpath) (v : ℕ) → started arrival_rules walk v ≡ v
started_same None v = refl
started_same (Some f) v = refl

-- a journey ends, or not
module _ (q : SetQueryValue) (hop : Hop ℕ) (old : ByArrival) where
  abbrev Endings : Spellings → Offer (Option Footpath) ℕ
  Endings tags = endings arrival_rules tags hop.place hop.connection q (final_walk_in hop.final_entry)

  pub none_ended : AreByArrival old → ((walk : Option Footpath) → IsEnding hop.connection q (final_walk_in hop.final_entry) walk → ⊥)
      → RelabelsByArrival hop.connection.trip (λ _. ⊥) Endings old old
  none_ended are none = record {
    like = still_like old are;
    takes = labels_none arrival_rules (λ tags walk opened. absurd (none walk opened));
  }

  pub ended : (new : ByArrival) (walk : Option Footpath) (time : ℕ) → IsEnding hop.connection q (final_walk_in hop.final_entry) walk
      → time ≡ hop.connection.arr + start_secs walk
      → ((other : Option Footpath) → IsEnding hop.connection q (final_walk_in hop.final_entry) other → other ≡ walk)
      → RelabelsByArrival hop.connection.trip (λ _. ⊥) (λ tags. one_way 0 time (IsExit tags (Ends hop.place walk))) old new
      → RelabelsByArrival hop.connection.trip (λ _. ⊥) Endings old new
  ended new walk time ends time_is ones taken = record {
    like = taken.like;
    takes = labels_as arrival_rules (λ tags takes.
        let was = (value_by_arrival old).labels hop.connection.trip in
        let now = (value_by_arrival new).labels hop.connection.trip in
        takes_but arrival_rules (λ _. ⊥) (Endings tags) was now
        (takes_the_end arrival_rules tags hop.place hop.connection q (final_walk_in hop.final_entry) walk time time was now ends ones
        (sym (started_same walk time)) time_is (record {
          only = takes.only;
          kept = takes.kept;
          covered = λ way opened. sure (takes.covered way opened);
        })))
        taken.takes;
  }

-- one item of a list
pub part_one : {X : Type 0} (xs : List X) (k : ℕ) (x : X) → slice_get xs k ≡ Some x → take 1 (drop k xs) ≡ x ∷ []
part_one [] k x at = absurd (none-some x at)
part_one (y ∷ ys) zero x at = ap (λ z. z ∷ []) (same_Some y x at)
part_one (y ∷ ys) (suc k) x at = part_one ys k x at

-- with the same bound, the same is excluded
pub still_excludes : (values : List ℕ) (old new : ByArrival) → IsLikeByArrival old new → BoundExcludes values old → BoundExcludes values new
still_excludes values old new like excludes v a le = excludes v a (subst (λ n. n ≤ v) like.bound le)

-- after one offer is taken in, the trip may still be left
pub still_can_leave : (q : SetQueryValue) (hop : Hop ℕ) (old new : ByArrival) → CanLeaveByArrival q hop old → IsLikeByArrival old new
    → CanLeaveByArrival q hop new
still_can_leave q hop old new can like = record {
  hop = can.hop;
  are = like.are;
  excludes = still_excludes hop.bound.now old new like can.excludes;
  trip = subst (λ (n : ℕ). hop.connection.trip < n) (sym like.trips) can.trip;
  stop = subst (λ (n : ℕ). hop.connection.to < n) (sym like.stops) can.stop;
}

-- the value of the only label is admitted, also after a footpath
pub ridden_alone : (t : TimetableValue) (ride : RiddenLabel ℕ) → IsTime ride.value → (l : Point ℕ) → Contains (ridden_point ride ∷ []) l
    → (walk : Footpath) → Contains t.footpaths walk → Admits arrival_rules l.value
ridden_alone t ride in_time l h walk is =
    subst (λ (p : Point ℕ). Admits arrival_rules p.value) (sym (contains_only (ridden_point ride) l h)) (lt-ltb ride.value time_limit in_time)

-- a connection is boarded, or not
module _ (t : TimetableValue) (hop : Hop ℕ) (old : ByArrival) (are : AreByArrival old) where
  abbrev AllWalks : List Footpath → Type 0
  AllWalks walks = walks ≡ t.footpaths

  abbrev NotBoarded : Boarding ℕ → Type 0
  NotBoarded way = Excludes arrival_rules hop.bound.now way.label.value

  abbrev AllBoardings : ℕ → Spellings → Offer (Boarding ℕ) ℕ
  AllBoardings stop tags = boardings arrival_rules t tags hop.place stop ((value_by_arrival old).labels hop.connection.trip)

  -- passengers may not get on
  pub not_boarded : StandsAt t hop.place hop.connection → hop.connection.board ≡ false → BoardsByArrival AllWalks NotBoarded AllBoardings old old
  not_boarded stands closed = record {
    like = still_like old are;
    takes = bags_closed arrival_rules t hop ((value_by_arrival old).labels hop.connection.trip) (value_by_arrival old) stands closed;
  }

  module _ (l : Label ℕ) (at : slice_get old.labels.items hop.connection.trip ≡ Some l) where
    -- there is no label, or the bound excludes it
    pub none_boards : BoundExcludes hop.bound.now old → old.bound ≤ l.value → BoardsByArrival AllWalks NotBoarded AllBoardings old old
    none_boards excludes late = record {
      like = still_like old are;
      takes = bags_none arrival_rules (λ stop tags way may.
          let of = of_label l way.label (subst (λ ls. Contains (label_points ls) way.label) (labels_are old hop.connection.trip l at) may.is_label) in
          let value : way.label.value ≡ l.value = ap (λ (p : Point ℕ). p.value) of.1 in
          inr (excludes way.label.value ((admits_kept old are).labels hop.connection.trip way.label may.is_label) (omega (arith, value, late))));
    }

    -- with its label
    pub all_boarded : StandsAt t hop.place hop.connection → hop.connection.board ≡ true → l.value < never → (begin end : ℕ)
        → ((k : ℕ) (f : Footpath) → At t.footpaths k f → (f.to ≡ hop.connection.from) ↔ ((begin ≤ k) × (k < end)))
        → (new : ByArrival)
        → BoardsByArrival AllWalks (λ _. ⊥) (λ stop tags. each_of (StandsBetween t.footpaths begin end)
        (boardings_by arrival_rules tags hop.place hop.connection stop (ridden_point (record { value = l.value; label = l.tag }) ∷ []))) old new
        → BoardsByArrival AllWalks NotBoarded AllBoardings old new
    all_boarded stands boards lt begin end into new each =
        let ride : RiddenLabel ℕ = record { value = l.value; label = l.tag } in
        let labels : labels_of old hop.connection.trip ≡ l ∷ [] = labels_are old hop.connection.trip l at ∙ has_label l lt in
        record {
          like = each.like;
          takes = subst (λ ls. BagsTake arrival_rules AllWalks NotBoarded (λ stop tags. boardings arrival_rules t tags hop.place stop (label_points ls))
              (value_by_arrival old) (value_by_arrival new)) (sym labels)
              (bags_as arrival_rules (λ walks is. is) (λ stop tags. excused_as arrival_rules (λ _. ⊥) NotBoarded
              (boardings arrival_rules t tags hop.place stop (ridden_point ride ∷ [])) ((value_by_arrival old).bag stop) ((value_by_arrival new).bag stop)
              (λ way may none. absurd none))
              (bags_all arrival_rules t hop (ridden_point ride ∷ []) (λ _. ⊥) begin end stands boards into each.takes));
        }

-- the bound is made anew
module _ (values : List ℕ) (old new : ByArrival) (renewed : RenewsByArrival values old new) where
  pub renewed_are : AreByArrival old → AreByArrival new
  renewed_are are =
      subst AreByArrival (sym renewed.same) (record { sound = are.sound; firsts = are.firsts; times = are.times; limit = renewed.limit })

  pub renewed_value : value_by_arrival new ≡ value_by_arrival old
  renewed_value = ap value_by_arrival renewed.same

  pub renewed_stops : stops_of new ≡ stops_of old
  renewed_stops = ap stops_of renewed.same

  pub renewed_trips : trips_of new ≡ trips_of old
  renewed_trips = ap trips_of renewed.same

-- at first nothing is kept
module _ (stops trips : ℕ) (kept : ByArrival) (no_label : Label ℕ) (no_point : FirstPoint)
    (labels : kept.labels.items ≡ replicate trips no_label) (firsts : kept.firsts.items ≡ replicate stops no_point)
    (no_time : never ≤ no_label.value) (is_end : no_point ≡ record { time = never; departure = never; tag = 0; head = 0 })
    (empty : IsEmptyAlone kept.lists) (unbounded : kept.bound ≡ never) where
  at_end : no_point.head ≡ 0
  at_end = ap (λ (f : FirstPoint). f.head) is_end

  no_first : (stop : ℕ) (f : FirstPoint) → slice_get kept.firsts.items stop ≡ Some f → f ≡ no_point
  no_first stop f at = slice_get-replicate-is stops stop no_point f (sym (ap (λ xs. slice_get xs stop) firsts) ∙ at)

  not_labelled : (trip : ℕ) (l : Label ℕ) → slice_get kept.labels.items trip ≡ Some l → never ≤ l.value
  not_labelled trip l at =
      let same = slice_get-replicate-is trips trip no_label l (sym (ap (λ xs. slice_get xs trip) labels) ∙ at) in
      subst (λ (m : Label ℕ). never ≤ m.value) (sym same) no_time

  new_are : AreByArrival kept
  new_are = record {
    sound = empty.sound;
    firsts = λ stop f at. subst (λ (x : FirstPoint). IsFirstOf kept.lists x.head x) (sym (no_first stop f at ∙ is_end)) empty.first;
    times = λ trip l at lt. let late = not_labelled trip l at in absurd (omega (arith, late, lt));
    limit = omega (arith, unbounded);
  }

  pub new_under : AreUnderByArrival stops trips [] kept
  new_under = record {
    are = new_are;
    stops_are = ap length firsts ∙ length-replicate stops no_point;
    trips_are = ap length labels ∙ length-replicate trips no_label;
    excludes = λ v a le. let lt = ltb-true v time_limit a in absurd (omega (arith, unbounded, le, lt));
    admitted = admits_kept kept new_are;
  }

  no_head : (stop : ℕ) → slice_index (heads_of kept.firsts.items) stop ≡ 0
  no_head stop = elim (slice_get_cases kept.firsts.items stop).1 [
    | inl there ↦
        head_at kept.firsts.items stop there.0 there.2 ∙ ap (λ (f : FirstPoint). f.head) (no_first stop there.0 there.2) ∙ at_end
    | inr past ↦
        let out = past.0 in
        let long = heads_long kept.firsts.items in
        get_or_past (heads_of kept.firsts.items) stop 0 (omega (arith, out, long))
  ]

  pub new_points : (stop : ℕ) → (value_by_arrival kept).bag stop ≡ []
  new_points stop = ap (list_points kept.lists) (no_head stop) ∙ empty.empty

  pub new_labels : (trip : ℕ) → (value_by_arrival kept).labels trip ≡ []
  new_labels trip = elim (slice_get_cases kept.labels.items trip).1 [
    | inl there ↦ ap label_points (labels_are kept trip there.0 there.2 ∙ lacks_label there.0 (not_labelled trip there.0 there.2))
    | inr past ↦ ap (λ o. label_points (label_in o)) past.1
  ]
