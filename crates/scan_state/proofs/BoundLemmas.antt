-- What a bound leaves of points, and that the rest is outdone.
use Rattle.std.proofs.Common.{◌≡◌, ◌⊎◌, ℕ, ◌+◌, ◌<◌, ◌≤◌, Bool, true, false, not, List, [], ◌∷◌, ◌++◌, filter, Contains}
use Rattle.std.proofs.Common.{slice_get, slice_index_or, Some, length, inl, inr, sym, ◌∙◌, ap, subst, arith}
use Rattle.std.proofs.lemmas.Bool.{cases_Bool, cases_lt, not-true, not_from_false}
use Rattle.std.proofs.lemmas.Option.{same_Some, slice_get-get_or, slice_get_within}
use Rattle.std.proofs.lemmas.List.Elements.{Contains-append_left, Contains-push, Contains-push_cases}
use Rattle.std.proofs.lemmas.List.Folds.{list_any_at}
use Rattle.reasoning.proofs.ListLemmas.{from_filter, into_filter, one_passes}
use Rattle.criteria.specs.Laws.{Rules, Laws, Admits, NoWorse, RidingWorsens}
use Rattle.bags.specs.declared.point.Point.{Point}
use Rattle.bags.specs.Arrangement.{AreListed}
use Rattle.bags.proofs.Order.{before_falls}
use Rattle.timetable.specs.TimetableValue.{TimetableValue}
use Rattle.timetable.specs.Legal.{IsLegal}
use Rattle.timetable.specs.Journeys.{connection_at}
use Rattle.timetable.proofs.LegalLemmas.{departures_rise, Contains-At}
use Rattle.scan_state.specs.Steps.{IsOutdoneRidden}
use Rattle.scan_state.specs.Bound.{any_no_worse, survivors, AreBounds, IsLateValue, TakesPoints, TakesValue}
use Rattle.scan_state.proofs.Admitted.{AreAdmitted}
use Rattle.scan_state.proofs.Outdone.{KeepsCovers, outdone_worse, outdone_on}

module _ {V : Type 0} (rules : Rules V) (values : List V) where
  pub from_survivors : (points : List (Point V)) (p : Point V) → Contains (survivors rules values points) p
      → Contains points p × (any_no_worse rules values (rules.ride p.value) ≡ false)
  from_survivors points p h =
      let f = from_filter (λ (x : Point V). not (any_no_worse rules values (rules.ride x.value))) points p h in
      (f.0, not-true (any_no_worse rules values (rules.ride p.value)) f.1)

  pub into_survivors : (points : List (Point V)) (p : Point V) → Contains points p
      → any_no_worse rules values (rules.ride p.value) ≡ false → Contains (survivors rules values points) p
  into_survivors points p h free = into_filter (λ (x : Point V). not (any_no_worse rules values (rules.ride x.value)))
      points p h (not_from_false (any_no_worse rules values (rules.ride p.value)) free)

  pub some_betters : (v : V) → any_no_worse rules values v ≡ true → (b : V) × Contains values b × NoWorse rules b v
  some_betters v h = one_passes (λ b. rules.no_worse b v) values h

module _ {V : Type 0} (rules : Rules V) (laws : Laws rules) (values : List V) (admitted : (b : V) → Contains values b → Admits rules b) where
  -- what betters a value betters what is worse
  pub bettered_on : (v w : V) → Admits rules v → Admits rules w → NoWorse rules v w → any_no_worse rules values v ≡ true → any_no_worse rules values w ≡ true
  bettered_on v w a b h bettered =
      let by = some_betters rules values v bettered in
      let test : V → Bool = λ c. rules.no_worse c w in
      list_any_at test values by.1.0 by.0 by.1.1 (ap test by.1.2 ∙ laws.transitive by.0 v w (admitted by.0 by.1) a b by.2 h)

module _ {V : Type 0} (rules : Rules V) (laws : Laws rules) (t : TimetableValue) (found : List (Point V))
    (found_admitted : AreAdmitted rules found) (i : ℕ) (values : List V)
    (bounds : AreBounds rules t found (i + 1) values) where
  -- what a bound leaves out is outdone
  pub outdone_by_bounds : (v : V) → Admits rules v → any_no_worse rules values (rules.ride v) ≡ true → IsOutdoneRidden rules t found i v
  outdone_by_bounds v admits bettered =
      let by = some_betters rules values (rules.ride v) bettered in
      outdone_worse rules laws t found found_admitted (i + 1) by.0 (rules.ride v) (bounds.admitted by.0 by.1) (laws.ride_admits v admits) by.2
      (bounds.outdone by.0 by.1)

-- with more points found, and fewer connections to come
pub bounds_on : {V : Type 0} (rules : Rules V) (laws : Laws rules) (t : TimetableValue) (old new : List (Point V))
    (n m : ℕ) (values : List V) → m ≤ n → KeepsCovers rules old new → AreBounds rules t old n values
    → AreBounds rules t new m values
bounds_on rules laws t old new n m values le kept bounds = record {
  admitted = bounds.admitted;
  outdone = λ b h. outdone_on rules laws t old new n m b (bounds.admitted b h) le kept (bounds.outdone b h);
}

-- values read anew: those of points that depart with a connection or later are no bound to any after it
pub bounds_renewed : {V : Type 0} (rules : Rules V) (laws : Laws rules) (t : TimetableValue) → IsLegal t
    → (found : List (Point V)) → AreAdmitted rules found → (i time : ℕ) → i < length t.connections
    → time ≡ (connection_at t i).dep → (old new : List V) → AreBounds rules t found (i + 1) old
    → ((b : V) → Contains new b → Contains old b ⊎ IsLateValue rules found time b) → AreBounds rules t found (i + 1) new
bounds_renewed {V} rules laws t legal found found_admitted i time in_i is_time old new bounds renewed = record {
  admitted = λ b h. elim (renewed b h) [
    | inl was ↦ bounds.admitted b was
    | inr late ↦ subst (Admits rules) late.worth (found_admitted late.of late.is_found)
  ];
  outdone = λ b h. elim (renewed b h) [
    | inl was ↦ bounds.outdone b was
    | inr late ↦ record {
      worsens = late.worsens;
      by = late.of;
      is_found = late.is_found;
      in_time = λ k lt.
          let rises = departures_rise t legal i k (omega arith) in_i in
          let in_time = late.late in
          omega arith;
      no_worse = subst (NoWorse rules late.of.value) late.worth (laws.reflexive late.of.value (found_admitted late.of late.is_found));
    }
  ];
}

-- values that are taken
module _ {V : Type 0} (rules : Rules V) where
  some_bettered : (values : List V) (b v : V) → Contains values b → NoWorse rules b v → any_no_worse rules values v ≡ true
  some_bettered values b v is h = list_any_at (λ c. rules.no_worse c v) values is.0 b is.1 (ap (λ c. rules.no_worse c v) is.2 ∙ h)

  pub value_stays : (value : V) (values : List V) → any_no_worse rules values value ≡ true → TakesValue rules value values values
  value_stays value values bettered = record { only = λ b h. inl h; kept = λ v a h. h; taken = bettered }

  pub value_comes : (laws : Laws rules) (value : V) (old new : List V) → ((b : V) → Contains old b → Admits rules b) → Admits rules value
      → new ≡ filter (λ b. not (rules.no_worse value b)) old ++ value ∷ [] → TakesValue rules value old new
  value_comes laws value old new admitted fits e =
      let stay = filter (λ b. not (rules.no_worse value b)) old in
      let into_new : (b : V) → Contains (stay ++ value ∷ []) b → Contains new b = λ b h. subst (λ (xs : List V). Contains xs b) (sym e) h in
      record {
        only = λ b h. elim (Contains-push_cases stay value b (subst (λ (xs : List V). Contains xs b) e h)) [
          | inl was ↦ inl (from_filter (λ c. not (rules.no_worse value c)) old b was).0
          | inr is ↦ inr is
        ];
        kept = λ v a h.
            let by = some_betters rules old v h in
            elim (cases_Bool (rules.no_worse value by.0)) [
              | inl better ↦ some_bettered new value v (into_new value (Contains-push stay value))
                  (laws.transitive value by.0 v fits (admitted by.0 by.1) a better by.2)
              | inr free ↦ some_bettered new by.0 v
                  (into_new by.0 (Contains-append_left stay (value
                  ∷ []) by.0 (into_filter (λ c. not (rules.no_worse value c)) old by.0 by.1
                  (not_from_false (rules.no_worse value by.0) free)))) by.2
            ];
        taken = some_bettered new value value (into_new value (Contains-push stay value)) (laws.reflexive value fits);
      }

  pub points_none : (points : List (Point V)) (from : ℕ) (values : List V) → TakesPoints rules points from from values values
  points_none points from values = record {
    only = λ b h. inl h;
    kept = λ v a h. h;
    each = λ k p low high at. absurd (omega arith);
  }

  pub points_more : (points : List (Point V)) (from place : ℕ) (p : Point V) (old mid new : List V) → AreAdmitted rules points
      → slice_get points place ≡ Some p → from ≤ place → TakesPoints rules points from place old mid → TakesValue rules p.value mid new
      → TakesPoints rules points from (place + 1) old new
  points_more points from place p old mid new admitted at low before one = record {
    only = λ b h. elim (one.only b h) [
      | inl was ↦ elim (before.only b was) [
        | inl first ↦ inl first
        | inr (k, q, lower, higher, there, worth) ↦ inr (k, q, lower, omega arith, there, worth)
      ]
      | inr is ↦ inr (place, p, low, omega arith, at, is)
    ];
    kept = λ v a h. one.kept v a (before.kept v a h);
    each = λ k q lower higher there. elim (cases_lt k place) [
      | inl lt ↦ one.kept q.value (admitted q (Contains-At points k q there)) (before.each k q lower lt there)
      | inr ge ↦
          let same : k ≡ place = omega arith in
          let is : p ≡ q = same_Some p q (sym at ∙ ap (λ (n : ℕ). slice_get points n) (sym same) ∙ there) in
          subst (λ (x : Point V). any_no_worse rules new x.value ≡ true) is one.taken
    ];
  }

  -- those that are late enough
  pub late_taken : RidingWorsens rules → (points : List (Point V)) (from until time : ℕ) (old new : List V)
      → ((k : ℕ) (p : Point V) → from ≤ k → k < until → slice_get points k ≡ Some p → time ≤ p.departure) → TakesPoints rules points from until old new
      → (b : V) → Contains new b → Contains old b ⊎ IsLateValue rules points time b
  late_taken worsens points from until time old new late takes b h = elim (takes.only b h) [
    | inl was ↦ inl was
    | inr (k, p, low, high, at, worth) ↦ inr (record {
      worsens = worsens;
      of = p;
      is_found =
          Contains-At points k p at;
      late =
          late k p low high at;
      worth = worth;
    })
  ]

-- a bag's points stand by falling departure
pub falls : {V : Type 0} (rules : Rules V) (points : List (Point V)) → AreListed rules points → (i j : ℕ) (p q : Point V)
    → i ≤ j → slice_get points i ≡ Some p → slice_get points j ≡ Some q → q.departure ≤ p.departure
falls rules points listed i j p q le at_i at_j = elim (cases_lt i j) [
  | inl lt ↦
      let within = slice_get_within points j q at_j in
      let p_is : slice_index_or points i p ≡ p = same_Some (slice_index_or points i p) p (sym (slice_get-get_or points i p (omega arith)) ∙ at_i) in
      let q_is : slice_index_or points j p ≡ q = same_Some (slice_index_or points j p) q (sym (slice_get-get_or points j p within) ∙ at_j) in
      let falling = before_falls rules (slice_index_or points i p) (slice_index_or points j p) (listed i j p lt within) in
      subst (λ (x : Point _). x.departure ≤ p.departure) q_is (subst (λ (x : Point _). (slice_index_or points j p).departure ≤ x.departure) p_is falling)
  | inr ge ↦
      let same : i ≡ j = omega arith in
      let is : p ≡ q = same_Some p q (sym at_i ∙ ap (λ (n : ℕ). slice_get points n) same ∙ at_j) in
      subst (λ (x : Point _). x.departure ≤ p.departure) is (omega arith)
]

-- where a point departs before a time, so do all from it on
pub rest_early : {V : Type 0} (rules : Rules V) (points : List (Point V)) → AreListed rules points → (place time : ℕ) (x : Point V)
    → slice_get points place ≡ Some x → x.departure < time → (k : ℕ) (p : Point V) → place ≤ k → slice_get points k ≡ Some p → p.departure < time
rest_early rules points listed place time x at early k p le there = let falling = falls rules points listed place k x p le at there in omega arith

pub no_bounds : {V : Type 0} (rules : Rules V) (t : TimetableValue) (found : List (Point V)) (n : ℕ) (values : List V)
    → values ≡ [] → AreBounds rules t found n values
no_bounds {V} rules t found n values e = subst (AreBounds rules t found n) (sym e) (record {
  admitted = λ b h. absurd (omega (arith, h.1));
  outdone = λ b h. absurd (omega (arith, h.1));
})
