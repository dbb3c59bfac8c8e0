-- The order in which points are listed.
use Rattle.std.proofs.Common.{◌≡◌, ◌≢◌, ◌⊎◌, ◌↔◌, ℕ, ◌-◌, ◌<◌, ◌≤◌, Bool, true, false, List, [], length, Contains}
use Rattle.std.proofs.Common.{AllPairs, slice_get, Option, Some, get_or, refl, sym, ◌∙◌, ap, subst, inl, inr, arith}
use Rattle.std.proofs.Common.{nat_le, nat_lt, ◌||◌, ◌&&◌, ◌==◌}
use Rattle.std.specs.List.{insert}
use Rattle.std.specs.Ordering.{ordering_reverse, is_lt}
use Rattle.std.proofs.lemmas.Bool.{cases_order, cases_lt, and_from, le-leb, lt-ltb, ltb-true, eqb-true, eq-eqb, true≢false}
use Rattle.std.proofs.lemmas.Option.{slice_get_within, get_or_from_slice_get, same_Some}
use Rattle.std.proofs.lemmas.List.{get_or_default}
use Rattle.reasoning.proofs.BoolLemmas.{or_and}
use Rattle.reasoning.proofs.OrderLemmas.{which_ordering, is_lt-true, is_lt-false}
use Rattle.criteria.specs.Laws.{Rules, Laws, Admits, NoWorse}
use Rattle.bags.specs.Dominance.{Apart, IsBag}
use Rattle.bags.specs.declared.point.Point.{Point}
use Rattle.bags.proofs.Lists.{from_insert, into_insert, all_pairs_insert}
use Rattle.timetable.proofs.LegalLemmas.{Contains-At, At-Contains}
use Rattle.scan_state.specs.Points.{Before, is_before}
use Rattle.scan_state.specs.Matching.{Matches}
use Rattle.profile_scan.proofs.Answer.{only_itself, not_before_itself}

module _ {V : Type 0} (rules : Rules V) (laws : Laws rules) where
  pub before_chains : (p q r : Point V) → Admits rules p.value → Admits rules q.value → Admits rules r.value
      → Before rules p q → Before rules q r → Before rules p r
  before_chains p q r ap aq ar (inl lt) (inl gt) = inl (omega arith)
  before_chains p q r ap aq ar (inl lt) (inr (e, less)) = inl (omega arith)
  before_chains p q r ap aq ar (inr (e, less)) (inl gt) = inl (omega arith)
  before_chains p q r ap aq ar (inr (e, less)) (inr (f, more)) = inr (e ∙ f, laws.order_chains p.value q.value r.value ap aq ar less more)

  -- of two points, neither of which dominates the other, one is before the other
  pub apart_comparable : (p q : Point V) → Admits rules p.value → Admits rules q.value → Apart rules p q → Before rules q p ⊎ Before rules p q
  apart_comparable p q a b apart = elim (cases_order p.departure q.departure) [
    | inl e ↦ elim (which_ordering (rules.list_order p.value q.value)) [
      | inl less ↦ inr (inr (e, less))
      | inr (inl equal) ↦
          let worth = laws.order_exact p.value q.value a b equal in
          let no_worse : NoWorse rules p.value q.value = subst (NoWorse rules p.value) worth (laws.reflexive p.value a) in
          let no_earlier : q.departure ≤ p.departure = omega arith in
          absurd (apart.0 (and_from (nat_le q.departure p.departure) (rules.no_worse p.value q.value) (le-leb q.departure p.departure no_earlier) no_worse))
      | inr (inr greater) ↦
          let turned = laws.order_turns q.value p.value b a in
          inl (inr (sym e, turned ∙ ap ordering_reverse greater))
    ]
    | inr (inl lt) ↦ inr (inl lt)
    | inr (inr gt) ↦ inl (inl gt)
  ]

  -- the points before a place are before the new one, where the one at the place below it is
  pub before_here : (points : List (Point V)) (point last : Point V) (place : ℕ) → AllPairs (Before rules) points
      → ((p : Point V) → Contains points p → Admits rules p.value) → Admits rules point.value → 0 < place
      → place ≤ length points → last ≡ get_or points (place - 1) last → Before rules last point
      → (k : ℕ) (d : Point V) → k < place → Before rules (get_or points k d) point
  before_here points point last place ordered admitted point_admits some within read is k d lt =
      let at_last : get_or points (place - 1) d ≡ last = get_or_default points (place - 1) d last (omega arith) ∙ sym read in
      elim (cases_lt k (place - 1)) [
        | inl low ↦
            let x = get_or points k d in
            let in_x : Contains points (get_or points k d) = (k, omega arith, get_or_default points k (get_or points k d) d (omega arith)) in
            let in_last : Contains points last = (place - 1, omega arith, sym read) in
            before_chains x last point (admitted x in_x) (admitted last in_last) point_admits
            (subst (Before rules (get_or points k d)) at_last (ordered k (place - 1) d low (omega arith))) is
        | inr high ↦
            let same : k ≡ place - 1 = omega arith in
            subst (λ (x : Point V). Before rules x point) (sym (ap (λ n. get_or points n d) same ∙ at_last)) is
      ]

  -- points of a bag, in order, none twice, are a bag
  pub listed_bag : (bag points : List (Point V)) → IsBag rules bag → AllPairs (Before rules) points
      → ((p : Point V) → Contains points p → Contains bag p) → IsBag rules points
  listed_bag bag points is ordered only = record {
    admitted = λ p h. is.admitted p (only p h);
    undominated = λ i j d lt within.
        let x = get_or points i d in
        let y = get_or points j d in
        let in_x : Contains points (get_or points i d) = (i, omega arith, get_or_default points i (get_or points i d) d (omega arith)) in
        let in_y : Contains points (get_or points j d) = (j, within, get_or_default points j (get_or points j d) d within) in
        let before = ordered i j d lt within in
        let differ : x ≢ y = λ e. not_before_itself rules laws x y (is.admitted x (only x in_x))
        (ap (λ (p : Point V). p.departure) e) (ap (λ (p : Point V). p.value) e) before in (
          λ dom. differ (only_itself rules bag is.undominated x y (only x in_x) (only y in_y) dom),
          λ dom. differ (sym (only_itself rules bag is.undominated y x (only y in_y) (only x in_x) dom)),
        );
  }

or_and_not : (a b c : Bool) → (a || (b && c)) ≡ false → (a ≡ false) × (b ≡ true → c ≡ false)
or_and_not true b c h = absurd (true≢false h)
or_and_not false true c h = (refl, λ _. h)
or_and_not false false c h = (refl, λ e. absurd (true≢false (sym e)))

pub before_by_test : {V : Type 0} (rules : Rules V) (p q : Point V) → is_before rules p q ≡ true → Before rules p q
before_by_test rules p q h = elim (or_and (nat_lt p.departure q.departure) (p.departure == q.departure) (is_lt (rules.list_order p.value q.value)) h) [
  | inl lt ↦ inl (ltb-true p.departure q.departure lt)
  | inr both ↦ inr (eqb-true p.departure q.departure both.0, is_lt-true (rules.list_order p.value q.value) both.1)
]

pub not_before_by_test : {V : Type 0} (rules : Rules V) (p q : Point V) → is_before rules p q ≡ false → Before rules p q → ⊥
not_before_by_test rules p q h (inl lt) = true≢false (sym (lt-ltb p.departure q.departure lt)
    ∙ (or_and_not (nat_lt p.departure q.departure) (p.departure == q.departure)
    (is_lt (rules.list_order p.value q.value)) h).0)
not_before_by_test rules p q h (inr (e, less)) =
    is_lt-false (rules.list_order p.value q.value)
    ((or_and_not (nat_lt p.departure q.departure) (p.departure == q.departure)
    (is_lt (rules.list_order p.value q.value)) h).1 (eq-eqb p.departure q.departure e)) less

-- one place further down
pub after_here : {V : Type 0} (rules : Rules V) (points : List (Point V)) (point last : Point V) (place : ℕ) → 0 < place
    → place ≤ length points → last ≡ get_or points (place - 1) last → Before rules point last
    → ((k : ℕ) (d : Point V) → place ≤ k → k < length points → Before rules point (get_or points k d))
    → (k : ℕ) (d : Point V) → place - 1 ≤ k → k < length points → Before rules point (get_or points k d)
after_here rules points point last place some within read is later k d low lt = elim (cases_lt k place) [
  | inl here ↦
      let same : k ≡ place - 1 = omega arith in
      subst (Before rules point) (sym (ap (λ n. get_or points n d) same ∙ get_or_default points (place - 1) d last (omega arith) ∙ sym read)) is
  | inr high ↦ later k d high lt
]

-- a point put into its place
pub put_in_order : {V : Type 0} (rules : Rules V) (points new : List (Point V)) (place : ℕ) (point : Point V)
    → new ≡ insert points place point → place ≤ length points → AllPairs (Before rules) points
    → ((k : ℕ) (d : Point V) → k < place → Before rules (get_or points k d) point)
    → ((k : ℕ) (d : Point V) → place ≤ k → k < length points → Before rules point (get_or points k d))
    → AllPairs (Before rules) new
put_in_order rules points new place point e within ordered front back =
    subst (AllPairs (Before rules)) (sym e) (all_pairs_insert (Before rules) points place point within ordered front
    back)

pub put_there : {V : Type 0} (points new : List (Point V)) (place : ℕ) (point : Point V)
    → new ≡ insert points place point → (p : Point V) → Contains new p ↔ ((point ≡ p) ⊎ Contains points p)
put_there points new place point e p = (
  λ h. from_insert points place point p (subst (λ xs. Contains xs p) e h),
  λ h. subst (λ xs. Contains xs p) (sym e) (into_insert points place point p h),
)

-- the points from a place on are listed, and no others
pub record AreListed {V : Type 0} (rules : Rules V) (bag : List (Point V)) (left : ℕ) (points : List (Point V)) : Type 0 where
  pub within : left ≤ length bag
  pub ordered : AllPairs (Before rules) points
  pub only : (p : Point V) → Contains points p → (k : ℕ) × (left ≤ k) × (slice_get bag k ≡ Some p)
  pub each : (k : ℕ) (p : Point V) → left ≤ k → slice_get bag k ≡ Some p → Contains points p

module _ {V : Type 0} (rules : Rules V) (bag : List (Point V)) where
  pub none_listed : (points : List (Point V)) → points ≡ [] → AreListed rules bag (length bag) points
  none_listed points e = subst (AreListed rules bag (length bag)) (sym e) (record {
    within = omega arith;
    ordered = λ i j d lt within. absurd (omega arith);
    only = λ p h. absurd (omega (arith, h.1));
    each = λ k p low at. let lt = slice_get_within bag k p at in absurd (omega arith);
  })

  pub listed_in : (left : ℕ) (points : List (Point V)) → AreListed rules bag left points → (p : Point V) → Contains points p → Contains bag p
  listed_in left points listed p h = let at = listed.only p h in Contains-At bag at.0 p at.2

  pub all_listed : (left : ℕ) (points : List (Point V)) → left ≡ 0 → AreListed rules bag left points → (p : Point V) → Contains bag p → Contains points p
  all_listed left points none listed p h = let at = At-Contains bag p h in listed.each at.0 p (omega arith) at.1

  pub comparable : (laws : Laws rules) → IsBag rules bag → (left : ℕ) (points : List (Point V)) (point : Point V)
      → AreListed rules bag left points → 0 < left → slice_get bag (left - 1) ≡ Some point → (p : Point V)
      → Contains points p → Before rules p point ⊎ Before rules point p
  comparable laws is left points point listed some at p h =
      let there = listed.only p h in
      let lt = slice_get_within bag there.0 p there.2 in
      let apart : Apart rules point p =
      subst (λ (x : Point V). Apart rules x p) (get_or_from_slice_get bag (left - 1) point p at)
      (subst (λ (x : Point V). Apart rules (get_or bag (left - 1) p) x) (get_or_from_slice_get bag there.0 p p there.2)
      (is.undominated (left - 1) there.0 p (omega (arith, there.1)) lt)) in
      apart_comparable rules laws point p (is.admitted point (Contains-At bag (left - 1) point at)) (is.admitted p (Contains-At bag there.0 p there.2)) apart

  pub one_listed : (left : ℕ) (points new : List (Point V)) (point : Point V) → AreListed rules bag left points
      → 0 < left → slice_get bag (left - 1) ≡ Some point → AllPairs (Before rules) new
      → ((p : Point V) → Contains new p ↔ ((point ≡ p) ⊎ Contains points p)) → AreListed rules bag (left - 1) new
  one_listed left points new point listed some at ordered put =
      let fits = listed.within in
      record {
        within = omega arith;
        ordered = ordered;
        only = λ p h. elim ((put p).0 h) [
          | inl e ↦ (left - 1, omega arith, at ∙ ap Some e)
          | inr was ↦ let there = listed.only p was in (there.0, omega (arith, there.1), there.2)
        ];
        each = λ k p low is. elim (cases_lt k left) [
          | inl here ↦
              let same : k ≡ left - 1 = omega arith in
              (put p).1 (inl (same_Some point p (sym at ∙ ap (slice_get bag) (sym same) ∙ is)))
          | inr high ↦ (put p).1 (inr (listed.each k p high is))
        ];
      }

-- points listed match as those of the bag do
pub listed_match : {V X : Type 0} (rules : Rules V) (spelled : ℕ → Option X) (IsThere : ℕ → X → Type 0) (IsPlainWay : X
    → Type 0) (value : X → V) (bag points : List (Point V)) → ((p : Point V) → Contains points p → Contains bag p)
    → ((p : Point V) → Contains bag p → Contains points p) → Matches rules spelled IsThere IsPlainWay value bag
    → Matches rules spelled IsThere IsPlainWay value points
listed_match rules spelled IsThere IsPlainWay value bag points only each m = record {
  sound = λ p h. m.sound p (only p h);
  complete = λ d x there. let c = m.complete d x there in (c.0, each c.0 c.1, c.2, c.3);
}
