-- Undominated points that match at the window's start are the answer, and there is one answer only.
use Rattle.std.proofs.Common.{◌≡◌, ℕ, zero, suc, ◌≤◌, List, [], ◌∷◌, Contains, AllPairs, get_or, map, arith, refl, sym, ◌∙◌, ap, subst, inl, inr, nat_le}
use Rattle.std.specs.declared.cmp.Ordering.TheVariants.{Less}
use Rattle.std.proofs.lemmas.Bool.{cases_order, and_from, le-leb}
use Rattle.std.proofs.lemmas.List.{get_or_default}
use Rattle.reasoning.proofs.ListLemmas.{contains_rest, contains_cases}
use Rattle.criteria.specs.Laws.{Rules, Laws, Admits, NoWorse}
use Rattle.bags.specs.Dominance.{Dominates, Apart, IsBag}
use Rattle.bags.specs.declared.point.Point.{Point}
use Rattle.timetable.specs.TimetableValue.{TimetableValue}
use Rattle.scan_state.specs.Values.{journey_value}
use Rattle.scan_state.specs.Points.{IsUndominatedOf, Lists, Covers, Before, untagged}
use Rattle.sources.specs.FirstAt.{IsFirstAt}
use Rattle.scan_state.specs.SetQuery.{SetQueryValue, IsPointBetween, IsAnswerBetween}
use Rattle.scan_state.specs.Continuations.{CountsFrom}
use Rattle.scan_state.specs.Plain.{IsPlainOf}
use Rattle.scan_state.specs.Matching.{Spelling, Matches}
use Rattle.scan_state.specs.SetQuery.{CanScan}
use Rattle.profile_scan.specs.LawStatements.{MatchIsTheAnswer, OneAnswer}
use Rattle.scan_state.proofs.Admitted.{AreAdmitted, point_admits}
use Rattle.profile_scan.proofs.Ends.{counts_in_window}

-- a point of a bag dominates no other one
pub only_itself : {V : Type 0} (rules : Rules V) (points : List (Point V)) → AllPairs (Apart rules) points
    → (p q : Point V) → Contains points p → Contains points q → Dominates rules p q → p ≡ q
only_itself rules points apart p q in_p in_q d =
    let i = in_p.0 in
    let j = in_q.0 in
    elim (cases_order i j) [
      | inl e ↦ sym in_p.2 ∙ (get_or_default points i p q in_p.1 ∙ (ap (λ (n : ℕ). get_or points n q) e ∙ in_q.2))
      | inr (inl lt) ↦ absurd ((apart i j p lt in_q.1).0
          (subst (λ x. Dominates rules x (get_or points j p)) (sym in_p.2)
          (subst (Dominates rules p) (sym (get_or_default points j p q in_q.1 ∙ in_q.2)) d)))
      | inr (inr gt) ↦ absurd ((apart j i p gt in_p.1).1
          (subst (λ x. Dominates rules x (get_or points j p)) (sym in_p.2)
          (subst (Dominates rules p) (sym (get_or_default points j p q in_q.1 ∙ in_q.2)) d)))
    ]

module _ {V : Type 0} (rules : Rules V) (laws : Laws rules) (t : TimetableValue) (q : SetQueryValue) (can : CanScan t q) where
  module _ (start : ℕ) (is_start : IsFirstAt t q.from start) (tags : Spelling) (found : List (Point V))
      (matches : Matches rules tags.journey (CountsFrom t q start) (IsPlainOf t (Contains q.targets)) (journey_value rules t) found)
      (bag : IsBag rules found) where
    -- each point found is one of the query
    found_is_point : (p : Point V) → Contains found p → IsPointBetween rules t q p.departure p.value
    found_is_point p is = let a = matches.sound p is in (a.way, a.there.counts, a.worth)

    -- each point of the query is covered
    point_covered : (departure : ℕ) (v : V) → IsPointBetween rules t q departure v → Covers rules found departure v
    point_covered departure v p = subst (Covers rules found departure) (sym p.2)
        (matches.complete departure p.0 (counts_in_window t q start departure p.0 is_start p.1))

    found_is_undominated : (p : Point V) → Contains found p → IsUndominatedOf rules (IsPointBetween rules t q) p.departure p.value
    found_is_undominated p in_p = record {
      is_point = found_is_point p in_p;
      only_itself = λ d w point late no_worse.
          let got = point_covered d w point in
          let r = got.0 in
          let w_admits = point_admits rules laws t q can d w point in
          let p_admits = bag.admitted p in_p in
          let better : NoWorse rules r.value p.value = laws.transitive r.value w p.value (bag.admitted r got.1) w_admits p_admits got.3 no_worse in
          let later : p.departure ≤ r.departure = omega (arith, got.2, late) in
          let same : r ≡ p = only_itself rules found bag.undominated r p got.1 in_p
          (and_from (nat_le p.departure r.departure) (rules.no_worse r.value p.value)
          (le-leb p.departure r.departure later) better) in
          let departs : r.departure ≡ p.departure = ap (λ (x : Point V). x.departure) same in
          let worse : NoWorse rules p.value w = subst (λ (x : Point V). NoWorse rules x.value w) same got.3 in
          (omega (arith, got.2, late), laws.antisymmetric w p.value w_admits p_admits no_worse worse);
    }

    pub found_is_answer : AllPairs (Before rules) found → IsAnswerBetween rules t q found
    found_is_answer ordered = record {
      exactly = λ departure v. (
        (λ listed. subst (λ (n : ℕ). IsUndominatedOf rules (IsPointBetween rules t q) n v) listed.2
            (subst (IsUndominatedOf rules (IsPointBetween rules t q) listed.0.departure) listed.3 (found_is_undominated listed.0 listed.1))),
        (λ undominated.
            let got = point_covered departure v undominated.is_point in
            let p = got.0 in
            let same = undominated.only_itself p.departure p.value (found_is_point p got.1) got.2 got.3 in
            (p, got.1, same.0, same.1)),
      );
      unbeaten = point_covered;
      ordered = ordered;
    }

  -- the values that an answer lists are admitted
  pub answer_admitted : (points : List (Point V)) → IsAnswerBetween rules t q points → AreAdmitted rules points
  answer_admitted points answer p is = point_admits rules laws t q can p.departure p.value ((answer.exactly p.departure p.value).0 (p, is, refl, refl)).is_point

pub match_is_the_answer : {V : Type 0} (rules : Rules V) → Laws rules → MatchIsTheAnswer rules
match_is_the_answer rules laws t q can start is_start tags found matches bag ordered =
    found_is_answer rules laws t q can start is_start tags found matches bag ordered

-- the first stands before each later one
head_is_before : {X : Type 0} (R : X → X → Type 0) (x : X) (xs : List X) (y : X) → AllPairs R (x ∷ xs) → Contains xs y → R x y
head_is_before R x xs y all is = subst (R x) is.2 (all zero (suc is.0) y (omega arith) (omega (arith, is.1)))

tail_pairs : {X : Type 0} (R : X → X → Type 0) (x : X) (xs : List X) → AllPairs R (x ∷ xs) → AllPairs R xs
tail_pairs R x xs all i j d lt within = all (suc i) (suc j) d (omega arith) (omega arith)

module _ {V : Type 0} (rules : Rules V) (laws : Laws rules) where
  -- neither of two points of equal departure and value is before the other
  pub not_before_itself : (p q : Point V) → Admits rules p.value → p.departure ≡ q.departure → p.value ≡ q.value → Before rules p q → ⊥
  not_before_itself p q a departs worth (inl lt) = omega arith
  not_before_itself p q a departs worth (inr (e, less)) =
      let turned = laws.order_turns p.value p.value a a in
      let itself : rules.list_order p.value p.value ≡ Less = ap (rules.list_order p.value) worth ∙ less in
      cc

  not_both_before : (p q : Point V) → Admits rules p.value → Admits rules q.value → Before rules p q → Before rules q p → ⊥
  not_both_before p q a b (inl lt) (inl gt) = omega arith
  not_both_before p q a b (inl lt) (inr (e, less)) = omega arith
  not_both_before p q a b (inr (e, less)) (inl gt) = omega arith
  not_both_before p q a b (inr (e, less)) (inr (f, more)) = let turned = laws.order_turns p.value q.value a b in cc

  like_before : (q p like : Point V) → like.departure ≡ p.departure → like.value ≡ p.value → Before rules q like → Before rules q p
  like_before q p like departs worth (inl lt) = inl (omega arith)
  like_before q p like departs worth (inr (e, less)) = inr (e ∙ departs, ap (λ (v : V). rules.list_order q.value v) (sym worth) ∙ less)

  -- a list has the points of another, tags aside
  abbrev ListsAll : List (Point V) → List (Point V) → Type 0
  ListsAll a b = (p : Point V) → Contains a p → Lists b p.departure p.value

  -- where each list has the other's points, and both are in order, the first ones are alike ..
  heads_alike : (x : Point V) (xs : List (Point V)) (y : Point V) (ys : List (Point V))
      → AllPairs (Before rules) (x ∷ xs) → AllPairs (Before rules) (y ∷ ys) → Admits rules x.value
      → Admits rules y.value → ListsAll (x ∷ xs) (y ∷ ys) → ListsAll (y ∷ ys) (x ∷ xs)
      → (x.departure ≡ y.departure) × (x.value ≡ y.value)
  heads_alike x xs y ys a_in_order b_in_order x_admits y_admits into back =
      let there = into x (zero, omega arith, refl) in
      let here = back y (zero, omega arith, refl) in
      elim (contains_cases there.0 y ys there.1) [
        | inl e ↦ (sym there.2 ∙ ap (λ (p : Point V). p.departure) (sym e), sym there.3 ∙ ap (λ (p : Point V). p.value) (sym e))
        | inr later ↦ elim (contains_cases here.0 x xs here.1) [
          | inl f ↦ (ap (λ (p : Point V). p.departure) f ∙ here.2, ap (λ (p : Point V). p.value) f ∙ here.3)
          | inr after ↦
              let y_before : Before rules y x = like_before y x there.0 there.2 there.3 (head_is_before (Before rules) y ys there.0 b_in_order later) in
              let x_before : Before rules x y = like_before x y here.0 here.2 here.3 (head_is_before (Before rules) x xs here.0 a_in_order after) in
              absurd (not_both_before x y x_admits y_admits x_before y_before)
        ]
      ]

  -- .. and the later ones of the one are among the later ones of the other
  tails_alike : (x : Point V) (xs : List (Point V)) (y : Point V) (ys : List (Point V))
      → AllPairs (Before rules) (x ∷ xs) → Admits rules x.value → x.departure ≡ y.departure → x.value ≡ y.value
      → ListsAll (x ∷ xs) (y ∷ ys) → ListsAll xs ys
  tails_alike x xs y ys in_order x_admits departs worth into p is =
      let there = into p (contains_rest p x xs is) in
      elim (contains_cases there.0 y ys there.1) [
        | inl e ↦ absurd (not_before_itself x p x_admits (departs ∙ ap (λ (r : Point V). r.departure) e
            ∙ there.2) (worth ∙ ap (λ (r : Point V). r.value) e
            ∙ there.3) (head_is_before (Before rules) x xs p in_order is))
        | inr later ↦ (there.0, later, there.2, there.3)
      ]

  pub same_untagged : (a b : List (Point V)) → AllPairs (Before rules) a → AllPairs (Before rules) b
      → AreAdmitted rules a → AreAdmitted rules b → ListsAll a b → ListsAll b a → map untagged a ≡ map untagged b
  same_untagged [] [] a_in_order b_in_order a_admitted b_admitted into back = refl
  same_untagged [] (y ∷ ys) a_in_order b_in_order a_admitted b_admitted into back = absurd (omega (arith, (back y (zero, omega arith, refl)).1.1))
  same_untagged (x ∷ xs) [] a_in_order b_in_order a_admitted b_admitted into back = absurd (omega (arith, (into x (zero, omega arith, refl)).1.1))
  same_untagged (x ∷ xs) (y ∷ ys) a_in_order b_in_order a_admitted b_admitted into back =
      let x_admits = a_admitted x (zero, omega arith, refl) in
      let y_admits = b_admitted y (zero, omega arith, refl) in
      let alike = heads_alike x xs y ys a_in_order b_in_order x_admits y_admits into back in
      let rest = same_untagged xs ys (tail_pairs (Before rules) x xs a_in_order)
      (tail_pairs (Before rules) y ys b_in_order) (λ p is. a_admitted p (contains_rest p x xs is))
      (λ p is. b_admitted p (contains_rest p y ys is))
      (tails_alike x xs y ys a_in_order x_admits alike.0 alike.1 into)
      (tails_alike y ys x xs b_in_order y_admits (sym alike.0) (sym alike.1) back) in
      λ i. (alike.0 i, alike.1 i) ∷ rest i

pub one_answer : {V : Type 0} (rules : Rules V) → Laws rules → OneAnswer rules
one_answer rules laws t q can a b is_a is_b =
    same_untagged rules laws a b is_a.ordered is_b.ordered (answer_admitted rules laws t q can a is_a) (answer_admitted rules laws t q can b is_b)
    (λ p is. (is_b.exactly p.departure p.value).1 ((is_a.exactly p.departure p.value).0 (p, is, refl, refl)))
    (λ p is. (is_a.exactly p.departure p.value).1 ((is_b.exactly p.departure p.value).0 (p, is, refl, refl)))
