-- Points that are the answer of a set.
use Rattle.std.proofs.Common.{◌≡◌, ℕ, ◌≤◌, nat_le, List, Contains, AllPairs, arith, ap, subst}
use Rattle.std.proofs.lemmas.Bool.{and_from, le-leb}
use Rattle.criteria.specs.Laws.{Rules, Laws, Admits, NoWorse}
use Rattle.bags.specs.Dominance.{IsBag}
use Rattle.bags.specs.declared.point.Point.{Point}
use Rattle.scan_state.specs.Points.{Before, Covers, IsAnswerOf, IsUndominatedOf}
use Rattle.profile_scan.proofs.Answer.{only_itself}

-- a bag in order whose points are of the set, and that covers each of the set, is its answer
module _ {V : Type 0} (rules : Rules V) (laws : Laws rules) (There : ℕ → V → Type 0)
    (admits : (d : ℕ) (v : V) → There d v → Admits rules v) (found : List (Point V)) (bag : IsBag rules found)
    (sound : (p : Point V) → Contains found p → There p.departure p.value)
    (complete : (d : ℕ) (v : V) → There d v → Covers rules found d v) where
  found_is_undominated : (p : Point V) → Contains found p → IsUndominatedOf rules There p.departure p.value
  found_is_undominated p in_p = record {
    is_point = sound p in_p;
    only_itself = λ d w point late no_worse.
        let got = complete d w point in
        let r = got.0 in
        let w_admits = admits d w point in
        let p_admits = bag.admitted p in_p in
        let better : NoWorse rules r.value p.value = laws.transitive r.value w p.value (bag.admitted r got.1) w_admits p_admits got.3 no_worse in
        let later : p.departure ≤ r.departure = omega (arith, got.2, late) in
        let same : r ≡ p = only_itself rules found bag.undominated r p got.1 in_p
        (and_from (nat_le p.departure r.departure) (rules.no_worse r.value p.value) (le-leb p.departure r.departure later) better) in
        let departs : r.departure ≡ p.departure = ap (λ (x : Point V). x.departure) same in
        let worse : NoWorse rules p.value w = subst (λ (x : Point V). NoWorse rules x.value w) same got.3 in
        (omega (arith, got.2, late, departs), laws.antisymmetric w p.value w_admits p_admits no_worse worse);
  }

  pub found_is_answer : AllPairs (Before rules) found → IsAnswerOf rules There found
  found_is_answer ordered = record {
    exactly = λ departure v. (
      (λ listed. subst (λ (n : ℕ). IsUndominatedOf rules There n v) listed.2
          (subst (IsUndominatedOf rules There listed.0.departure) listed.3 (found_is_undominated listed.0 listed.1))),
      (λ undominated.
          let got = complete departure v undominated.is_point in
          let p = got.0 in
          let same = undominated.only_itself p.departure p.value (sound p got.1) got.2 got.3 in
          (p, got.1, same.0, same.1)),
    );
    unbeaten = complete;
    ordered = ordered;
  }
