-- A point that replaces the only one, which it dominates.
use Rattle.std.proofs.Common.{ℕ, zero, suc, ◌<◌, ◌≡◌, ◌≤◌, true, List, [], ◌∷◌, get_or, slice_set, Contains, inl, inr, arith, sym, subst}
use Rattle.reasoning.proofs.ListLemmas.{contains_first, contains_only}
use Rattle.criteria.specs.Laws.{Rules, Admits, NoWorse}
use Rattle.bags.specs.Dominance.{Inserted, Dominates}
use Rattle.bags.specs.Arrangement.{points_in, AreArranged, IsOnly}
use Rattle.bags.specs.declared.entry.BagEntry.{BagEntry}
use Rattle.bags.specs.declared.point.Point.{Point}

alone : {V : Type 0} (rules : Rules V) (p : Point V) → Admits rules p.value → AreArranged rules (record { point = p; skip = 0 } ∷ [])
alone {V} rules p admitted = record {
  bag = record {
    admitted = λ q h. subst (λ (r : Point V). Admits rules r.value) (sym (contains_only p q h)) admitted;
    undominated = λ i j d lt within. absurd (omega arith);
  };
  listed = λ i j d lt within. absurd (omega arith);
  linked = record { back = back; better = λ k j d lt low before. absurd (omega arith); stops = stops };
}
  where
    back : (k : ℕ) (d : BagEntry V) → k < 1 → (get_or ((let e : BagEntry V = record { point = p; skip = 0 } in e) ∷ []) k d).skip ≤ k
    back zero d lt = omega arith
    back (suc k) d lt = absurd (omega arith)

    stops : (k j : ℕ) (d : BagEntry V) → k < 1 → (get_or ((let e : BagEntry V = record { point = p; skip = 0 } in e) ∷ []) k d).skip ≡ suc j
        → NoWorse rules (get_or ((let e : BagEntry V = record { point = p; skip = 0 } in e) ∷ []) k d).point.value
        (get_or ((let e : BagEntry V = record { point = p; skip = 0 } in e) ∷ []) j d).point.value → ⊥
    stops zero j d lt is over = absurd (omega (arith, is))
    stops (suc k) j d lt is over = absurd (omega (arith, lt))

pub at_its_index : {V : Type 0} (rules : Rules V) (p : Point V) (old : List (BagEntry V)) → IsOnly rules old p → Admits rules p.value
    → AreArranged rules (slice_set old 0 (record { point = p; skip = 0 }))
    × Inserted rules (points_in old) p true (points_in (slice_set old 0 (record { point = p; skip = 0 })))
at_its_index {V} rules p (e ∷ []) is admitted = (
  alone rules p admitted,
  λ q. (
    λ h. inl (contains_only p q h),
    λ h. elim h [
      | inl same ↦ subst (Contains (p ∷ [])) (sym same) (contains_first p [])
      | inr there ↦ absurd (there.1 (subst (λ r. Dominates rules p r) (sym (contains_only e.point q there.0)) (is.dominated e (contains_first e []))))
    ],
  ),
)
at_its_index rules p _ is admitted = let long = is.one in absurd (omega (arith, long))
