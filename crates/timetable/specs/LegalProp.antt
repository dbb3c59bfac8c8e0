-- That a timetable is legal has at most one proof, so that a ghost field can keep this proof.
use Rattle.std.specs.Prelude.{◌≡◌, ℕ, zero, suc, ◌+◌, ◌<◌, ◌≤◌, List, [], ◌∷◌, Bool, true, false, Option, Some, None, slice_get}
use Rattle.std.proofs.Common.{sym, ap, subst, ◌∙◌, inl, inr, true≢false, arith, refl}
use Rattle.std.proofs.lemmas.Bool.{cases_eq, cases_order}
use Rattle.std.proofs.Props.{props}
use Rattle.std.specs.Coded.{le_prop}
use mathlib.Core.HLevel.{Σ_prop_path, is_prop→PathP}
use Rattle.timetable.specs.declared.network.Footpath.{Footpath}
use Rattle.timetable.specs.TimetableValue.{TimetableValue}
use Rattle.timetable.specs.Legal.{At, HasFootpath, IsOrderedBefore, AreInOrder, IsLegal}

is_none : {X : Type 0} → Option X → Bool
is_none None = true
is_none (Some x) = false

secs_of : Option Footpath → ℕ
secs_of None = 0
secs_of (Some f) = f.secs

-- a list with an element at an index has one at the index before
one_before : (paths : List Footpath) (i : ℕ) (f : Footpath) → At paths (suc i) f → (e : Footpath) × At paths i e
unfolding is_none
one_before [] i f at_f = absurd (true≢false (ap is_none at_f))
one_before (e ∷ rest) zero f at_f = (e, refl)
one_before (e ∷ rest) (suc i) f at_f = one_before rest i f at_f

-- the order is transitive
in_order_on : (d e f : Footpath) → IsOrderedBefore d e → IsOrderedBefore e f → IsOrderedBefore d f
in_order_on d e f first second = (
  omega (arith, first.0, second.0),
  λ (same : d.to ≡ f.to).
      let near : d.to ≡ e.to = omega (arith, first.0, second.0, same) in
      let far : e.to ≡ f.to = omega (arith, near, same) in
      omega (arith, first.1 near, second.1 far),
)

module _ (paths : List Footpath) (in_order : AreInOrder paths) where
  -- each footpath comes before all later ones, not just before the next
  pub in_order_later : (j i : ℕ) (d f : Footpath) → i < j → At paths i d → At paths j f → IsOrderedBefore d f
  in_order_later zero i d f below at_d at_f = absurd (omega (arith, below))
  in_order_later (suc j) i d f below at_d at_f =
      let next : suc j ≡ j + 1 = omega arith in
      let at_next : At paths (j + 1) f = subst (λ (x : ℕ). At paths x f) next at_f in
      elim (cases_eq i j) [
        | inl same ↦ in_order j d f (subst (λ (x : ℕ). At paths x d) same at_d) at_next
        | inr other ↦
            let e = one_before paths j f at_f in
            let near = in_order_later j i d e.0 (omega (arith, below, other)) at_d e.1 in
            in_order_on d e.0 f near (in_order j e.0 f e.1 at_next)
      ]

  never_later : (from to s t i j : ℕ) → i < j → At paths i (record { from = from; to = to; secs = s })
      → At paths j (record { from = from; to = to; secs = t }) → ⊥
  never_later from to s t i j below p q =
      let after = in_order_later j i (record { from = from; to = to; secs = s }) (record { from = from; to = to; secs = t }) below p q in
      omega (arith, after.1 refl)

  -- an ordered pair of stops has its footpath at one index ..
  pub same_index_of : (from to s t : ℕ) (p : HasFootpath paths from to s) (q : HasFootpath paths from to t) → p.0 ≡ q.0
  same_index_of from to s t p q =
      elim (cases_order p.0 q.0) [
        | inl same ↦ same
        | inr (inl below) ↦ absurd (never_later from to s t p.0 q.0 below p.1 q.1)
        | inr (inr above) ↦ absurd (never_later from to t s q.0 p.0 above q.1 p.1)
      ]

  -- .. and with one number of seconds
  pub same_secs : (from to s t : ℕ) → HasFootpath paths from to s → HasFootpath paths from to t → s ≡ t
  unfolding secs_of
  same_secs from to s t p q =
      ap secs_of (sym p.1 ∙ ap (λ (x : ℕ). slice_get paths x) (same_index_of from to s t p q) ∙ q.1)

  pub HasFootpath-prop : (from to s : ℕ) → IsProp (HasFootpath paths from to s)
  HasFootpath-prop from to s p q =
      let at_prop : (i : ℕ) → IsProp (At paths i (record { from = from; to = to; secs = s })) = hlevel props in
      Σ_prop_path at_prop (same_index_of from to s s p q)

  loop_prop : (s : ℕ) → IsProp ((secs : ℕ) × HasFootpath paths s s secs)
  loop_prop s p q = Σ_prop_path (HasFootpath-prop s s) (same_secs s s p.0 q.0 p.1 q.1)

  direct_prop : (a c most : ℕ) → IsProp ((d : ℕ) × HasFootpath paths a c d × (d ≤ most))
  direct_prop a c most p q =
      let same : p.0 ≡ q.0 = same_secs a c p.0 q.0 p.1 q.1 in
      λ i. (
        same i,
        is_prop→PathP (λ k. HasFootpath paths a c (same k)) (λ k. HasFootpath-prop a c (same k)) p.1 q.1 i,
        is_prop→PathP (λ k. same k ≤ most) (λ k. le_prop) p.2 q.2 i,
      )

pub IsLegal-prop : (t : TimetableValue) → IsProp (IsLegal t)
IsLegal-prop t x y =
    let loop = loop_prop t.footpaths x.in_order in
    let direct = direct_prop t.footpaths x.in_order in
    let legal_prop : IsProp (IsLegal t) = hlevel (props, loop, direct) in
    legal_prop x y
