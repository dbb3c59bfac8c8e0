-- The index at which a point is put.
use Rattle.std.proofs.Common.{◌≡◌, ℕ, ◌-◌, ◌<◌, ◌≤◌, true, false, List, length, get_or, Contains, inl, inr, arith, sym, ◌∙◌, ap, subst}
use Rattle.std.proofs.lemmas.Bool.{cases_lt}
use Rattle.std.proofs.lemmas.List.{get_or_default}
use Rattle.criteria.specs.Laws.{Rules, Laws}
use Rattle.bags.specs.Dominance.{comes_before}
use Rattle.bags.specs.Arrangement.{AwaitPoint}
use Rattle.bags.specs.declared.entry.BagEntry.{BagEntry}
use Rattle.bags.specs.declared.point.Point.{Point}
use Rattle.bags.proofs.Entries.{point_stands, entry_stands, pairs_in}
use Rattle.bags.proofs.Links.{EachFrom}
use Rattle.bags.proofs.Order.{before_chains, behind_another}

-- one index further back
pub after_on : {V : Type 0} (rules : Rules V) (entries : List (BagEntry V)) (p : Point V) (last : BagEntry V) (index : ℕ)
    → 0 < index → index ≤ length entries → last ≡ get_or entries (index - 1) last → comes_before rules p last.point ≡ true
    → EachFrom (λ e. comes_before rules p e.point ≡ true) entries index (length entries)
    → EachFrom (λ e. comes_before rules p e.point ≡ true) entries (index - 1) (length entries)
after_on {V} rules entries p last index some within is first after k d low lt =
    let here : get_or entries (index - 1) d ≡ last = get_or_default entries (index - 1) d last (omega arith) ∙ sym is in
    elim (cases_lt k index) [
      | inl at ↦
          let same : k ≡ index - 1 = omega arith in
          subst (λ (e : BagEntry V). comes_before rules p e.point ≡ true) (sym (ap (λ n. get_or entries n d) same ∙ here)) first
      | inr high ↦ after k d high lt
    ]

pub before_last : {V : Type 0} (rules : Rules V) (laws : Laws rules) (entries : List (BagEntry V)) (p : Point V)
    (last : BagEntry V) (first index : ℕ) → AwaitPoint rules entries first p → 0 < index → index ≤ length entries
    → last ≡ get_or entries (index - 1) last → comes_before rules p last.point ≡ false
    → (k : ℕ) (d : BagEntry V) → k < index → comes_before rules (get_or entries k d).point p ≡ true
before_last {V} rules laws entries p last first index ready some within is not k d lt =
    let stands : Contains entries last = (index - 1, omega arith, sym is) in
    let here : get_or entries (index - 1) d ≡ last = get_or_default entries (index - 1) d last (omega arith) ∙ sym is in
    let last_admitted = ready.admitted last stands in
    let behind = behind_another rules laws p last.point ready.point last_admitted (ready.undominated last.point (point_stands entries last stands)) not in
    let q = get_or entries k d in
    elim (cases_lt k (index - 1)) [
      | inl low ↦
          let to_last = subst (λ (e : BagEntry V). comes_before rules q.point e.point ≡ true) here
          (pairs_in (λ r s. comes_before rules r s ≡ true) entries ready.listed k (index - 1) d low (omega arith)) in
          before_chains rules laws q.point last.point p (ready.admitted q (entry_stands entries k d (omega arith))) last_admitted ready.point to_last behind
      | inr high ↦
          let same : k ≡ index - 1 = omega arith in
          subst (λ (e : BagEntry V). comes_before rules e.point p ≡ true) (sym (ap (λ n. get_or entries n d) same ∙ here)) behind
    ]
