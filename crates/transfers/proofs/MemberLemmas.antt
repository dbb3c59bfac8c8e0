-- The indices that have a key.
use Rattle.std.proofs.Common.{◌≡◌, ℕ, ◌+◌, ◌<◌, ◌≤◌, inl, inr, List, [], ◌∷◌, ◌++◌, length, map, Option, Some, None, Contains, get_or, sym, ap, subst}
use Rattle.std.proofs.Common.{◌∙◌, arith, append-nil}
use Rattle.std.specs.List.{slice_get}
use Rattle.std.specs.List.Sorted.{IsPermutation, IsNonDecreasing, IsNonDecreasingBy}
use Rattle.std.proofs.lemmas.Option.{same_Some, none-some, slice_get_within}
use Rattle.std.proofs.lemmas.List.{length-map, get_or-map}
use Rattle.std.proofs.lemmas.List.Sorted.{Contains-permutation, IsPermutation-sym}
use Rattle.std.proofs.lemmas.Bool.{cases_eq}
use Rattle.std.proofs.lemmas.List.Elements.{Contains-push, Contains-push_cases, Contains-append_left, Contains-get_or}
use Rattle.timetable.specs.Legal.{At}
use Rattle.transfers.specs.declared.groups.Member.{Member}
use Rattle.transfers.specs.Groups.{HasKey, AreMembers, AreGroups, member_of}

-- one place more
pub members_more : (all : List (Option ℕ)) (i : ℕ) (members : List Member) (o : Option ℕ) → At all i o → AreMembers all i members
    → AreMembers all (i + 1) (members ++ member_of o i)
members_more all i members None is h = record {
  has = λ m m_in. let old = h.has m (subst (λ (ms : List Member). Contains ms m) (append-nil members) m_in) in (omega (arith, old.0), old.1);
  each = λ m below its. elim (cases_eq m.number i) [
    | inl same ↦ absurd (none-some m.key (same_Some None (Some m.key) (sym is ∙ ap (λ (n : ℕ). slice_get all n) (sym same) ∙ its)))
    | inr differ ↦ Contains-append_left members [] m (h.each m (omega (arith, below, differ)) its)
  ];
}
members_more all i members (Some p) is h =
    let x : Member = record { key = p; number = i } in
    record {
      has = λ m m_in. elim (Contains-push_cases members x m m_in) [
        | inl was ↦ let old = h.has m was in (omega (arith, old.0), old.1)
        | inr same ↦ subst (λ (m : Member). (m.number < i + 1) × HasKey all m.key m.number) same (omega arith, is)
      ];
      each = λ m below its. elim (cases_eq m.number i) [
        | inl here ↦
            let p_is : p ≡ m.key = same_Some p m.key (same_Some (Some p) (Some m.key) (sym is ∙ ap (λ (n : ℕ). slice_get all n) (sym here) ∙ its)) in
            let e : x ≡ m = ap (λ (q : ℕ). let y : Member = record { key = q; number = i } in y) p_is
            ∙ ap (λ (n : ℕ). let y : Member = record { key = m.key; number = n } in y) (sym here) in
            subst (λ (m : Member). Contains (members ++ x ∷ []) m) e (Contains-push members x)
        | inr differ ↦ Contains-append_left members (x ∷ []) m (h.each m (omega (arith, below, differ)) its)
      ];
    }

-- members that rise by key have keys that rise
pub rising_keys : (members : List Member) → IsNonDecreasingBy (λ (m : Member). m.key) members → IsNonDecreasing (map (λ (m : Member). m.key) members)
rising_keys members rises i j d le below =
    let size : length (map (λ (m : Member). m.key) members) ≡ length members = length-map members (λ (m : Member). m.key) in
    let j_in : j < length members = omega (arith, below, size) in
    let i_in : i < length members = omega (arith, j_in, le) in
    let x : Member = record { key = 0; number = 0 } in
    let i_is : get_or (map (λ (m : Member). m.key) members) i d ≡ (get_or members i x).key = get_or-map (λ (m : Member). m.key) members i x d i_in in
    let j_is : get_or (map (λ (m : Member). m.key) members) j d ≡ (get_or members j x).key = get_or-map (λ (m : Member). m.key) members j x d j_in in
    let up : (get_or members i x).key ≤ (get_or members j x).key = rises i j x le j_in in
    omega (arith, i_is, j_is, up)

-- sorted members are the places that have a key
pub groups_are : (all : List (Option ℕ)) (before members : List Member) → AreMembers all (length all) before → IsPermutation before members
    → AreGroups all (map (λ (m : Member). m.key) members) (map (λ (m : Member). m.number) members)
groups_are all before members they_are moved = record {
  has = λ k below.
      let k_in : k < length members = omega (arith, below, length-map members (λ (m : Member). m.key)) in
      let x : Member = record { key = 0; number = 0 } in
      let m : Member = get_or members k x in
      let is_in : Contains before m = Contains-permutation members before m (IsPermutation-sym before members moved) (Contains-get_or members k x k_in) in
      let key_is : get_or (map (λ (m : Member). m.key) members) k 0 ≡ m.key = get_or-map (λ (m : Member). m.key) members k x 0 k_in in
      let number_is : get_or (map (λ (m : Member). m.number) members) k 0 ≡ m.number = get_or-map (λ (m : Member). m.number) members k x 0 k_in in
      subst (λ (n : ℕ). HasKey all n (get_or (map (λ (m : Member). m.number) members) k 0)) (sym key_is)
      (subst (λ (n : ℕ). HasKey all m.key n) (sym number_is) (they_are.has m is_in).1);
  each = λ key number is.
      let m : Member = record { key = key; number = number } in
      let (k, k_in, at) = Contains-permutation before members m moved (they_are.each m (slice_get_within all number (Some key) is) is) in (
        k,
        omega (arith, k_in, length-map members (λ (m : Member). m.key)),
        get_or-map (λ (m : Member). m.key) members k m 0 k_in ∙ ap (λ (x : Member). x.key) at,
        get_or-map (λ (m : Member). m.number) members k m 0 k_in ∙ ap (λ (x : Member). x.number) at,
      );
}
