-- How lists of claims grow.
use Rattle.std.proofs.Common.{◌≡◌, ℕ, ◌+◌, ◌<◌, ◌⊎◌, inl, inr, List, [], ◌∷◌, ◌++◌, length, take, get_or, Contains, sym, subst, arith}
use Rattle.std.proofs.lemmas.List.{take_more, take_all}
use Rattle.std.proofs.lemmas.List.Elements.{Contains-push, Contains-push_cases, Contains-append_left}
use Rattle.reasoning.proofs.ListLemmas.{not_in_nil}
use Rattle.transfers.specs.declared.claims.Claim.{Claim}
use Rattle.transfers.specs.Claims.{Adds, ForOneOf}

-- nothing is added
pub adds_nothing : (claims : List Claim) (made : Claim → Type 0) → ((c : Claim) → ¬ made c) → Adds claims claims made
adds_nothing claims made none = record { kept = λ c h. h; added = λ c m. absurd (none c m); only = λ c h. inl h }

-- one claim is added
pub adds_one : (claims : List Claim) (x : Claim) (made : Claim → Type 0) → made x → ((c : Claim) → made c → x ≡ c) → Adds claims (claims ++ x ∷ []) made
adds_one claims x made makes one = record {
  kept = λ c h. Contains-append_left claims (x ∷ []) c h;
  added = λ c m. subst (λ (d : Claim). Contains (claims ++ x ∷ []) d) (one c m) (Contains-push claims x);
  only = λ c h. elim (Contains-push_cases claims x c h) [ inl was ↦ inl was | inr same ↦ inr (subst made same makes) ];
}

-- what is made is what is said otherwise
pub adds_same : (old new : List Claim) (P Q : Claim → Type 0) → ((c : Claim) → P c → Q c) → ((c : Claim) → Q c → P c) → Adds old new P → Adds old new Q
adds_same old new P Q there back h = record {
  kept = h.kept;
  added = λ c q. h.added c (back c q);
  only = λ c w. elim (h.only c w) [ inl was ↦ inl was | inr p ↦ inr (there c p) ];
}

-- first some are added, then others
pub adds_then : (old mid new : List Claim) (P Q R : Claim → Type 0) → ((c : Claim) → P c → R c) → ((c : Claim) → Q c → R c) → ((c : Claim) → R c → P c ⊎ Q c)
    → Adds old mid P → Adds mid new Q → Adds old new R
adds_then old mid new P Q R first second either before step = record {
  kept = λ c h. step.kept c (before.kept c h);
  added = λ c r. elim (either c r) [ inl p ↦ step.kept c (before.added c p) | inr q ↦ step.added c q ];
  only = λ c h. elim (step.only c h) [
    | inl mid_has ↦ elim (before.only c mid_has) [ inl was ↦ inl was | inr p ↦ inr (first c p) ]
    | inr q ↦ inr (second c q)
  ];
}

module _ {X : Type 0} (xs : List X) (made : X → Claim → Type 0) where
  -- none of no elements
  pub adds_none : (claims : List Claim) → Adds claims claims (ForOneOf (take 0 xs) made)
  adds_none claims = adds_nothing claims (ForOneOf (take 0 xs) made) (λ c m. not_in_nil m.0 m.1)

  -- one element more
  pub adds_more : (i : ℕ) (d : X) (old mid new : List Claim) → i < length xs → Adds old mid (ForOneOf (take i xs) made) → Adds mid new (made (get_or xs i d))
      → Adds old new (ForOneOf (take (i + 1) xs) made)
  adds_more i d old mid new below before step =
      let more : take (i + 1) xs ≡ take i xs ++ get_or xs i d ∷ [] = take_more xs i d below in
      let P : List X → Type 0 = λ ys. Adds old new (ForOneOf ys made) in
      subst P (sym more) (record {
        kept = λ c h. step.kept c (before.kept c h);
        added = λ c m. elim (Contains-push_cases (take i xs) (get_or xs i d) m.0 m.1) [
          | inl was ↦ step.kept c (before.added c (m.0, was, m.2))
          | inr same ↦ step.added c (subst (λ (x : X). made x c) (sym same) m.2)
        ];
        only = λ c h. elim (step.only c h) [
          | inl mid_has ↦ elim (before.only c mid_has) [
            | inl was ↦ inl was
            | inr m ↦ inr (m.0, Contains-append_left (take i xs) (get_or xs i d ∷ []) m.0 m.1, m.2)
          ]
          | inr m ↦ inr (get_or xs i d, Contains-push (take i xs) (get_or xs i d), m)
        ];
      })

  -- all elements
  pub adds_end : (i : ℕ) (old new : List Claim) → i ≡ length xs → Adds old new (ForOneOf (take i xs) made) → Adds old new (ForOneOf xs made)
  adds_end i old new e h =
      let all : take i xs ≡ xs = take_all i xs (omega (arith, e)) in
      subst (λ (ys : List X). Adds old new (ForOneOf ys made)) all h

-- the same without claims that needn't be made
module _ (banned : Claim → Type 0) where
  abbrev Spoken : (Claim → Type 0) → Claim → Type 0
  Spoken made c = made c × ¬ banned c

  pub unbanned_same : (old new : List Claim) (P Q : Claim → Type 0) → ((c : Claim) → P c → Q c) → ((c : Claim) → Q c → P c)
      → Adds old new (λ c. P c × ¬ banned c) → Adds old new (λ c. Q c × ¬ banned c)
  unbanned_same old new P Q there back h = adds_same old new (Spoken P) (Spoken Q) (λ c m. (there c m.0, m.1)) (λ c m. (back c m.0, m.1)) h

  pub unbanned_then : (old mid new : List Claim) (P Q R : Claim → Type 0) → ((c : Claim) → P c → R c) → ((c : Claim) → Q c → R c)
      → ((c : Claim) → R c → P c ⊎ Q c) → Adds old mid (λ c. P c × ¬ banned c) → Adds mid new (λ c. Q c × ¬ banned c)
      → Adds old new (λ c. R c × ¬ banned c)
  unbanned_then old mid new P Q R first second either before step = adds_then old mid new (Spoken P) (Spoken Q) (Spoken R)
      (λ c m. (first c m.0, m.1)) (λ c m. (second c m.0, m.1))
      (λ c m. elim (either c m.0) [ inl p ↦ inl (p, m.1) | inr q ↦ inr (q, m.1) ])
      before step

  module _ {X : Type 0} (xs : List X) (made : X → Claim → Type 0) where
    abbrev SpokenBy : X → Claim → Type 0
    SpokenBy x c = made x c × ¬ banned c

    together : (ys : List X) (c : Claim) → ForOneOf ys SpokenBy c → Spoken (ForOneOf ys made) c
    together ys c (x, is_in, m) = ((x, is_in, m.0), m.1)

    apart : (ys : List X) (c : Claim) → Spoken (ForOneOf ys made) c → ForOneOf ys SpokenBy c
    apart ys c m = (m.0.0, m.0.1, (m.0.2, m.1))

    pub unbanned_none : (claims : List Claim) → Adds claims claims (λ c. ForOneOf (take 0 xs) made c × ¬ banned c)
    unbanned_none claims = adds_nothing claims (Spoken (ForOneOf (take 0 xs) made)) (λ c m. not_in_nil m.0.0 m.0.1)

    pub unbanned_more : (i : ℕ) (d : X) (old mid new : List Claim) → i < length xs → Adds old mid (λ c. ForOneOf (take i xs) made c × ¬ banned c)
        → Adds mid new (λ c. made (get_or xs i d) c × ¬ banned c) → Adds old new (λ c. ForOneOf (take (i + 1) xs) made c × ¬ banned c)
    unbanned_more i d old mid new below before step =
        let had : Adds old mid (ForOneOf (take i xs) SpokenBy) =
        adds_same old mid (Spoken (ForOneOf (take i xs) made)) (ForOneOf (take i xs) SpokenBy) (apart (take i xs)) (together (take i xs)) before in
        let more : Adds old new (ForOneOf (take (i + 1) xs) SpokenBy) = adds_more xs SpokenBy i d old mid new below had step in
        adds_same old new (ForOneOf (take (i + 1) xs) SpokenBy) (Spoken (ForOneOf (take (i + 1) xs) made)) (together (take (i + 1) xs))
        (apart (take (i + 1) xs)) more

    pub unbanned_end : (i : ℕ) (old new : List Claim) → i ≡ length xs → Adds old new (λ c. ForOneOf (take i xs) made c × ¬ banned c)
        → Adds old new (λ c. ForOneOf xs made c × ¬ banned c)
    unbanned_end i old new e h =
        let all : take i xs ≡ xs = take_all i xs (omega (arith, e)) in
        subst (λ (ys : List X). Adds old new (λ c. ForOneOf ys made c × ¬ banned c)) all h
