-- The indices with a given key, found among all that have a key.
use Rattle.std.proofs.Common.{◌≡◌, ℕ, ◌+◌, ◌-◌, ◌<◌, ◌≤◌, inl, inr, List, length, take, drop, ltb, leb, ltb-true, ltb-false, leb-true, leb-false, true, false}
use Rattle.std.proofs.Common.{Option, Contains, get_or, sym, ap, subst, ◌∙◌, arith}
use Rattle.std.specs.List.{slice_index, AllWithin}
use Rattle.std.proofs.lemmas.Bool.{cases_lt}
use Rattle.std.proofs.lemmas.List.{get_or-take, get_or-drop, length-take, length-drop}
use Rattle.std.proofs.lemmas.Option.{same_Some, slice_get-get_or}
use Rattle.transfers.specs.Groups.{HasKey, AreGroups, IsGroup}

-- the keys below a place are less than one, and those from there on aren't
pub record IsBorder (keys : List ℕ) (limit index : ℕ) : Type 0 where
  pub within : index ≤ length keys
  pub less : (k : ℕ) → k < index → slice_index keys k < limit
  pub more : (k : ℕ) → index ≤ k → k < length keys → limit ≤ slice_index keys k

-- a border from what a search tells
pub border_lt : (keys : List ℕ) (key index : ℕ) → index ≤ length keys → AllWithin (λ y. ltb y key ≡ true) keys 0 index
    → AllWithin (λ y. ltb y key ≡ false) keys index (length keys) → IsBorder keys key index
border_lt keys key index within less more = record {
  within = within;
  less = λ k below. ltb-true (slice_index keys k) key (less k 0 (omega arith) below);
  more = λ k from below. ltb-false (slice_index keys k) key (more k 0 from below);
}

pub border_le : (keys : List ℕ) (key index : ℕ) → index ≤ length keys → AllWithin (λ y. leb y key ≡ true) keys 0 index
    → AllWithin (λ y. leb y key ≡ false) keys index (length keys) → IsBorder keys (key + 1) index
border_le keys key index within less more = record {
  within = within;
  less = λ k below. let h = leb-true (slice_index keys k) key (less k 0 (omega arith) below) in omega (arith, h);
  more = λ k from below. let h = leb-false (slice_index keys k) key (more k 0 from below) in omega (arith, h);
}

-- the borders of a key's places
pub borders_in_order : (keys : List ℕ) (key first end : ℕ) → IsBorder keys key first → IsBorder keys (key + 1) end → first ≤ end
borders_in_order keys key first end low high = elim (cases_lt end first) [
  | inl crossed ↦ absurd (omega (arith, low.less end crossed, high.more end (omega arith) (omega (arith, crossed, low.within))))
  | inr fine ↦ fine
]

module _ (xs : List ℕ) (first end : ℕ) (order : first ≤ end) (inside : end ≤ length xs) where
  part_length : length (take (end - first) (drop first xs)) ≡ end - first
  part_length = let a = length-take (end - first) (drop first xs) in let b = length-drop first xs in omega (arith, a, b, order, inside)

  part_at : (k d : ℕ) → k < end - first → get_or (take (end - first) (drop first xs)) k d ≡ get_or xs (first + k) d
  part_at k d below = get_or-take (end - first) (drop first xs) k d below ∙ get_or-drop first xs k d

  pub in_part : (x : ℕ) → Contains (take (end - first) (drop first xs)) x → (k : ℕ) × (first ≤ k) × (k < end) × (get_or xs k x ≡ x)
  in_part x (k, below, is) =
      let short : k < end - first = omega (arith, below, part_length) in
      (first + k, omega arith, omega (arith, short), sym (part_at k x short) ∙ is)

  pub to_part : (x k : ℕ) → first ≤ k → k < end → get_or xs k x ≡ x → Contains (take (end - first) (drop first xs)) x
  to_part x k low high is =
      let short : k - first < end - first = omega (arith, low, high) in
      let back : first + (k - first) ≡ k = omega (arith, low) in
      (k - first, omega (arith, short, part_length), part_at (k - first) x short ∙ ap (λ (n : ℕ). get_or xs n x) back ∙ is)

module _ (all : List (Option ℕ)) (keys numbers : List ℕ) (key first end : ℕ) (low : IsBorder keys key first) (high : IsBorder keys (key + 1) end)
    (same : length keys ≡ length numbers) (they_are : AreGroups all keys numbers) where
  -- what stands between the borders of a key are its places
  pub between_borders : IsGroup all key (take (end - first) (drop first numbers))
  between_borders =
      let order : first ≤ end = borders_in_order keys key first end low high in
      let inside : end ≤ length numbers = omega (arith, high.within, same) in
      record {
        has = λ number h.
            let (k, from, below, is) = in_part numbers first end order inside number h in
            let k_in : k < length keys = omega (arith, below, high.within) in
            let here : slice_index keys k ≡ key = omega (arith, low.more k from k_in, high.less k below) in
            let k_number : slice_index numbers k ≡ number = any_default numbers k 0 number (omega (arith, k_in, same)) ∙ is in
            subst (λ (n : ℕ). HasKey all n number) here (subst (λ (n : ℕ). HasKey all (slice_index keys k) n) k_number (they_are.has k k_in));
        each = λ number h.
            let (k, k_in, here, k_number) = they_are.each key number h in
            to_part numbers first end order inside number k (from_first k k_in here) (to_end k k_in here) (any_default numbers k number 0 (omega
            (arith, k_in, same)) ∙ k_number);
      }
    where
      any_default : (xs : List ℕ) (k d e : ℕ) → k < length xs → get_or xs k d ≡ get_or xs k e
      any_default xs k d e below = same_Some (get_or xs k d) (get_or xs k e) (sym (slice_get-get_or xs k d below) ∙ slice_get-get_or xs k e below)

      from_first : (k : ℕ) → k < length keys → slice_index keys k ≡ key → first ≤ k
      from_first k k_in here = elim (cases_lt k first) [ inl below ↦ absurd (omega (arith, low.less k below, here)) | inr fine ↦ fine ]

      to_end : (k : ℕ) → k < length keys → slice_index keys k ≡ key → k < end
      to_end k k_in here = elim (cases_lt k end) [ inl fine ↦ fine | inr above ↦ absurd (omega (arith, high.more k above k_in, here)) ]
