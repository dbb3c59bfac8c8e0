-- What a step of one end changes of the items of all ends, and of their numbers.
use Rattle.std.proofs.Common.{◌≡◌, ◌∙◌, ◌+◌, ◌++◌, ◌∷◌, ℕ, zero, suc, List, [], refl, sym, ap, subst, arith, slice_set}
use Rattle.std.specs.Prelude.{IsPermutation}
use Rattle.std.proofs.lemmas.List.{append_assoc}
use Rattle.std.proofs.lemmas.List.Sorted.{IsPermutation-append_left, IsPermutation-append_right, IsPermutation-append_comm, IsPermutation-refl}
use Rattle.std.proofs.lemmas.List.Sorted.{IsPermutation-sym, IsPermutation-trans}
use mathlib.Core.Option.{Option as Found, some, none, some-ne-none}
use lib.ListN.{get_elem?}
use Rattle.handoff.specs.Queue.{closings_at, keeps, taking_at, items_by, putting_at, put_at, puts_there, taken_at, takes_there, total}
use Rattle.handoff.specs.declared.queue.KeeperView.{KeeperView}
use Rattle.handoff.specs.declared.queue.EndView.{EndView}

module _ {I : Type 0} where
  found_or : Found (EndView I) → EndView I → EndView I
  found_or (some side) other = side
  found_or none other = other

  -- two lists behind a third may change places, and two in front of a third
  behind : (xs ys zs : List I) → IsPermutation ((xs ++ ys) ++ zs) ((xs ++ zs) ++ ys)
  behind xs ys zs =
      subst (λ list. IsPermutation list ((xs ++ zs) ++ ys)) (sym (append_assoc xs ys zs))
      (subst (λ list. IsPermutation (xs ++ (ys ++ zs)) list) (sym (append_assoc xs zs ys))
      (IsPermutation-append_right xs (ys ++ zs) (zs ++ ys) (IsPermutation-append_comm ys zs)))

  in_front : (xs ys zs : List I) → IsPermutation (xs ++ (ys ++ zs)) (ys ++ (xs ++ zs))
  in_front xs ys zs =
      let swapped = IsPermutation-append_left zs (xs ++ ys) (ys ++ xs) (IsPermutation-append_comm xs ys) in
      let left = subst (λ l. IsPermutation l ((ys ++ xs) ++ zs)) (append_assoc xs ys zs) swapped in
      subst (λ r. IsPermutation (xs ++ (ys ++ zs)) r) (append_assoc ys xs zs) left

  module _ (part : EndView I → List I) where
    -- one end has these items more
    pub more : (views : List (EndView I)) (k : ℕ) (v w : EndView I) (extra : List I) → get_elem? views k ≡ some v → part w ≡ part v ++ extra
        → IsPermutation (items_by part (slice_set views k w)) (items_by part views ++ extra)
    unfolding found_or
    more [] k v w extra at grows = absurd (some-ne-none _ (sym at))
    more (x ∷ rest) zero v w extra at grows =
        let is : part w ≡ part x ++ extra = grows ∙ ap (λ found. part (found_or found x) ++ extra) (sym at) in
        subst (λ list. IsPermutation (list ++ items_by part rest) ((part x ++ items_by part rest) ++ extra)) (sym is)
        (behind (part x) extra (items_by part rest))
    more (x ∷ rest) (suc k) v w extra at grows =
        subst (λ list. IsPermutation (part x ++ items_by part (slice_set rest k w)) list) (sym (append_assoc (part x) (items_by part rest) extra))
        (IsPermutation-append_right (part x) (items_by part (slice_set rest k w)) (items_by part rest ++ extra) (more rest k v w extra at grows))

    -- one end has the same items
    pub same : (views : List (EndView I)) (k : ℕ) (v w : EndView I) → get_elem? views k ≡ some v → part w ≡ part v
        → items_by part (slice_set views k w) ≡ items_by part views
    unfolding found_or
    same [] k v w at is = absurd (some-ne-none _ (sym at))
    same (x ∷ rest) zero v w at is = ap (λ list. list ++ items_by part rest) (is ∙ ap (λ found. part (found_or found x)) (sym at))
    same (x ∷ rest) (suc k) v w at is = ap (λ list. part x ++ list) (same rest k v w at is)

    -- there is one end more, which has none
    pub end_without_items : (views : List (EndView I)) (u : EndView I) → part u ≡ [] → items_by part (views ++ u ∷ []) ≡ items_by part views
    end_without_items [] u bare = ap (λ list. list ++ []) bare
    end_without_items (x ∷ rest) u bare = ap (λ list. part x ++ list) (end_without_items rest u bare)

    -- all items are those of one end, and those that are there once it is let go
    pub gone : (views : List (EndView I)) (k : ℕ) (v : EndView I) → get_elem? views k ≡ some v → part EndView.Rests ≡ []
        → IsPermutation (items_by part views) (part v ++ items_by part (slice_set views k EndView.Rests))
    unfolding found_or
    gone [] k v at bare = absurd (some-ne-none _ (sym at))
    gone (x ∷ rest) zero v at bare =
        let here : part x ≡ part v = ap (λ found. part (found_or found x)) at in
        let there : part x ++ items_by part rest ≡ part v ++ (part EndView.Rests ++ items_by part rest) =
        ap (λ list. list ++ items_by part rest) here ∙ ap (λ list. part v ++ (list ++ items_by part rest)) (sym bare) in
        subst (λ list. IsPermutation (part x ++ items_by part rest) list) there (IsPermutation-refl (part x ++ items_by part rest))
    gone (x ∷ rest) (suc k) v at bare =
        let left = items_by part (slice_set rest k EndView.Rests) in
        IsPermutation-trans (part x ++ items_by part rest) (part x ++ (part v ++ left)) (part v ++ (part x ++ left))
        (IsPermutation-append_right (part x) (items_by part rest) (part v ++ left) (gone rest k v at bare)) (in_front (part x) (part v) left)

    -- one end takes in what another had, which is let go
    pub merged : (views : List (EndView I)) (k other : ℕ) (v both w : EndView I) → get_elem? views k ≡ some v → ¬ (other ≡ k)
        → get_elem? (slice_set views k both) other ≡ some w → part EndView.Rests ≡ [] → part both ≡ part v ++ part w
        → IsPermutation (items_by part (slice_set (slice_set views k both) other EndView.Rests)) (items_by part views)
    unfolding found_or
    merged [] k other v both w at apart there bare is = absurd (some-ne-none _ (sym at))
    merged (x ∷ rest) zero zero v both w at apart there bare is = absurd (apart refl)
    merged (x ∷ rest) zero (suc j) v both w at apart there bare is =
        let here : part x ≡ part v = ap (λ found. part (found_or found x)) at in
        let left = items_by part (slice_set rest j EndView.Rests) in
        let back = IsPermutation-append_right (part v) (part w ++ left) (items_by part rest)
        (IsPermutation-sym (items_by part rest) (part w ++ left) (gone rest j w there bare)) in
        let joined : part v ++ (part w ++ left) ≡ part both ++ left = sym (append_assoc (part v) (part w) left) ∙ ap (λ list. list ++ left) (sym is) in
        subst (λ list. IsPermutation list (part x ++ items_by part rest)) joined
        (subst (λ list. IsPermutation (part v ++ (part w ++ left)) (list ++ items_by part rest)) (sym here) back)
    merged (x ∷ rest) (suc i) zero v both w at apart there bare is =
        let here : part x ≡ part w = ap (λ found. part (found_or found x)) there in
        let grown = more rest i v both (part w) at is in
        let turned = IsPermutation-trans (items_by part (slice_set rest i both)) (items_by part rest ++ part w) (part w ++ items_by part rest)
        grown (IsPermutation-append_comm (items_by part rest) (part w)) in
        subst (λ list. IsPermutation (list ++ items_by part (slice_set rest i both)) (part x ++ items_by part rest)) (sym bare)
        (subst (λ list. IsPermutation (items_by part (slice_set rest i both)) (list ++ items_by part rest)) (sym here) turned)
    merged (x ∷ rest) (suc i) (suc j) v both w at apart there bare is =
        IsPermutation-append_right (part x) (items_by part (slice_set (slice_set rest i both) j EndView.Rests)) (items_by part rest)
        (merged rest i j v both w at (λ same. apart (ap suc same)) there bare is)

  -- one end knows `w` in place of `v`: the total of any number changes by as much as that of this end
  pub changed : (views : List (EndView I)) (k : ℕ) (v w : EndView I) → get_elem? views k ≡ some v → (part : EndView I → ℕ)
      → total part (slice_set views k w) + part v ≡ total part views + part w
  unfolding found_or
  changed [] k v w at part = absurd (some-ne-none _ (sym at))
  changed (x ∷ rest) zero v w at part = let here : part x ≡ part v = ap (λ found. part (found_or found x)) at in omega (arith, here)
  changed (x ∷ rest) (suc k) v w at part = let more = changed rest k v w at part in omega (arith, more)

  -- one end is added, and its number to the total
  pub counted : (part : EndView I → ℕ) (views : List (EndView I)) (u : EndView I) → total part (views ++ u ∷ []) ≡ total part views + part u
  counted part [] u = omega arith
  counted part (x ∷ rest) u = let more = counted part rest u in omega (arith, more)

  -- only the keeper has any of these
  abbrev pub IsKeepers : (EndView I → ℕ) → Type 0
  IsKeepers part = (side : EndView I) → keeps side ≡ 0 → part side ≡ 0

  -- so there are none without a keeper, and else as many as it has
  nowhere : (part : EndView I → ℕ) (views : List (EndView I)) → IsKeepers part → total keeps views ≡ 0 → total part views ≡ 0
  nowhere part [] only no_end = refl
  nowhere part (x ∷ rest) only no_end =
      let here = only x (omega (arith, no_end)) in
      let there = nowhere part rest only (omega (arith, no_end)) in
      omega (arith, here, there)

  pub others_keep : (views : List (EndView I)) (k : ℕ) (view : KeeperView I) → get_elem? views k ≡ some (EndView.Keeping view) → total keeps views ≡ 1
      → total keeps (slice_set views k EndView.Rests) ≡ 0
  others_keep views k view at one = let all = changed views k (EndView.Keeping view) EndView.Rests at keeps in omega (arith, one, all)

  pub at_keeper : (part : EndView I → ℕ) (views : List (EndView I)) (k : ℕ) (view : KeeperView I) → IsKeepers part
      → get_elem? views k ≡ some (EndView.Keeping view) → total keeps views ≡ 1 → total part views ≡ part (EndView.Keeping view)
  at_keeper part views k view only at one =
      let no_end = nowhere part (slice_set views k EndView.Rests) only (others_keep views k view at one) in
      let rests = only EndView.Rests refl in
      let all = changed views k (EndView.Keeping view) EndView.Rests at part in
      omega (arith, no_end, rests, all)

  pub keeper_counts_putters : IsKeepers putting_at
  keeper_counts_putters (EndView.Keeping k) no_end = absurd (omega (arith, no_end))
  keeper_counts_putters (EndView.Putting items tries) no_end = refl
  keeper_counts_putters (EndView.Taking items ended) no_end = refl
  keeper_counts_putters EndView.Rests no_end = refl

  pub keeper_counts_takers : IsKeepers taking_at
  keeper_counts_takers (EndView.Keeping k) no_end = absurd (omega (arith, no_end))
  keeper_counts_takers (EndView.Putting items tries) no_end = refl
  keeper_counts_takers (EndView.Taking items ended) no_end = refl
  keeper_counts_takers EndView.Rests no_end = refl

  pub keeper_counts_closings : IsKeepers closings_at
  keeper_counts_closings (EndView.Keeping k) no_end = absurd (omega (arith, no_end))
  keeper_counts_closings (EndView.Putting items tries) no_end = refl
  keeper_counts_closings (EndView.Taking items ended) no_end = refl
  keeper_counts_closings EndView.Rests no_end = refl

  -- nothing was put where there are no ends for that, and nothing was taken
  pub none_put : (views : List (EndView I)) → total keeps views ≡ 0 → total puts_there views ≡ 0 → items_by put_at views ≡ []
  none_put [] keepers ends = refl
  none_put (EndView.Keeping k ∷ rest) keepers ends = absurd (omega (arith, keepers))
  none_put (EndView.Putting items tries ∷ rest) keepers ends = absurd (omega (arith, ends))
  none_put (EndView.Taking items ended ∷ rest) keepers ends = none_put rest (omega (arith, keepers)) (omega (arith, ends))
  none_put (EndView.Rests ∷ rest) keepers ends = none_put rest (omega (arith, keepers)) (omega (arith, ends))

  pub none_taken : (views : List (EndView I)) → total keeps views ≡ 0 → total takes_there views ≡ 0 → items_by taken_at views ≡ []
  none_taken [] keepers ends = refl
  none_taken (EndView.Keeping k ∷ rest) keepers ends = absurd (omega (arith, keepers))
  none_taken (EndView.Putting items tries ∷ rest) keepers ends = none_taken rest (omega (arith, keepers)) (omega (arith, ends))
  none_taken (EndView.Taking items ended ∷ rest) keepers ends = absurd (omega (arith, ends))
  none_taken (EndView.Rests ∷ rest) keepers ends = none_taken rest (omega (arith, keepers)) (omega (arith, ends))
