-- Whether a text is in a name, as a search finds it.
use Rattle.std.proofs.Common.{◌≡◌, ◌≢◌, ◌≤◌, ◌⊎◌, ℕ, ◌+◌, List, ◌++◌, length, drop, take, arith, refl, sym, ap, inl, inr, ◌∙◌, append_assoc}
use Rattle.std.specs.Prelude.{Bool, true, false, None, MatchBool}
use Rattle.std.specs.Str.Pattern.{FindsText, HasMatch}
use Rattle.std.proofs.lemmas.List.{drop_at, length-append, take-append-drop}
use Rattle.feed_stations.specs.Finding.{IsIn}

-- a text that stands at an index of a name is in it
is_in : (text name : List ℕ) (i j : ℕ) → drop i name ≡ text ++ drop j name → IsIn text name
is_in text name i j there = (
  take i name,
  drop j name,
  sym (take-append-drop i name) ∙ ap (λ (z : List ℕ). take i name ++ z) there ∙ sym (append_assoc (take i name) text (drop j name)),
)

-- a text that stands at no index of a name isn't in it
not_in : (text name : List ℕ) → ((i : ℕ) → i ≤ length name → (rest : List ℕ) → drop i name ≢ text ++ rest) → ¬ (IsIn text name)
not_in text name nowhere is =
    let before = is.0 in
    let after = is.1 in
    let split : name ≡ before ++ (text ++ after) = is.2 ∙ append_assoc before text after in
    let there : drop (length before) name ≡ text ++ after = ap (drop (length before)) split ∙ drop_at before (text ++ after) (length before) refl in
    nowhere (length before) (within before (text ++ after) name split) after there
  where
    within : (xs ys zs : List ℕ) → zs ≡ xs ++ ys → length xs ≤ length zs
    within xs ys zs e = let long : length zs ≡ length xs + length ys = ap length e ∙ length-append xs ys in omega (arith, long)

-- whether a search finds a text in a name
pub found_or_not : (found : Bool) (text name : List ℕ) → MatchBool found (HasMatch (FindsText text) name) (FindsText text name None)
    → MatchBool found (IsIn text name) (¬ (IsIn text name))
found_or_not true text name has = is_in text name has.0 has.1 has.2.1.split
found_or_not false text name nowhere = not_in text name nowhere

-- whether one of two things holds, of which the first doesn't
pub second_or_not : (found : Bool) (P Q : Type 0) → ¬ P → MatchBool found Q (¬ Q) → MatchBool found (P ⊎ Q) (¬ (P ⊎ Q))
second_or_not true P Q never is = inr is
second_or_not false P Q never none = λ either. elim either [ inl p ↦ never p | inr q ↦ none q ]
