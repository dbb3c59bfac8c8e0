-- An app that grows, argument by argument and command by command.
use Rattle.std.proofs.Common.{◌≡◌, ◌++◌, ◌+◌, ◌<◌, ◌∙◌, ◌∷◌, ℕ, Bool, List, [], ap, ap₂, append_assoc, false, get_or, length, map, not, sym, take, true}
use Rattle.std.specs.Prelude.{◌&&◌}
use Rattle.std.specs.List.{flat_map, fold}
use Rattle.std.proofs.lemmas.Bool.{and_parts, not-true}
use Rattle.std.proofs.lemmas.List.{append-nil, map-append, take_more}
use Rattle.std.proofs.lemmas.List.Sums.{fold-append}
use Rattle.std.proofs.lemmas.List.Concat.{flat_map-cons}
use Rattle.std.proofs.lemmas.Grind.{flat_map-append}
use Rattle.clap.specs.Words.{App, Rule, Shape, with_rule, with_subcommand}
use Rattle.command_line.specs.Grammar.{with_rules}

pub no_rules : (a : App) → a ≡ with_rules a []
no_rules a = ap (λ (rules : List Rule). record a { top = record a.top { rules = rules } }) (sym (append-nil a.top.rules))

joined : (a : App) (xs ys : List Rule) → with_rules (with_rules a xs) ys ≡ with_rules a (xs ++ ys)
joined a xs ys = ap (λ (rules : List Rule). record a { top = record a.top { rules = rules } }) (append_assoc a.top.rules xs ys)

module _ {X : Type 0} (xs : List X) (i : ℕ) (d : X) (inside : i < length xs) where
  -- one argument more
  pub rule_more : (f : X → Rule) (a b c : App) (r : Rule) → b ≡ with_rules a (map f (take i xs)) → r ≡ f (get_or xs i d)
      → c ≡ with_rule b r → c ≡ with_rules a (map f (take (i + 1) xs))
  rule_more f a b c r was is made =
      made ∙ ap₂ with_rule was is ∙ joined a (map f (take i xs)) (f (get_or xs i d) ∷ [])
      ∙ ap (with_rules a) (sym (map-append f (take i xs) (get_or xs i d ∷ [])))
      ∙ ap (λ (ys : List X). with_rules a (map f ys)) (sym (take_more xs i d inside))

  -- one group of arguments more
  pub rules_more : (f : X → List Rule) (a b c : App) → b ≡ with_rules a (flat_map f (take i xs))
      → c ≡ with_rules b (f (get_or xs i d)) → c ≡ with_rules a (flat_map f (take (i + 1) xs))
  rules_more f a b c was made =
      made ∙ ap (λ (x : App). with_rules x (f (get_or xs i d))) was ∙ joined a (flat_map f (take i xs)) (f (get_or xs i d))
      ∙ ap (λ (ys : List Rule). with_rules a (flat_map f (take i xs) ++ ys))
      (sym (flat_map-cons f (get_or xs i d) [] ∙ append-nil (f (get_or xs i d))))
      ∙ ap (with_rules a) (sym (flat_map-append f (take i xs) (get_or xs i d ∷ [])))
      ∙ ap (λ (ys : List X). with_rules a (flat_map f ys)) (sym (take_more xs i d inside))

  -- one command more
  pub shape_more : (f : X → Shape) (a b c : App) (s : Shape) → b ≡ fold with_subcommand a (map f (take i xs))
      → s ≡ f (get_or xs i d) → c ≡ with_subcommand b s → c ≡ fold with_subcommand a (map f (take (i + 1) xs))
  shape_more f a b c s was is made =
      made ∙ ap₂ with_subcommand was is ∙ sym (fold-append with_subcommand a (map f (take i xs)) (f (get_or xs i d) ∷ []))
      ∙ ap (fold with_subcommand a) (sym (map-append f (take i xs) (get_or xs i d ∷ [])))
      ∙ ap (λ (ys : List X). fold with_subcommand a (map f ys)) (sym (take_more xs i d inside))

-- the third of four tests fails
pub third_fails : (a b c d : Bool) → (a && (not b && (not c && d))) ≡ true → c ≡ false
third_fails a b c d all =
    let after : (not b && (not c && d)) ≡ true = (and_parts a (not b && (not c && d)) all).1 in
    let rest : (not c && d) ≡ true = (and_parts (not b) (not c && d) after).1 in
    not-true c (and_parts (not c) d rest).0
