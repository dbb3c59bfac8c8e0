-- Texts no two of which are alike.
use Rattle.std.proofs.Common.{◌≡◌, ◌≢◌, ◌+◌, ◌<◌, ◌∙◌, ℕ, Bool, List, [], ap, arith, false, get_or, length, map, subst, sym, take, true}
use Rattle.std.specs.List.{All}
use Rattle.std.specs.Str.{bytes_eq}
use Rattle.std.proofs.lemmas.Bool.{true≢false}
use Rattle.std.proofs.lemmas.Grind.{common_steps}
use Rattle.std.proofs.lemmas.List.{get_or-map, get_or-take, map_more}
use Rattle.std.proofs.lemmas.List.Quantifiers.{all_pairs_push}
use Rattle.std.proofs.lemmas.Slice.Eq.{bytes_eq-Decides}
use Rattle.clap.specs.Words.{Text}
use Rattle.command_line.specs.Requests.{AreDistinct}

-- what a test of two texts says
pub same_text : (test : Bool) (a b : Text) → test ≡ bytes_eq a b → test ≡ true → a ≡ b
same_text test a b is holds = (bytes_eq-Decides a b).0 (sym is ∙ holds)

pub other_text : (test : Bool) (a b : Text) → test ≡ bytes_eq a b → test ≡ false → a ≢ b
other_text test a b is fails = λ same. true≢false (sym ((bytes_eq-Decides a b).1 same) ∙ sym is ∙ fails)

module _ {X : Type 0} (f : X → Text) (xs : List X) (i : ℕ) (d : X) (inside : i < length xs) where
  -- one text more, unlike those before it
  pub distinct_more : AreDistinct (map f (take i xs)) → All (λ other. other ≢ f (get_or xs i d)) (map f (take i xs))
      → AreDistinct (map f (take (i + 1) xs))
  distinct_more before new = subst AreDistinct (sym (map_more f xs i d inside))
      (all_pairs_push (λ (a b : Text). a ≢ b) (map f (take i xs)) (f (get_or xs i d)) before new)

  -- one that was there before
  pub not_distinct : (k : ℕ) → k < length (take i xs) → get_or (map f (take i xs)) k [] ≡ f (get_or xs i d) → ¬ (AreDistinct (map f xs))
  not_distinct k early same distinct =
      let first : k < i = grind (arith, common_steps) in
      let last : i < length (map f xs) = grind (arith, common_steps) in
      distinct k i [] first last
      (get_or-map f xs k d [] (omega arith) ∙ ap f (sym (get_or-take i xs k d first)) ∙ sym (get_or-map f (take i xs) k d [] early) ∙ same
      ∙ sym (get_or-map f xs i d [] inside))
