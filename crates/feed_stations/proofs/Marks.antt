-- Marks of the indices that something holds of, one index at a time.
use Rattle.std.proofs.Common.{◌≡◌, ◌∙◌, ◌+◌, ◌<◌, ℕ, List, [], ◌∷◌, ◌++◌, get_or, length, sym, ap, subst, arith}
use Rattle.std.specs.Prelude.{Bool, false, MatchBool}
use Rattle.std.proofs.lemmas.List.{get_or_append_left, get_or_push, length-append}
use borrow.Author.Count.{below_more}
use Rattle.feed_stations.specs.Finding.{AreMarks}

pub marks_none : (P : ℕ → Type 0) (marks : List Bool) → marks ≡ [] → AreMarks P 0 marks
marks_none P marks none = (ap length none, λ k lt. absurd (omega (arith, lt)))

pub marks_more : (P : ℕ → Type 0) (n : ℕ) (marks new : List Bool) (here : Bool) → new ≡ marks ++ here ∷ [] → MatchBool here (P n) (¬ (P n))
    → AreMarks P n marks → AreMarks P (n + 1) new
marks_more P n marks new here grown is (long, each) = (
  ap length grown ∙ length-append marks (here ∷ []) ∙ ap (λ k. k + 1) long,
  below_more (λ k. MatchBool (get_or new k false) (P k) (¬ (P k))) n
      (λ k lt. subst (λ (x : Bool). MatchBool x (P k) (¬ (P k)))
      (sym (ap (λ xs. get_or xs k false) grown ∙ get_or_append_left marks (here ∷ []) false k (omega (arith, long, lt)))) (each k lt))
      (subst (λ (x : Bool). MatchBool x (P n) (¬ (P n))) (sym (ap (λ xs. get_or xs n false) grown ∙ get_or_push marks here false n long)) is),
)
