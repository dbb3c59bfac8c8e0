-- To add pieces one by one is to add them joined.
use Rattle.std.proofs.Common.{◌≡◌, ℕ, List, ◌++◌, ◌∙◌, ap, append_assoc}

by_two : (o a b : List ℕ) → (o ++ a) ++ b ≡ o ++ (a ++ b)
by_two o a b = simp append_assoc

by_three : (o a b c : List ℕ) → ((o ++ a) ++ b) ++ c ≡ o ++ ((a ++ b) ++ c)
by_three o a b c = simp append_assoc

by_four : (o a b c d : List ℕ) → (((o ++ a) ++ b) ++ c) ++ d ≡ o ++ (((a ++ b) ++ c) ++ d)
by_four o a b c d = simp append_assoc

by_five : (o a b c d e : List ℕ) → ((((o ++ a) ++ b) ++ c) ++ d) ++ e ≡ o ++ ((((a ++ b) ++ c) ++ d) ++ e)
by_five o a b c d e = simp append_assoc

pub two : (o p q a b : List ℕ) → p ≡ o ++ a → q ≡ p ++ b → q ≡ o ++ (a ++ b)
two o p q a b one last = last ∙ ap (λ x. x ++ b) one ∙ by_two o a b

pub three : (o p q s a b c : List ℕ) → p ≡ o ++ a → q ≡ p ++ b → s ≡ q ++ c → s ≡ o ++ ((a ++ b) ++ c)
three o p q s a b c one two last = last ∙ ap (λ x. x ++ c) (two ∙ ap (λ x. x ++ b) one) ∙ by_three o a b c

pub four : (o p q r s a b c d : List ℕ) → p ≡ o ++ a → q ≡ p ++ b → r ≡ q ++ c → s ≡ r ++ d → s ≡ o ++ (((a ++ b) ++ c) ++ d)
four o p q r s a b c d one two more last =
    last ∙ ap (λ x. x ++ d) (more ∙ ap (λ x. x ++ c) (two ∙ ap (λ x. x ++ b) one)) ∙ by_four o a b c d

pub five : (o p q r s t a b c d e : List ℕ) → p ≡ o ++ a → q ≡ p ++ b → r ≡ q ++ c → s ≡ r ++ d → t ≡ s ++ e
    → t ≡ o ++ ((((a ++ b) ++ c) ++ d) ++ e)
five o p q r s t a b c d e one two more most last =
    last ∙ ap (λ x. x ++ e) (most ∙ ap (λ x. x ++ d) (more ∙ ap (λ x. x ++ c) (two ∙ ap (λ x. x ++ b) one)))
    ∙ by_five o a b c d e
