-- Comparisons of numbers and of texts.
use Rattle.std.proofs.Common.{◌≡◌, ◌⊎◌, ℕ, ◌<◌, ◌==◌, true, false, List, inl, inr, refl, sym, ◌∙◌, ap, arith}
use Rattle.std.specs.Str.{bytes_eq}
use Rattle.std.specs.declared.cmp.Ordering.{Ordering}
use Rattle.std.specs.declared.cmp.Ordering.TheVariants.{Less, Equal, Greater}
use Rattle.std.specs.Ordering.{is_lt, nat_cmp}
use Rattle.std.proofs.lemmas.Bool.{true≢false, eq-eqb, false_from_ne_true}
use Rattle.std.proofs.lemmas.Bool.Decides.{nat_tests}
use Rattle.std.proofs.lemmas.Slice.Eq.{bytes_eq-Decides}

pub own_equal : (n : ℕ) → (n == n) ≡ true
own_equal n = eq-eqb n n refl

pub nat_less : (m n : ℕ) → m < n → nat_cmp m n ≡ Less
nat_less m n less = grind (arith, nat_tests)

pub nat_equal : (m n : ℕ) → m ≡ n → nat_cmp m n ≡ Equal
nat_equal m n same = grind (arith, nat_tests)

-- which of the three an ordering is
pub which_ordering : (o : Ordering) → (o ≡ Less) ⊎ ((o ≡ Equal) ⊎ (o ≡ Greater))
which_ordering Less = inl refl
which_ordering Equal = inr (inl refl)
which_ordering Greater = inr (inr refl)

pub is_lt-true : (o : Ordering) → is_lt o ≡ true → o ≡ Less
is_lt-true Less e = refl
is_lt-true Equal e = absurd (true≢false (sym e))
is_lt-true Greater e = absurd (true≢false (sym e))

pub is_lt-false : (o : Ordering) → is_lt o ≡ false → o ≡ Less → ⊥
is_lt-false o e less = true≢false (sym (ap is_lt less) ∙ e)

-- texts that differ do so in the other order
pub texts_differ : (a b : List ℕ) → bytes_eq a b ≡ false → bytes_eq b a ≡ false
texts_differ a b e =
    false_from_ne_true (bytes_eq b a) (λ same.
    let is : b ≡ a = (bytes_eq-Decides b a).0 same in
    true≢false (sym ((bytes_eq-Decides a b).1 (sym is)) ∙ e))
