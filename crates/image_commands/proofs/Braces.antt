-- An object of JSON without its brace.
use Rattle.std.proofs.Common.{◌≡◌, ◌≢◌, ◌==◌, ℕ, Bool, true, false, List, [], ◌∷◌, refl, ap, if◌then◌else◌, sym}
use Rattle.std.proofs.lemmas.Bool.{eqb-true}
use Rattle.image_commands.specs.Listing.{without_brace}

pub with_brace : (object rest : List ℕ) → object ≡ 123 ∷ rest → rest ≡ without_brace object
with_brace object rest is = sym (ap without_brace is)

pub no_brace : (object : List ℕ) → ((rest : List ℕ) → object ≢ 123 ∷ rest) → object ≡ without_brace object
no_brace [] none = refl
no_brace (first ∷ rest) none = as_it_is (first == 123) refl
  where
    as_it_is : (is : Bool) → (first == 123) ≡ is → first ∷ rest ≡ (if is then rest else first ∷ rest)
    as_it_is false e = refl
    as_it_is true e = absurd (none rest (ap (λ n. n ∷ rest) (eqb-true first 123 e)))
