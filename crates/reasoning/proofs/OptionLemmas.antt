-- Options and results.
use Rattle.std.proofs.Common.{◌≡◌, ◌⊎◌, Option, Some, None, IsSome, Result, Ok, Err, OnErr, inl, inr, refl, Bool, true, false, cond}
use Rattle.std.proofs.lemmas.Bool.{false≢true}

pub option_cases : {X : Type 0} (o : Option X) → (o ≡ None) ⊎ ((x : X) × (o ≡ Some x))
option_cases None = inl refl
option_cases (Some x) = inr (x, refl)

pub some-none : {X : Type 0} (x : X) → Some x ≡ None → ⊥
some-none x e = absurd cc

pub is_some-none : {X : Type 0} (o : Option X) → IsSome o → o ≡ None → ⊥
is_some-none None there e = false≢true there
is_some-none (Some x) there e = absurd cc

pub on_err : {T E : Type 0} (r : Result T E) (P : Type 0) → P → OnErr r P
on_err (Ok x) P h = tt
on_err (Err e) P h = h

-- what is there only under a condition
pub some_where : {X : Type 0} (b : Bool) (o : Option X) (x : X) → cond b o None ≡ Some x → (b ≡ true) × (o ≡ Some x)
some_where true o x e = (refl, e)
some_where false o x e = absurd cc
