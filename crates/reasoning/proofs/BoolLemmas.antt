-- Boolean tests combined.
use Rattle.std.proofs.Common.{◌≡◌, ◌⊎◌, Bool, true, false, ◌&&◌, ◌||◌, MatchBool, inl, inr, refl}
use Rattle.std.proofs.lemmas.Bool.{true≢false, false≢true}

pub and-left : (x y : Bool) → (x && y) ≡ true → x ≡ true
and-left true y e = refl
and-left false y e = absurd (false≢true e)

pub and-right : (x y : Bool) → (x && y) ≡ true → y ≡ true
and-right true y e = e
and-right false y e = absurd (false≢true e)

-- one test, or else two
pub or_and : (x y z : Bool) → (x || (y && z)) ≡ true → (x ≡ true) ⊎ ((y ≡ true) × (z ≡ true))
or_and true y z e = inl refl
or_and false true true e = inr (refl, refl)
or_and false true false e = absurd (false≢true e)
or_and false false z e = absurd (false≢true e)

-- what is said by cases, where the case is known
pub where_true : (b : Bool) (P Q : Type 0) → b ≡ true → MatchBool b P Q → P
where_true true P Q e h = h
where_true false P Q e h = absurd (false≢true e)

pub where_false : (b : Bool) (P Q : Type 0) → b ≡ false → MatchBool b P Q → Q
where_false true P Q e h = absurd (true≢false e)
where_false false P Q e h = h
