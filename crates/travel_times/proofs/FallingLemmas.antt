-- Sums of numbers that fall by one.
use Rattle.std.proofs.Common.{◌≡◌, ◌<◌, ◌≤◌, ◌+◌, ◌-◌, ◌*◌, ◌/◌, ℕ, zero, suc, refl, sym, ◌∙◌, ap, arith, min, inl, inr}
use Rattle.std.proofs.lemmas.Bool.{cases_lt}
use Rattle.travel_times.specs.Falling.{falling}

-- no number
pub falling_zero : (top : ℕ) → falling top 0 ≡ 0
unfolding falling
falling_zero zero = refl
falling_zero (suc top) = refl

-- one number, and the others
pub falling_next : (top count : ℕ) → falling top (suc count) ≡ top + falling (top - 1) count
unfolding falling
falling_next zero count = (let e : 0 ≡ 0 + 0 = omega arith in e)
falling_next (suc top) count = (let e : top ≡ suc top - 1 = omega arith in ap (λ t. suc top + falling t count) e)

step_twice : (top count rest : ℕ) → 2 * rest + count * count ≡ 2 * (count * top) + count
    → 2 * (suc top + rest) + suc count * suc count ≡ 2 * (suc count * suc top) + suc count
step_twice top count rest before = omega (arith, before)

-- twice the sum, as long as it doesn't reach 0
falling_twice : (top count : ℕ) → count ≤ top → 2 * falling top count + count * count ≡ 2 * (count * top) + count
unfolding falling
falling_twice zero zero le = (let e : 2 * 0 + 0 * 0 ≡ 2 * (0 * 0) + 0 = omega arith in e)
falling_twice zero (suc count) le = absurd (omega (arith, le))
falling_twice (suc top) zero le = (let e : 2 * 0 + 0 * 0 ≡ 2 * (0 * suc top) + 0 = omega arith in e)
falling_twice (suc top) (suc count) le = step_twice top count (falling top count) (falling_twice top count (omega (arith, le)))

-- past that it stays as it is
falling_past : (top count : ℕ) → top ≤ count → falling top count ≡ falling top top
unfolding falling
falling_past zero count le = refl
falling_past (suc top) zero le = absurd (omega (arith, le))
falling_past (suc top) (suc count) le = ap (λ rest. suc top + rest) (falling_past top count (omega (arith, le)))

falling_least : (top count least : ℕ) → least ≡ min count top → falling top count ≡ falling top least
falling_least top count least is = elim (cases_lt count top) [
  | inl less ↦ ap (falling top) (omega (arith, is, less))
  | inr not_less ↦ (let e : top ≡ least = omega (arith, is, not_less) in falling_past top count (omega (arith, not_less)) ∙ ap (falling top) e)
]

pub falling_none : (top count least : ℕ) → least ≡ min count top → least ≡ 0 → 0 ≡ falling top count
falling_none top count least is none = sym (falling_least top count least is ∙ ap (falling top) none ∙ falling_zero top)

less_one : (count : ℕ) → 0 < count → count * (count - 1) + count ≡ count * count
less_one zero some = absurd (omega (arith, some))
less_one (suc count) some = (let e : suc count - 1 ≡ count = omega arith in ap (λ k. suc count * k + suc count) e ∙ omega arith)

half_less : (whole half product square count : ℕ) → 2 * half + square ≡ 2 * whole + count → product + count ≡ square → whole - product / 2 ≡ half
half_less whole half product square count twice less = omega (arith, twice, less)

pub falling_closed : (top count least : ℕ) → least ≡ min count top → 0 < least → least * top - least * (least - 1) / 2 ≡ falling top count
falling_closed top count least is some =
    half_less (least * top) (falling top least) (least * (least - 1)) (least * least) least
    (falling_twice top least (omega (arith, is))) (less_one least some)
    ∙ sym (falling_least top count least is)
