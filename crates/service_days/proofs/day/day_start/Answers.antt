use Rattle.std.proofs.Common.{◌≡◌, ◌<◌, ℤ, pos, neg_ℤ, subst, ◌+ℤ◌, ◌-ℤ◌, ◌*ℤ◌, ◌<ℤ◌, negsuc, FitsSigned, w64, arith, refl, inr}
use Rattle.std.specs.Int.RustNames.{int_div, int_rem, unsigned_abs}
use Rattle.std.proofs.lemmas.Int.{quot-rem, rem_below, to_z-of_z}
use Rattle.std.proofs.lemmas.Bool.{false≢true}
use Rattle.jiff.specs.Types.{DateTime}
use Rattle.jiff.specs.Words.{IsHms, IsTimestampNanos, ambiguous_at, compatible_offset, plain_zone, civil_nanos, nanos_of_seconds}
use Rattle.jiff.proofs.Family.{civil_nanos-parts}
use Rattle.jiff.proofs.SpanFacts.{signed_arith}
use Rattle.service_days.proofs.day.day_start.Goals as goal

small : (r : ℤ) → unsigned_abs r < 1_000_000_000 → (neg_ℤ (pos 1_000_000_000) <ℤ r) × (r <ℤ pos 1_000_000_000)
small (pos a) h = (omega (arith, signed_arith), omega (arith, signed_arith))
small (negsuc a) h = (omega (arith, signed_arith), omega (arith, signed_arith))

-- the instant of a whole second is a whole number of seconds
whole : (noon : DateTime) (off n q : ℤ) → IsHms (pos 12) (pos 0) (pos 0) (pos 0) noon.time
    → n ≡ civil_nanos noon -ℤ nanos_of_seconds off → q ≡ int_div n (pos 1_000_000_000)
    → q *ℤ pos 1_000_000_000 ≡ n
whole noon off n q hms at e =
    let r = small (int_rem n (pos 1_000_000_000)) (rem_below n (pos 1_000_000_000) (omega arith)) in
    let s : int_div n (pos 1_000_000_000) *ℤ pos 1_000_000_000 +ℤ int_rem n (pos 1_000_000_000) ≡ n = quot-rem n (pos 1_000_000_000) in
    omega (arith, signed_arith, civil_nanos-parts noon)

pub returns-in-Ok-clause-ok : goal.returns-in-Ok-clause-ok
returns-in-Ok-clause-ok c =
    let at = c.in-Ok.ensures.value in
    let second = whole c.at.result (compatible_offset (ambiguous_at (plain_zone c.time_zone.result) c.at.result)).seconds c.in-Ok.noon.nanosecond
    c.as_second.result c.at.ensures.time at c.as_second.ensures in
    let offsets = c.time_zone.ensures c.at.result in
    let range : IsTimestampNanos c.in-Ok.noon.nanosecond = c.in-Ok.noon.in_range in
    let fits : FitsSigned w64 c.as_second.result = omega (arith, signed_arith, second) in
    let less : FitsSigned w64 (c.as_second.result -ℤ pos 43200) = omega (arith, signed_arith, second) in
    let known = c.in-Some.ensures.some in (
      known.0,
      c.at.result,
      (rw c.at.ensures.date known.1, c.at.ensures.time),
      rw (← offsets) (subst (λ (n : ℤ). IsTimestampNanos n) at range),
      rw (to_z-of_z w64 c.as_second.result fits, to_z-of_z w64 (c.as_second.result -ℤ pos 43200) less)
          (rw (← offsets) (omega (arith, signed_arith, second, at))),
    )

pub returns-in-Err-clause-err : goal.returns-in-Err-clause-err
returns-in-Err-clause-err c =
    let known = c.in-Some.ensures.some in (
      refl,
      inr (
        c.at.result,
        (rw c.at.ensures.date known.1, c.at.ensures.time),
        λ h. absurd (false≢true (c.in-Err.ensures.succeeds.1 (rw (c.time_zone.ensures c.at.result) h))),
      ),
    )
