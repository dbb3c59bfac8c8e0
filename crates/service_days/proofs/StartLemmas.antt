-- A day's noon is one datetime, and so its start is one second.
use Rattle.std.proofs.Common.{◌≡◌, ◌∙◌, sym, ap, refl, subst, ℕ, ℤ, pos, ◌+ℤ◌, arith, inl, inr}
use Rattle.std.proofs.lemmas.Bool.{false≢true}
use Rattle.jiff.specs.Types.{DateTime}
use Rattle.jiff.specs.Words.{civil_nanos, nanos_of_seconds, IsTimestampNanos}
use Rattle.jiff.proofs.Family.{same_datetime}
use Rattle.jiff.proofs.SpanFacts.{signed_arith}
use Rattle.gtfs_rows.specs.declared.values.Day.{Day}
use Rattle.service_days.specs.Zones.{HasNoStart, IsDayStart, IsNoon, instant_in}
use Rattle.service_days.specs.declared.zone.Zone.{Zone}

same_number : (a b : ℕ) (z : ℤ) → pos a ≡ z → pos b ≡ z → a ≡ b
same_number a b z p q = let e : pos a ≡ pos b = p ∙ sym q in cc

same_nanos : (day : Day) (a b : DateTime) → IsNoon day a → IsNoon day b → civil_nanos a ≡ civil_nanos b
unfolding civil_nanos
same_nanos day a b p q =
    let year : a.date.year ≡ b.date.year = p.0.0 ∙ sym q.0.0 in
    let month : a.date.month ≡ b.date.month = same_number a.date.month b.date.month (pos day.month) p.0.1 q.0.1 in
    let date : a.date.day ≡ b.date.day = same_number a.date.day b.date.day (pos day.day) p.0.2 q.0.2 in
    let hour : a.time.hour ≡ b.time.hour = same_number a.time.hour b.time.hour (pos 12) p.1.0 q.1.0 in
    let minute : a.time.minute ≡ b.time.minute = same_number a.time.minute b.time.minute (pos 0) p.1.1 q.1.1 in
    let second : a.time.second ≡ b.time.second = same_number a.time.second b.time.second (pos 0) p.1.2 q.1.2 in
    let rest : a.time.subsec_nanosecond ≡ b.time.subsec_nanosecond = same_number a.time.subsec_nanosecond b.time.subsec_nanosecond (pos 0) p.1.3 q.1.3 in
    rw (year, month, date, hour, minute, second, rest) refl

pub same_noon : (day : Day) (a b : DateTime) → IsNoon day a → IsNoon day b → a ≡ b
same_noon day a b p q = same_datetime a b (same_nanos day a b p q)

pub same_start : (zone : Zone) (day : Day) (start other : ℤ) → IsDayStart zone day start → IsDayStart zone day other → start ≡ other
same_start zone day start other p q =
    let noon : p.1 ≡ q.1 = same_noon day p.1 q.1 p.2 q.2 in
    let at : nanos_of_seconds (start +ℤ pos 43_200) ≡ nanos_of_seconds (other +ℤ pos 43_200) = p.4 ∙ ap (instant_in zone) noon ∙ sym q.4 in
    omega (arith, signed_arith, at)

pub never_both : (zone : Zone) (day : Day) (start : ℤ) → IsDayStart zone day start → HasNoStart zone day → ⊥
never_both zone day start p (inl none) = false≢true (sym none ∙ p.0)
never_both zone day start p (inr without) =
    let noon : p.1 ≡ without.0 = same_noon day p.1 without.0 p.2 without.1 in
    without.2 (subst (λ (at : DateTime). IsTimestampNanos (instant_in zone at)) noon p.3)
