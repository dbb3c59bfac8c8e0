-- The sums of waits over the seconds of a window.
use Rattle.std.proofs.Common.{◌≡◌, ◌<◌, ◌≤◌, ◌+◌, ◌-◌, ℕ, zero, suc, leb, cond, List, [], ◌∷◌, ◌++◌, Option, Some, None}
use Rattle.std.proofs.Common.{refl, sym, ◌∙◌, ap, subst, inl, inr, arith, filter, map, option_map}
use Rattle.std.specs.List.{AllByRecursion, range_with_len}
use Rattle.std.proofs.lemmas.Bool.{le-leb, lt-leb}
use Rattle.std.proofs.lemmas.Bool.Decides.{leb_tells}
use Rattle.std.proofs.lemmas.List.{map-append}
use Rattle.std.proofs.lemmas.Option.{none-some, same_Some}
use Rattle.travel_times.specs.Figures.{arrivals_from, least_of, sum_of_all, wait, waits}
use Rattle.travel_times.specs.Falling.{falling}
use Rattle.travel_times.specs.Tally.{AreFrom}
use Rattle.travel_times.proofs.FallingLemmas.{falling_next, falling_zero}
use Rattle.travel_times.specs.declared.spans.Span.{Span}

-- what a number more makes of a sum
plus_some : (n : ℕ) (sum : Option ℕ) (all : ℕ) → option_map (λ s. n + s) sum ≡ Some all → (s : ℕ) × (sum ≡ Some s) × (n + s ≡ all)
plus_some n None all is = absurd (none-some all is)
plus_some n (Some s) all is = (s, refl, same_Some (n + s) all is)

-- the sum of numbers, and of others after them
sum_append : (numbers others : List (Option ℕ)) (sum rest : ℕ) → sum_of_all numbers ≡ Some sum → sum_of_all others ≡ Some rest
    → sum_of_all (numbers ++ others) ≡ Some (sum + rest)
unfolding sum_of_all
sum_append [] others sum rest is after =
    let none : 0 ≡ sum = same_Some 0 sum is in
    let e : rest ≡ sum + rest = omega (arith, none) in
    after ∙ ap (λ (s : ℕ). Some s) e
sum_append (None ∷ numbers) others sum rest is after = absurd (none-some sum is)
sum_append (Some n ∷ numbers) others sum rest is after =
    let parts = plus_some n (sum_of_all numbers) sum is in
    let more : sum_of_all (numbers ++ others) ≡ Some (parts.0 + rest) = sum_append numbers others parts.0 rest parts.1 after in
    let grouped : n + (parts.0 + rest) ≡ sum + rest = (let e = parts.2 in omega (arith, e)) in
    ap (option_map (λ s. n + s)) more ∙ ap (λ (s : ℕ). Some s) grouped

range_append : (second count more : ℕ) → range_with_len second (count + more) ≡ range_with_len second count ++ range_with_len (second + count) more
range_append second zero more =
    let none : 0 + more ≡ more = omega arith in
    let e : second ≡ second + 0 = omega arith in
    ap (range_with_len second) none ∙ ap (λ s. range_with_len s more) e
range_append second (suc count) more =
    let e : second + 1 + count ≡ second + suc count = omega arith in
    let one : suc count + more ≡ suc (count + more) = omega arith in
    ap (range_with_len second) one ∙ ap (λ (rest : List ℕ). second ∷ rest) (range_append (second + 1) count more
    ∙ ap (λ s. range_with_len (second + 1) count ++ range_with_len s more) e)

-- the waits of two runs of seconds, the second after the first
pub waits_join : (spans : List Span) (second count more sum rest : ℕ) → waits spans second count ≡ Some sum
    → waits spans (second + count) more ≡ Some rest → waits spans second (count + more) ≡ Some (sum + rest)
waits_join spans second count more sum rest is after =
    ap sum_of_all (ap (map (wait spans)) (range_append second count more)
    ∙ map-append (wait spans) (range_with_len second count) (range_with_len (second + count) more))
    ∙ sum_append (map (wait spans) (range_with_len second count)) (map (wait spans) (range_with_len (second + count) more)) sum rest is after

-- lists with the same waits
pub waits_same : (spans others : List Span) (second count : ℕ)
    → ((s : ℕ) → second ≤ s → s < second + count → wait spans s ≡ wait others s) → waits spans second count ≡ waits others second count
waits_same spans others second count same = ap sum_of_all (waits_of second count same)
  where
    waits_of : (second count : ℕ) → ((s : ℕ) → second ≤ s → s < second + count → wait spans s ≡ wait others s)
        → map (wait spans) (range_with_len second count) ≡ map (wait others) (range_with_len second count)
    waits_of second zero same = refl
    waits_of second (suc count) same =
        let first : wait spans second ≡ wait others second = same second (omega arith) (omega arith) in
        let rest = waits_of (second + 1) count (λ s from below. same s (omega (arith, from)) (omega (arith, below))) in
        ap (λ w. w ∷ map (wait spans) (range_with_len (second + 1) count)) first
        ∙ ap (λ (ws : List (Option ℕ)). wait others second ∷ ws) rest

-- waits for one arrival
pub waits_falling : (spans : List Span) (arrival second count : ℕ)
    → ((s : ℕ) → second ≤ s → s < second + count → wait spans s ≡ Some (arrival - s))
    → waits spans second count ≡ Some (falling (arrival - second) count)
unfolding sum_of_all
waits_falling spans arrival second zero is = ap (λ (n : ℕ). Some n) (sym (falling_zero (arrival - second)))
waits_falling spans arrival second (suc count) is =
    let first : wait spans second ≡ Some (arrival - second) = is second (omega arith) (omega arith) in
    let less : arrival - (second + 1) ≡ arrival - second - 1 = omega arith in
    let rest : waits spans (second + 1) count ≡ Some (falling (arrival - (second + 1)) count) =
    waits_falling spans arrival (second + 1) count (λ s from below. is s (omega (arith, from)) (omega (arith, below))) in
    ap (λ (w : Option ℕ). sum_of_all (w ∷ map (wait spans) (range_with_len (second + 1) count))) first
    ∙ ap (option_map (λ s. arrival - second + s)) (rest ∙ ap (λ top. Some (falling top count)) less)
    ∙ ap (λ (n : ℕ). Some n) (sym (falling_next (arrival - second) count))

-- a second without a wait
pub waits_none : (spans : List Span) (second count missing : ℕ) → second ≤ missing → missing < second + count
    → wait spans missing ≡ None → waits spans second count ≡ None
unfolding sum_of_all
waits_none spans second zero missing from below is = absurd (omega (arith, from, below))
waits_none spans second (suc count) missing from below is = elim (leb_tells (second + 1) missing) [
  | inl later ↦ (let rest = waits_none spans (second + 1) count missing later.1 (omega (arith, below)) is in
      before_none (wait spans second) (map (wait spans) (range_with_len (second + 1) count)) rest)
  | inr here ↦ (let same : missing ≡ second = (let h = here.1 in omega (arith, from, h)) in
      ap (λ (w : Option ℕ). sum_of_all (w ∷ map (wait spans) (range_with_len (second + 1) count))) (subst (λ s. wait spans s ≡ None) same is))
]
  where
    before_none : (n : Option ℕ) (numbers : List (Option ℕ)) → sum_of_all numbers ≡ None → sum_of_all (n ∷ numbers) ≡ None
    before_none None numbers is = refl
    before_none (Some n) numbers is = ap (option_map (λ s. n + s)) is

-- a departure before a second is of no use then
pub wait_skips : (span : Span) (later : List Span) (second : ℕ) → span.departure < second → wait (span ∷ later) second ≡ wait later second
wait_skips span later second before =
    let dropped : arrivals_from (span ∷ later) second ≡ arrivals_from later second =
    ap (λ b. map (λ (s : Span). s.arrival) (cond b (span ∷ filter (λ (s : Span). leb second s.departure) later)
    (filter (λ (s : Span). leb second s.departure) later))) (lt-leb second span.departure before) in
    ap (λ (arrivals : List ℕ). option_map (λ arrival. arrival - second) (least_of arrivals)) dropped

-- all departures at or after a second are of use then
all_kept : (spans : List Span) (second : ℕ) → AreFrom second spans → filter (λ (s : Span). leb second s.departure) spans ≡ spans
all_kept [] second from = refl
all_kept (span ∷ spans) second from =
    ap (λ b. cond b (span ∷ filter (λ (s : Span). leb second s.departure) spans) (filter (λ (s : Span). leb second s.departure) spans))
    (le-leb second span.departure from.0)
    ∙ ap (λ (rest : List Span). span ∷ rest) (all_kept spans second from.1)

pub wait_of_all : (spans : List Span) (second earliest : ℕ) → AreFrom second spans
    → least_of (map (λ span. span.arrival) spans) ≡ Some earliest → wait spans second ≡ Some (earliest - second)
wait_of_all spans second earliest from is =
    ap (λ (some : List Span). option_map (λ arrival. arrival - second) (least_of (map (λ (s : Span). s.arrival) some))) (all_kept spans second from)
    ∙ ap (option_map (λ arrival. arrival - second)) is

-- none at or after it
pub wait_of_none : (spans : List Span) (second : ℕ) → AllByRecursion (λ span. span.departure < second) spans → wait spans second ≡ None
unfolding least_of
wait_of_none [] second before = refl
wait_of_none (span ∷ spans) second before = wait_skips span spans second before.0 ∙ wait_of_none spans second before.1
