-- The figures of a list of departures, in order, each with its arrival.
use Rattle.std.specs.Prelude.{◌+◌, ◌-◌, ◌*◌, ◌/◌, ◌≤◌, ℕ, nat_le, List, [], ◌∷◌, Option, None, Some, AllPairs, filter, map, min, option_map}
use Rattle.std.specs.List.{range_with_len}
use Rattle.travel_times.specs.declared.spans.Span.{Span}

-- the seconds from a departure to its arrival
abbrev pub travel : Span → ℕ
travel span = span.arrival - span.departure

-- the lesser of a number and one that may be missing
abbrev pub lesser : ℕ → Option ℕ → ℕ
lesser n None = n
lesser n (Some m) = min n m

-- the least of some numbers
unfoldable pub least_of : List ℕ → Option ℕ
least_of [] = None
least_of (n ∷ ns) = Some (lesser n (least_of ns))

-- the arrivals of the departures at or after a second
abbrev pub arrivals_from : List Span → ℕ → List ℕ
arrivals_from spans second = map (λ span. span.arrival) (filter (λ span. nat_le second span.departure) spans)

-- the seconds from a second until the earliest of these arrivals
abbrev pub wait : List Span → ℕ → Option ℕ
wait spans second = option_map (λ arrival. arrival - second) (least_of (arrivals_from spans second))

-- the sum of numbers, if none is missing
unfoldable pub sum_of_all : List (Option ℕ) → Option ℕ
sum_of_all [] = Some 0
sum_of_all (None ∷ numbers) = None
sum_of_all (Some n ∷ numbers) = option_map (λ sum. n + sum) (sum_of_all numbers)

-- the sum of the waits of `count` seconds, from a second on
abbrev pub waits : List Span → ℕ → ℕ → Option ℕ
waits spans second count = sum_of_all (map (wait spans) (range_with_len second count))

-- a sum divided by a count, rounded to the nearest whole number, halves up
abbrev pub rounded : ℕ → ℕ → ℕ
rounded sum count = (2 * sum + count) / (2 * count)

-- the mean over each second of a window of the wait from it on, if no second has none
abbrev pub mean_wait : List Span → ℕ → ℕ → Option ℕ
mean_wait spans after until = option_map (λ sum. rounded sum (until + 1 - after)) (waits spans after (until + 1 - after))

-- departures are in order
abbrev pub AreInOrder : List Span → Type 0
AreInOrder spans = AllPairs (λ one later. one.departure ≤ later.departure) spans
