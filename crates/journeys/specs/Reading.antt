-- Reading a journey's text from left to right.
use Rattle.std.specs.Prelude.{◌≡◌, ℕ, zero, suc, ◌+◌, ◌-◌, ◌*◌, ◌^◌, not, ◌&&◌, ◌==◌, nat_lt, List, [], ◌∷◌, length, take, drop, codes, Option, Some}
use Rattle.std.specs.Prelude.{None, Result, Ok, Err, if◌then◌else◌}
use Rattle.std.specs.Char.{is_ascii_digit}
use Rattle.std.specs.List.{prefix_len}
use Rattle.timetable.specs.declared.network.Footpath.{Footpath}
use Rattle.timetable.specs.declared.journey.Leg.{Leg}
use Rattle.timetable.specs.JourneyValue.{RideValue, JourneyValue}
use Rattle.journeys.specs.declared.text_fault.TextFault.{TextFault}
use Rattle.journeys.specs.declared.text_fault.TextFault.TheVariants.{BadText, OutOfMemory}

infixl 10 ◌>>=◌
abbrev pub ◌>>=◌ : {A B : Type 0} → Option A → (A → Option B) → Option B
(Some x) >>= f = f x
None >>= f = None

-- a function returned what reading gives: a value, seen by view, or `BadText` if reading gives nothing; or memory ran out
abbrev pub Fails : {Y : Type 0} → TextFault → Option Y → Type 0
Fails BadText read = read ≡ None
Fails OutOfMemory read = Unit {0}

abbrev pub Gives : {X Y : Type 0} → (X → Y) → Result X TextFault → Option Y → Type 0
Gives view (Ok x) read = read ≡ Some (view x)
Gives view (Err e) read = Fails e read

-- the number that digits show after those that were read
abbrev pub read_on : ℕ → List ℕ → ℕ
read_on n [] = n
read_on n (d ∷ ds) = read_on (10 * n + (d - 48)) ds

-- that number, if it has 32 bits at most
abbrev pub value_of : List ℕ → Option ℕ
value_of ds = if nat_lt (read_on 0 ds) (2 ^ 32) then Some (read_on 0 ds) else None

-- digits show a number if there is at least one, none is a leading zero, and the number has 32 bits at most
unfoldable pub number_of_digits : List ℕ → Option ℕ
number_of_digits [] = None
number_of_digits (d ∷ ds) =
    if d == 48 && not (length ds == 0) then None
    else value_of (d ∷ ds)

-- the number that all digits at the front show, and the bytes after them
unfoldable pub number_at : List ℕ → Option (ℕ × List ℕ)
number_at bytes = number_of_digits (take (prefix_len is_ascii_digit bytes) bytes) >>= λ n. Some (n, drop (prefix_len is_ascii_digit bytes) bytes)

unfoldable pub field_at : List ℕ → Option (ℕ × List ℕ)
field_at [] = None
field_at (b ∷ bytes) = if b == 32 then number_at bytes else None

unfoldable pub footpath_at : List ℕ → Option (Footpath × List ℕ)
footpath_at bytes = do
  from ← field_at bytes
  to ← field_at from.1
  secs ← field_at to.1
  Some (record { from = from.0; to = to.0; secs = secs.0 }, secs.1)

unfoldable pub leg_at : List ℕ → Option (Leg × List ℕ)
leg_at bytes = do
  first ← field_at bytes
  last ← field_at first.1
  Some (record { first = first.0; last = last.0 }, last.1)

-- the bytes after a word, if they begin with it
unfoldable pub after : List ℕ → List ℕ → Option (List ℕ)
after [] bytes = Some bytes
after (w ∷ word) [] = None
after (w ∷ word) (b ∷ bytes) = if w == b then after word bytes else None

-- what is read if the word comes, and what if it doesn't
abbrev pub if_after : {X : Type 0} → Option (List ℕ) → (List ℕ → X) → X → X
if_after None f x = x
if_after (Some rest) f x = f rest

-- the walks at the front, at most n, and the bytes after them
unfoldable pub walks_at : ℕ → List ℕ → Option (List Footpath × List ℕ)
walks_at zero bytes = Some ([], bytes)
walks_at (suc n) bytes =
    if_after (after (codes " walk") bytes) (λ rest. footpath_at rest >>= λ f. walks_at n f.1 >>= λ fs. Some (f.0 ∷ fs.0, fs.1)) (Some ([], bytes))

unfoldable pub ride_at_front : List ℕ → Option (RideValue × List ℕ)
ride_at_front bytes = do
  leg ← leg_at bytes
  walk ← walks_at (length leg.1) leg.1
  Some (record { leg = leg.0; walk = walk.0 }, walk.1)

-- the rides up to the end, at most n; the first is without its word
unfoldable pub rides_at : ℕ → List ℕ → Option (List RideValue)
rides_at zero bytes = None
rides_at (suc n) bytes = ride_at_front bytes >>= λ r.
    (if length r.1 == 0 then Some (r.0 ∷ [])
    else (after (codes " ride") r.1 >>= λ rest. rides_at n rest >>= λ rides. Some (r.0 ∷ rides)))

-- the start, and the bytes after the word of the first ride
unfoldable pub start_at : List ℕ → Option (Option Footpath × List ℕ)
start_at bytes =
    if_after (after (codes "walk") bytes) (λ rest. footpath_at rest >>= λ f. after (codes " ride") f.1 >>= λ rides. Some (Some f.0, rides))
    (after (codes "ride") bytes >>= λ rides. Some (None, rides))

unfoldable pub journey_at : List ℕ → Option JourneyValue
journey_at bytes = do
  start ← start_at bytes
  rides ← rides_at (length start.1) start.1
  Some (record { start = start.0; rides = rides })
