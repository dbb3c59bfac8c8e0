-- The runs of days, one trip and one day at a time.
use Rattle.std.proofs.Common.{◌≡◌, ℕ, ◌+◌, ◌<◌, ◌≤◌, List, [], ◌∷◌, ◌++◌, length, get_or, map, min, take, Bool, true, refl, sym, ap, ◌∙◌}
use Rattle.std.proofs.Common.{subst, arith, length-append, append_assoc}
use Rattle.std.proofs.lemmas.List.{append-nil, flat_map_more, get_or-map, length-take-le, map-append, take_more}
use Rattle.gtfs_rows.specs.declared.values.Day.{Day}
use Rattle.gtfs_tables.specs.declared.tables.Feed.{Feed}
use Rattle.gtfs_tables.specs.declared.tables.Frequency.{Frequency}
use Rattle.gtfs_tables.specs.declared.tables.Trip.{Trip}
use Rattle.connections.specs.Counting.{IsCount}
use Rattle.connections.specs.Repeats.{rows_for}
use Rattle.connections.specs.Runs.{runs_at, runs_from, runs_of_days, runs_of_trip, runs_on}
use Rattle.connections.specs.declared.days.ServiceDay.{ServiceDay}
use Rattle.connections.specs.declared.runs.Run.{Run}

runs_push : (feed : Feed) (day : Day) (t position : ℕ) (trips : List Trip) (trip : Trip) → position ≡ t + length trips
    → runs_from feed day t (trips ++ trip ∷ []) ≡ runs_from feed day t trips ++ runs_at feed day position trip
runs_push feed day t position [] trip e = let same : position ≡ t = omega (arith, e) in rw same (append-nil (runs_at feed day t trip))
runs_push feed day t position (first ∷ trips) trip e =
    ap (λ rest. runs_at feed day t first ++ rest) (runs_push feed day (t + 1) position trips trip (omega (arith, e)))
    ∙ sym (append_assoc (runs_at feed day t first) (runs_from feed day (t + 1) trips) (runs_at feed day position trip))

-- the runs of one trip more
pub runs_more : (feed : Feed) (day : Day) (trips : List Trip) (i : ℕ) (d : Trip) → i < length trips
    → runs_from feed day 0 (take (i + 1) trips) ≡ runs_from feed day 0 (take i trips) ++ runs_at feed day i (get_or trips i d)
runs_more feed day trips i d lt =
    let len : length (take i trips) ≡ i = length-take-le i trips (omega arith) in
    ap (λ ts. runs_from feed day 0 ts) (take_more trips i d lt) ∙ runs_push feed day 0 i (take i trips) (get_or trips i d) (omega (arith, len))

-- their number
pub runs_count : (feed : Feed) (day : Day) (trips : List Trip) (i : ℕ) (d : Trip) → i < length trips
    → length (runs_from feed day 0 (take (i + 1) trips)) ≡ length (runs_from feed day 0 (take i trips)) + length (runs_at feed day i (get_or trips i d))
runs_count feed day trips i d lt = ap length (runs_more feed day trips i d lt)
    ∙ length-append (runs_from feed day 0 (take i trips)) (runs_at feed day i (get_or trips i d))

-- the runs of a trip that runs that day, and of one that doesn't
pub runs_here : (feed : Feed) (day : Day) (t : ℕ) (trip : Trip) (rows : List Frequency) (b : Bool) → b ≡ true → b ≡ runs_on feed day trip
    → rows ≡ rows_for feed.frequencies.items t → runs_of_trip rows day t trip ≡ runs_at feed day t trip
runs_here feed day t trip rows b runs_so is same = let on : runs_on feed day trip ≡ true = sym is ∙ runs_so in rw (on, same) refl

-- the runs of one day more
pub days_more : (feed : Feed) (days : List ServiceDay) (i : ℕ) (d : ServiceDay) → i < length days
    → runs_of_days feed (map (λ day. day.day) (take (i + 1) days)) ≡ runs_of_days feed (map (λ day. day.day) (take i days)) ++ runs_from feed
    (get_or days i d).day 0 feed.trips.items
days_more feed days i d lt =
    ap (λ ds. runs_of_days feed (map (λ (day : ServiceDay). day.day) ds)) (take_more days i d lt)
    ∙ ap (runs_of_days feed) (map-append (λ (day : ServiceDay). day.day) (take i days) (get_or days i d ∷ []))
    ∙ sym (flat_map_more (λ day. runs_from feed day 0 feed.trips.items) [] (map (λ day. day.day) (take i days)) (get_or days i d).day)

-- the steps of the loops
pub runs_step : (feed : Feed) (day : Day) (trips : List Trip) (i : ℕ) (trip : Trip) (old before new : List Run) → i < length trips → trip ≡ get_or trips i trip
    → before ≡ old ++ runs_from feed day 0 (take i trips) → new ≡ before ++ runs_at feed day i trip → new ≡ old ++ runs_from feed day 0 (take (i + 1) trips)
runs_step feed day trips i trip old before new lt is was now =
    let more : runs_from feed day 0 (take (i + 1) trips) ≡ runs_from feed day 0 (take i trips) ++ runs_at feed day i trip =
    runs_more feed day trips i trip lt ∙ ap (λ (t : Trip). runs_from feed day 0 (take i trips) ++ runs_at feed day i t) (sym is) in
    now ∙ ap (λ rs. rs ++ runs_at feed day i trip) was ∙ append_assoc old (runs_from feed day 0 (take i trips)) (runs_at feed day i trip)
    ∙ ap (λ rs. old ++ rs) (sym more)

-- a count more
pub count_more : (most count n more m new room : ℕ) → IsCount most count n → more ≡ m → count ≤ most → most < room
    → new ≡ min (count + more) room → IsCount most new (n + m)
count_more most count n more m new room was adds low high now =
    let before : count ≡ n = was.exact low in
    record {
      exact = λ (le : new ≤ most). omega (arith, le, now, high, before, adds);
      many = λ (lt : most < new). omega (arith, lt, now, before, adds);
    }

-- nothing is counted any more
pub count_over : (most count n all : ℕ) → IsCount most count n → most < count → n ≤ all → IsCount most count all
count_over most count n all was over le = record {
  exact = λ (under : count ≤ most). absurd (omega (arith, under, over));
  many = λ (lt : most < count). let beyond : most < n = was.many lt in omega (arith, beyond, le);
}

-- whether the trip at an index runs
pub running_at : (feed : Feed) (day : Day) (trips : List Trip) (running : List Bool) (i : ℕ) (trip : Trip) (d : Bool)
    → running ≡ map (runs_on feed day) trips → i < length trips → trip ≡ get_or trips i trip → get_or running i d ≡ runs_on feed day trip
running_at feed day trips running i trip d are lt is =
    ap (λ bs. get_or bs i d) are ∙ get_or-map (runs_on feed day) trips i trip d lt ∙ ap (runs_on feed day) (sym is)

pub running_more : (feed : Feed) (day : Day) (trips : List Trip) (running new : List Bool) (i : ℕ) (trip : Trip) (b : Bool)
    → running ≡ map (runs_on feed day) (take i trips) → i < length trips → trip ≡ get_or trips i trip → b ≡ runs_on feed day trip
    → new ≡ running ++ b ∷ [] → new ≡ map (runs_on feed day) (take (i + 1) trips)
running_more feed day trips running new i trip b was lt is fact now =
    now ∙ ap (λ bs. bs ++ b ∷ []) was ∙ ap (λ x. map (runs_on feed day) (take i trips) ++ x ∷ []) (fact ∙ ap (runs_on feed day) is)
    ∙ sym (ap (map (runs_on feed day)) (take_more trips i trip lt) ∙ map-append (runs_on feed day) (take i trips) (get_or trips i trip ∷ []))

-- a count that goes on from others
pub count_begun : (most count n : ℕ) → IsCount most count n → IsCount most count (n + 0)
count_begun most count n was = (let same : n ≡ n + 0 = omega arith in subst (λ (k : ℕ). IsCount most count k) same was)

pub count_step : (feed : Feed) (day : Day) (trips : List Trip) (i : ℕ) (trip : Trip) (most before count : ℕ) → i < length trips
    → trip ≡ get_or trips i trip
    → IsCount most count (before + length (runs_from feed day 0 (take i trips)) + length (runs_at feed day i trip))
    → IsCount most count (before + length (runs_from feed day 0 (take (i + 1) trips)))
count_step feed day trips i trip most before count lt is was =
    let here : length (runs_at feed day i (get_or trips i trip)) ≡ length (runs_at feed day i trip) =
    sym (ap (λ (t : Trip). length (runs_at feed day i t)) is) in
    let more : length (runs_from feed day 0 (take (i + 1) trips)) ≡ length (runs_from feed day 0 (take i trips)) + length (runs_at feed day i trip) =
    runs_count feed day trips i trip lt ∙ ap (λ k. length (runs_from feed day 0 (take i trips)) + k) here in
    let all : before + length (runs_from feed day 0 (take i trips)) + length (runs_at feed day i trip)
    ≡ before + length (runs_from feed day 0 (take (i + 1) trips)) = omega (arith, more) in
    subst (λ (k : ℕ). IsCount most count k) all was

pub days_step : (feed : Feed) (days : List ServiceDay) (i : ℕ) (day : ServiceDay) (before new : List Run) → i < length days → day ≡ get_or days i day
    → before ≡ runs_of_days feed (map (λ d. d.day) (take i days)) → new ≡ before ++ runs_from feed day.day 0 feed.trips.items
    → new ≡ runs_of_days feed (map (λ d. d.day) (take (i + 1) days))
days_step feed days i day before new lt is was now =
    now ∙ ap (λ rs. rs ++ runs_from feed day.day 0 feed.trips.items) was
    ∙ ap (λ (d : ServiceDay). runs_of_days feed (map (λ d. d.day) (take i days)) ++ runs_from feed d.day 0 feed.trips.items) is
    ∙ sym (days_more feed days i day lt)

pub days_count_step : (feed : Feed) (days : List Day) (i : ℕ) (d : Day) (most count : ℕ) → i < length days
    → IsCount most count (length (runs_of_days feed (take i days)) + length (runs_from feed (get_or days i d) 0 feed.trips.items))
    → IsCount most count (length (runs_of_days feed (take (i + 1) days)))
days_count_step feed days i d most count lt was =
    let more : runs_of_days feed (take (i + 1) days) ≡ runs_of_days feed (take i days) ++ runs_from feed (get_or days i d) 0 feed.trips.items =
    ap (runs_of_days feed) (take_more days i d lt)
    ∙ sym (flat_map_more (λ day. runs_from feed day 0 feed.trips.items) [] (take i days) (get_or days i d)) in
    subst (λ (k : ℕ). IsCount most count k)
    (sym (ap length more ∙ length-append (runs_of_days feed (take i days)) (runs_from feed (get_or days i d) 0 feed.trips.items))) was
