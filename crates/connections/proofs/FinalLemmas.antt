-- The outcome, put together.
use Rattle.std.proofs.Common.{◌≡◌, ℕ, suc, ℤ, ◌+◌, ◌<◌, ◌≤◌, ◌⊎◌, inl, inr, min, List, [], ◌∷◌, ◌++◌, length, map, get_or, set, Some, Bool, true, false, All}
use Rattle.std.proofs.Common.{Contains, refl, sym, ap, ◌∙◌, subst, arith}
use Rattle.std.specs.Prelude.{count_by, filter, IsPermutation}
use Rattle.std.specs.List.{slice_get, swap}
use Rattle.std.specs.String.{string_bytes}
use Rattle.std.proofs.lemmas.Bool.{and_parts, cases_Bool, cases_eq, cases_order}
use Rattle.std.proofs.lemmas.List.{get_or-set_other, get_or-set_same, get_or_append_left, get_or_push, length-set, length_push, take_all}
use Rattle.std.proofs.lemmas.List.Elements.{All-append, All-cons, All-nil, Contains-append_left, Contains-append_right, Contains-get_or}
use Rattle.std.proofs.lemmas.List.Sorted.{Contains-permutation, IsPermutation-keeps, IsPermutation-sym, length_permutation}
use Rattle.std.proofs.lemmas.List.Sums.{length-filter}
use Rattle.std.proofs.lemmas.List.Edits.{length-swap, swap_is}
use Rattle.std.proofs.lemmas.Option.{get_or_from_slice_get, slice_get-get_or, slice_get_within}
use Rattle.gtfs_rows.specs.declared.fault.Table.TheVariants as tables
use Rattle.gtfs_rows.specs.declared.values.Day.{Day}
use Rattle.gtfs_tables.specs.Joined.{makes_connections}
use Rattle.gtfs_tables.specs.declared.tables.Feed.{Feed}
use Rattle.gtfs_tables.specs.declared.tables.Frequency.{Frequency}
use Rattle.gtfs_tables.specs.declared.tables.Trip.{Trip}
use Rattle.gtfs_rows.specs.declared.rows.StopTimeRow.{StopTimeRow}
use Rattle.service_days.specs.Services.{is_active}
use Rattle.service_days.specs.Zones.{IsDayStart}
use Rattle.service_days.specs.declared.zone.Zone.{Zone}
use Rattle.service_days.proofs.StartLemmas.{same_start}
use Rattle.timetable.specs.declared.limits.TheConstants.{MAX_CONNECTIONS, MAX_TRIPS}
use Rattle.timetable.specs.declared.network.Connection.{Connection}
use Rattle.connections.specs.Building.{AreByRun, AreSorted, HasDigits, IsEarlier, IsNotAfter, LeavesRange}
use Rattle.connections.specs.Days.{AreStarted, HaveStarts, days_from}
use Rattle.connections.specs.Faults.{no_memory_for_runs, run_fault, too_many_of}
use Rattle.connections.specs.Hops.{AreInside}
use Rattle.connections.specs.Listed.{AreFirstInside, AreListed, IsFirstOutside}
use Rattle.connections.specs.Outcome.{IsFirstRefusal, IsListing, RanOut, is_lifted_trip}
use Rattle.connections.specs.Repeats.{rows_for, starts_of}
use Rattle.connections.specs.Runs.{IsTripRun, count_hops, repeats_from, run_as_it_stands, runs_at, runs_from, runs_of_days, runs_of_trip, runs_on}
use Rattle.connections.specs.Times.{AreTimesOf, AreTripTimes}
use Rattle.connections.specs.declared.days.ServiceDay.{ServiceDay}
use Rattle.connections.specs.declared.fault.RunsFault.{RunsFault}
use Rattle.connections.specs.declared.runs.Run.{Run}
use Rattle.connections.specs.declared.times.TripTimes.{TripTimes}
use Rattle.connections.proofs.DaySteps.{have_starts}
use Rattle.connections.proofs.ListSteps.{run_rows_at}

-- ---- refusals

pub fault_of_hops : (feed : Feed) (zone : Zone) (base other : ℤ) (runs : List Run) (n : ℕ) (run : Run) (fault : RunsFault) → other ≡ base
    → slice_get runs n ≡ Some run → AreFirstInside feed zone base runs n
    → (fault ≡ no_memory_for_runs) ⊎ ((fault ≡ run_fault run) × LeavesRange feed zone other run) → (fault ≡ no_memory_for_runs)
    ⊎ ((run : Run) × (fault ≡ run_fault run) × IsFirstOutside feed zone base runs run)
fault_of_hops feed zone base other runs n run fault e at earlier (inl memory) = inl memory
fault_of_hops feed zone base other runs n run fault e at earlier (inr fact) =
    let leaves : LeavesRange feed zone base run = subst (λ (z : ℤ). LeavesRange feed zone z run) e fact.1 in
    inr (
      run,
      fact.0,
      record {
        number = n;
        start = leaves.start;
        rows = leaves.rows;
        run_at =
            run_rows_at feed zone runs n run leaves.start leaves.rows at leaves.rows_are;
        run_is = refl;
        earlier = earlier;
        outside = leaves.outside;
      },
    )

all_start : (zone : Zone) (days : List Day) (started : List ServiceDay) → AreStarted zone days started → HaveStarts zone days
all_start zone days started s = subst (λ (ds : List Day). HaveStarts zone ds) s.days_are (have_starts zone started s.starts)

-- the days have starts, and memory ran out
pub ran_out : (zone : Zone) (days : List Day) (started : List ServiceDay) (fault : RunsFault) → AreStarted zone days started
    → fault ≡ no_memory_for_runs → RanOut zone days fault
ran_out zone days started fault s memory = inr (memory, all_start zone days started s)

pub runs_refused : (feed : Feed) (zone : Zone) (first : Day) (days : ℕ) (started : List ServiceDay) (fault : RunsFault)
    → AreStarted zone (days_from first days) started
    → (fault ≡ no_memory_for_runs) ⊎ ((fault ≡ too_many_of tables.Trips) × (MAX_TRIPS < length (runs_of_days feed (map (λ d. d.day) started))))
    → RanOut zone (days_from first days) fault ⊎ IsFirstRefusal feed zone first days fault
runs_refused feed zone first days started fault s (inl memory) = inl (ran_out zone (days_from first days) started fault s memory)
runs_refused feed zone first days started fault s (inr fact) =
    inr (inr (inl (record {
      is = fact.0;
      started = all_start zone (days_from first days) started s;
      many =
          subst (λ (ds : List Day). MAX_TRIPS < length (runs_of_days feed ds)) s.days_are fact.1;
    })))

pub connections_refused : (feed : Feed) (zone : Zone) (first : Day) (days : ℕ) (started : List ServiceDay) (runs : List Run) (count most : ℕ)
    (fault : RunsFault) → AreStarted zone (days_from first days) started
    → runs ≡ runs_of_days feed (map (λ d. d.day) started) → length runs ≤ MAX_TRIPS → count ≡ min (count_hops feed.trips.items runs) most
    → MAX_CONNECTIONS < count → fault ≡ too_many_of tables.StopTimes
    → IsFirstRefusal feed zone first days fault
connections_refused feed zone first days started runs count most fault s runs_are few counted many is =
    let all : runs ≡ runs_of_days feed (days_from first days) = runs_are ∙ ap (runs_of_days feed) s.days_are in
    let over : MAX_CONNECTIONS < count_hops feed.trips.items runs = omega (arith, counted, many) in
    inr (inr (inl (record {
      is = is;
      started = all_start zone (days_from first days) started s;
      few_runs = subst (λ (rs : List Run). length rs ≤ MAX_TRIPS) all few;
      many = subst (λ (rs : List Run). MAX_CONNECTIONS < count_hops feed.trips.items rs) all over;
    })))

pub times_refused : (feed : Feed) (zone : Zone) (first : Day) (days : ℕ) (started : List ServiceDay) (runs : List Run) (count most : ℕ) (base : ℤ)
    (fault : RunsFault) → AreStarted zone (days_from first days) started
    → runs ≡ runs_of_days feed (map (λ d. d.day) started) → length runs ≤ MAX_TRIPS → count ≡ min (count_hops feed.trips.items runs) most
    → count ≤ MAX_CONNECTIONS → MAX_CONNECTIONS < most → IsDayStart zone first base
    → (fault ≡ no_memory_for_runs) ⊎ ((run : Run) × (fault ≡ run_fault run) × IsFirstOutside feed zone base runs run)
    → RanOut zone (days_from first days) fault ⊎ IsFirstRefusal feed zone first days fault
times_refused feed zone first days started runs count most base fault s runs_are few counted under room is_base (inl memory) =
    inl (ran_out zone (days_from first days) started fault s memory)
times_refused feed zone first days started runs count most base fault s runs_are few counted under room is_base (inr fact) =
    let all : runs ≡ runs_of_days feed (days_from first days) = runs_are ∙ ap (runs_of_days feed) s.days_are in
    let below : count_hops feed.trips.items runs ≤ MAX_CONNECTIONS = omega (arith, counted, under, room) in
    inr (inr (inr (inr (record {
      run = fact.0;
      is = fact.1;
      started = all_start zone (days_from first days) started s;
      few_runs = subst (λ (rs : List Run). length rs ≤ MAX_TRIPS) all few;
      few = subst (λ (rs : List Run). count_hops feed.trips.items rs ≤ MAX_CONNECTIONS) all below;
      outside = (base, is_base, subst (λ (rs : List Run). IsFirstOutside feed zone base rs fact.0) all fact.2);
    }))))

-- ---- each run is one of a trip, on one of the days

abbrev IsOf : Feed → List Day → Run → Type 0
IsOf feed days run = IsTripRun feed.trips.items run × Contains days run.day

repeats_of : (feed : Feed) (days : List Day) (day : Day) (t r : ℕ) (trip : Trip) (starts : List ℕ) → makes_connections trip ≡ true
    → slice_get feed.trips.items t ≡ Some trip → Contains days day → All (IsOf feed days) (repeats_from day t r starts)
unfolding repeats_from
repeats_of feed days day t r trip [] makes at inside = All-nil (IsOf feed days)
repeats_of feed days day t r trip (s ∷ starts) makes at inside =
    All-cons (IsOf feed days) (record { day = day; trip = t; repeat = r; start = Some s }) (repeats_from day t (r + 1) starts)
    (record { trip = trip; is_trip = at; makes = makes }, inside) (repeats_of feed days day t (r + 1) trip starts makes at inside)

one_trip : (feed : Feed) (days : List Day) (day : Day) (t : ℕ) (trip : Trip) (rows : List Frequency) (b : Bool) → b ≡ trip.repeats
    → makes_connections trip ≡ true → slice_get feed.trips.items t ≡ Some trip → Contains days day → All (IsOf feed days) (runs_of_trip rows day t trip)
one_trip feed days day t trip rows false b makes at inside =
    rw (sym b) (All-cons (IsOf feed days) (run_as_it_stands day t) [] (record { trip = trip; is_trip = at; makes = makes }, inside) (All-nil (IsOf feed days)))
one_trip feed days day t trip rows true b makes at inside = rw (sym b) (repeats_of feed days day t 0 trip (starts_of rows) makes at inside)

one_run : (feed : Feed) (days : List Day) (day : Day) (t : ℕ) (trip : Trip) (b : Bool) → b ≡ runs_on feed day trip → (b ≡ true → makes_connections trip ≡ true)
    → slice_get feed.trips.items t ≡ Some trip → Contains days day → All (IsOf feed days) (runs_at feed day t trip)
one_run feed days day t trip false b makes at inside = rw (sym b) (All-nil (IsOf feed days))
one_run feed days day t trip true b makes at inside = rw (sym b)
    (one_trip feed days day t trip (rows_for feed.frequencies.items t) trip.repeats refl (makes refl) at inside)

runs_of_day : (feed : Feed) (days : List Day) (day : Day) (t : ℕ) (trips : List Trip)
    → ((k : ℕ) (trip : Trip) → slice_get trips k ≡ Some trip → slice_get feed.trips.items (t + k) ≡ Some trip) → Contains days day
    → All (IsOf feed days) (runs_from feed day t trips)
runs_of_day feed days day t [] at inside = All-nil (IsOf feed days)
runs_of_day feed days day t (trip ∷ trips) at inside =
    let here : t + 0 ≡ t = omega arith in
    All-append (IsOf feed days) (runs_at feed day t trip) (runs_from feed day (t + 1) trips)
    (one_run feed days day t trip (runs_on feed day trip) refl
    (λ e. (and_parts (makes_connections trip) (is_active feed.calendar.items feed.calendar_dates.items (string_bytes trip.service) day) e).0)
    (subst (λ (n : ℕ). slice_get feed.trips.items n ≡ Some trip) here (at 0 trip refl)) inside)
    (runs_of_day feed days day (t + 1) trips (λ k x e. let next : t + suc k ≡ t + 1 + k = omega arith in
    subst (λ (n : ℕ). slice_get feed.trips.items n ≡ Some x) next (at (suc k) x e)) inside)

runs_of_some : (feed : Feed) (all : List Day) (days : List Day) → ((day : Day) → Contains days day → Contains all day)
    → All (IsOf feed all) (runs_of_days feed days)
runs_of_some feed all [] within = All-nil (IsOf feed all)
runs_of_some feed all (day ∷ days) within =
    All-append (IsOf feed all) (runs_from feed day 0 feed.trips.items) (runs_of_days feed days)
    (runs_of_day feed all day 0 feed.trips.items (λ k trip e. let position : 0 + k ≡ k = omega arith in rw position e)
    (within day (Contains-append_left (day ∷ []) days day (0, omega arith, refl))))
    (runs_of_some feed all days (λ x inside. within x (Contains-append_right (day ∷ []) days x inside)))

pub runs_are_of : (feed : Feed) (days : List Day) (runs : List Run) → runs ≡ runs_of_days feed days → All (IsTripRun feed.trips.items) runs
    × All (λ (run : Run). Contains days run.day) runs
runs_are_of feed days runs e =
    let each : All (IsOf feed days) runs = subst (λ (rs : List Run). All (IsOf feed days) rs) (sym e) (runs_of_some feed days days (λ day inside. inside)) in
    (λ k d lt. (each k d lt).0, λ k d lt. (each k d lt).1)

-- ---- the connections in order

pub have_digits : (feed : Feed) (zone : Zone) (base : ℤ) (runs : List Run) (cs : List Connection) → AreByRun feed zone base runs (length runs) cs
    → length runs ≤ MAX_TRIPS → All HasDigits cs
have_digits feed zone base runs cs b few k d lt =
    let w = b.only (get_or cs k d) (Contains-get_or cs k d lt) in
    let run = w.2 in
    let trip = w.3.hop.trip in
    let time = w.3.hop.arr.in_time in
    let most : length runs ≤ 20000000 = few in
    let end : (get_or cs k d).arr < 2000000000 = time in
    (omega (arith, end), omega (arith, run, trip, most))

-- no two are of one run and depart together
abbrev AreApart : List Connection → Type 0
AreApart cs = (i j : ℕ) (d : Connection) → i < j → j < length cs → (get_or cs i d).trip ≡ (get_or cs j d).trip → (get_or cs i d).dep ≡ (get_or cs j d).dep → ⊥

apart_of : (c d : Connection) → IsEarlier c d → c.trip ≡ d.trip → c.dep ≡ d.dep → ⊥
apart_of c d (inl less) trip dep = omega (arith, less, trip)
apart_of c d (inr later) trip dep = (let less = later.1 in omega (arith, less, dep))

apart_by : (feed : Feed) (zone : Zone) (base : ℤ) (runs : List Run) (n : ℕ) (cs : List Connection) → AreByRun feed zone base runs n cs → AreApart cs
apart_by feed zone base runs n cs b i j d lt within trip dep = apart_of (get_or cs i d) (get_or cs j d) (b.rising i j d lt within) trip dep

-- the same of any two indices
abbrev AreDistinct : List Connection → Type 0
AreDistinct cs = (i j : ℕ) (d : Connection) → (i ≡ j → ⊥) → i < length cs → j < length cs → (get_or cs i d).trip ≡ (get_or cs j d).trip
    → (get_or cs i d).dep ≡ (get_or cs j d).dep → ⊥

distinct_from : (cs : List Connection) → AreApart cs → AreDistinct cs
distinct_from cs apart i j d ne here there trip dep = elim (cases_order i j) [
  | inl same ↦ ne same
  | inr (inl below) ↦ apart i j d below there trip dep
  | inr (inr above) ↦ apart j i d above here (sym trip) (sym dep)
]

-- where an element came from in a swap of i and j
abbrev IsSource : ℕ → ℕ → ℕ → ℕ → Type 0
IsSource i j k x = ((k ≡ j) × (x ≡ i)) ⊎ (((k ≡ i) × (x ≡ j)) ⊎ ((x ≡ k) × (k ≡ i → ⊥) × (k ≡ j → ⊥)))

sources_differ : (i j k m x y : ℕ) → IsSource i j k x → IsSource i j m y → (k ≡ m → ⊥) → x ≡ y → ⊥
sources_differ i j k m x y (inl p) (inl q) ne e = ne (p.0 ∙ sym q.0)
sources_differ i j k m x y (inl p) (inr (inl q)) ne e = ne (omega (arith, p.0, p.1, q.0, q.1, e))
sources_differ i j k m x y (inl p) (inr (inr q)) ne e = q.1 (omega (arith, p.1, q.0, e))
sources_differ i j k m x y (inr (inl p)) (inl q) ne e = ne (omega (arith, p.0, p.1, q.0, q.1, e))
sources_differ i j k m x y (inr (inl p)) (inr (inl q)) ne e = ne (p.0 ∙ sym q.0)
sources_differ i j k m x y (inr (inl p)) (inr (inr q)) ne e = q.2 (omega (arith, p.1, q.0, e))
sources_differ i j k m x y (inr (inr p)) (inl q) ne e = p.1 (omega (arith, p.0, q.1, e))
sources_differ i j k m x y (inr (inr p)) (inr (inl q)) ne e = p.2 (omega (arith, p.0, q.1, e))
sources_differ i j k m x y (inr (inr p)) (inr (inr q)) ne e = ne (omega (arith, p.0, q.0, e))

source_of : (cs : List Connection) (i j k : ℕ) (d : Connection) → i < length cs → j < length cs → k < length cs → (x : ℕ) × IsSource i j k x × (x < length cs)
    × (get_or (swap cs i j) k d ≡ get_or cs x d)
source_of cs i j k d low high lt =
    let front : List Connection = set cs i (get_or cs j d) in
    let is : set front j (get_or cs i d) ≡ swap cs i j = swap_is cs i j d low high in
    let size : length front ≡ length cs = length-set cs i (get_or cs j d) in
    elim (cases_eq k j) [
      | inl same ↦ (
        i,
        inl (same, refl),
        low,
        ap (λ (xs : List Connection). get_or xs k d) (sym is)
            ∙ ap (λ (n : ℕ). get_or (set front j (get_or cs i d)) n d) same ∙ get_or-set_same front j (get_or cs i d) d (omega (arith, high, size)),
      )
      | inr other ↦
          let past : get_or (swap cs i j) k d ≡ get_or front k d = ap (λ (xs : List Connection). get_or xs k d) (sym is)
          ∙ get_or-set_other front j k (get_or cs i d) d other in
          elim (cases_eq k i) [
            | inl same ↦ (j, inr (inl (same, refl)), high, past ∙ ap (λ (n : ℕ). get_or front n d) same ∙ get_or-set_same cs i (get_or cs j d) d low)
            | inr differs ↦ (k, inr (inr (refl, differs, other)), lt, past ∙ get_or-set_other cs i k (get_or cs j d) d differs)
          ]
    ]

distinct_swapped : (cs : List Connection) (i j : ℕ) → i < length cs → j < length cs → AreDistinct cs → AreDistinct (swap cs i j)
distinct_swapped cs i j low high distinct k m d ne here there trip dep =
    let size : length (swap cs i j) ≡ length cs = length-swap cs i j in
    let x = source_of cs i j k d low high (omega (arith, here, size)) in
    let y = source_of cs i j m d low high (omega (arith, there, size)) in
    distinct x.0 y.0 d (sources_differ i j k m x.0 y.0 x.1 y.1 ne) x.2 y.2
    (ap (λ (c : Connection). c.trip) (sym x.3) ∙ trip ∙ ap (λ (c : Connection). c.trip) y.3)
    (ap (λ (c : Connection). c.dep) (sym x.3) ∙ dep ∙ ap (λ (c : Connection). c.dep) y.3)

distinct_moved : (cs sorted : List Connection) → AreDistinct cs → IsPermutation cs sorted → AreDistinct sorted
distinct_moved cs sorted distinct moved = IsPermutation-keeps cs (λ (xs : List Connection). AreDistinct xs) distinct
    (λ xs i j low high was. distinct_swapped xs i j low high was) sorted moved

pub listed_of : (feed : Feed) (zone : Zone) (base : ℤ) (runs : List Run) (cs sorted : List Connection) → AreByRun feed zone base runs (length runs) cs
    → IsPermutation cs sorted → AreSorted sorted → AreListed feed zone base runs sorted
listed_of feed zone base runs cs sorted b moved up = record {
  each = λ r p c x. Contains-permutation cs sorted c moved (b.each r p c (slice_get_within runs r x.run_at.run x.run_at.is_run) x);
  only = λ c inside. (let w = b.only c (Contains-permutation sorted cs c (IsPermutation-sym cs sorted moved) inside) in (w.0, w.1, w.3));
  in_order = λ i j r p s q c d lt at_c at_d x y.
      let within : j < length sorted = slice_get_within sorted j d at_d in
      let c_is : get_or sorted i c ≡ c = get_or_from_slice_get sorted i c c at_c in
      let d_is : get_or sorted j c ≡ d = get_or_from_slice_get sorted j d c at_d in
      let known : IsNotAfter c d = subst (λ (e : Connection). IsNotAfter e d) c_is
      (subst (λ (e : Connection). IsNotAfter (get_or sorted i c) e) d_is (up i j c lt within)) in
      let apart = distinct_moved cs sorted (distinct_from cs (apart_by feed zone base runs (length runs) cs b)) moved in
      let ne : i ≡ j → ⊥ = λ (e : i ≡ j). absurd (omega (arith, lt, e)) in
      record {
        by_departure = known.by_departure;
        by_arrival = known.by_arrival;
        by_run = known.by_run;
        by_position = λ (dep : c.dep ≡ d.dep) (arr : c.arr ≡ d.arr) (trip : c.trip ≡ d.trip).
            absurd (apart i j c ne (omega (arith, lt, within)) within
            (ap (λ (e : Connection). e.trip) c_is ∙ trip ∙ ap (λ (e : Connection). e.trip) (sym d_is))
            (ap (λ (e : Connection). e.dep) c_is ∙ dep ∙ ap (λ (e : Connection). e.dep) (sym d_is)));
      };
}

pub listing_made : (feed : Feed) (zone : Zone) (first : Day) (days : ℕ) (started : List ServiceDay) (runs : List Run) (count most : ℕ)
    (cs sorted : List Connection) (base : ℤ) → AreStarted zone (days_from first days) started
    → runs ≡ runs_of_days feed (map (λ d. d.day) started) → length runs ≤ MAX_TRIPS → count ≡ min (count_hops feed.trips.items runs) most
    → count ≤ MAX_CONNECTIONS → MAX_CONNECTIONS < most → IsDayStart zone first base
    → AreByRun feed zone base runs (length runs) cs → IsPermutation cs sorted → AreSorted sorted → IsListing feed zone first days sorted runs
listing_made feed zone first days started runs count most cs sorted base s runs_are few counted under room is_base b moved up =
    let size : length sorted ≡ length cs = length_permutation cs sorted moved in
    let whole : length cs ≡ count_hops feed.trips.items runs = b.counted ∙ ap (count_hops feed.trips.items) (take_all (length runs) runs (omega arith)) in
    record {
      started = all_start zone (days_from first days) started s;
      runs_are = runs_are ∙ ap (runs_of_days feed) s.days_are;
      few_runs = few;
      counted = size ∙ whole;
      few = omega (arith, size, whole, counted, under, room);
      inside = λ other is_other r start rows at.
          subst (λ (z : ℤ). AreInside z start at.run.start rows) (same_start zone first base other is_base is_other)
          (b.inside r start rows (slice_get_within runs r at.run at.is_run) at);
      listed = λ other is_other. subst (λ (z : ℤ). AreListed feed zone z runs sorted) (same_start zone first base other is_base is_other)
          (listed_of feed zone base runs cs sorted b moved up);
    }

-- ---- the times of the trips, and how many were lifted

pub record AreTimesTo (stop_times : List StopTimeRow) (trips : List Trip) (times : List TripTimes) (n : ℕ) : Type 0 where
  pub same_length : length times ≡ n
  pub each : (k : ℕ) (trip : Trip) (d : TripTimes) → k < n → slice_get trips k ≡ Some trip → AreTripTimes stop_times trip (get_or times k d)

pub times_none : (stop_times : List StopTimeRow) (trips : List Trip) → AreTimesTo stop_times trips [] 0
times_none stop_times trips = record { same_length = refl; each = λ k trip d lt at. absurd (omega (arith, lt)) }

pub times_more : (stop_times : List StopTimeRow) (trips : List Trip) (times new : List TripTimes) (n : ℕ) (trip : Trip) (made : TripTimes)
    → AreTimesTo stop_times trips times n → n < length trips → trip ≡ get_or trips n trip
    → AreTripTimes stop_times trip made → new ≡ times ++ made ∷ [] → AreTimesTo stop_times trips new (n + 1)
times_more stop_times trips times new n trip made was lt is fits now =
    let len : length times ≡ n = was.same_length in
    record {
      same_length = ap (λ (ts : List TripTimes). length ts) now ∙ omega (arith, length_push times made, len);
      each = λ k x d less at. subst (λ (ts : List TripTimes). AreTripTimes stop_times x (get_or ts k d)) (sym now) (elim (cases_eq k n) [
        | inl same ↦
            let position : length times ≡ k = omega (arith, len, same) in
            let which : trip ≡ x = is ∙ ap (λ (m : ℕ). get_or trips m trip) (sym same) ∙ get_or_from_slice_get trips k x trip at in
            subst (λ (t : TripTimes). AreTripTimes stop_times x t) (sym (get_or_push times made d k position))
            (subst (λ (t : Trip). AreTripTimes stop_times t made) which fits)
        | inr other ↦
            let below : k < n = omega (arith, less, other) in
            subst (λ (t : TripTimes). AreTripTimes stop_times x t) (sym (get_or_append_left times (made ∷ []) d k (omega (arith, below, len))))
            (was.each k x d below at)
      ]);
    }

pub times_all : (stop_times : List StopTimeRow) (trips : List Trip) (times : List TripTimes) (n : ℕ) → AreTimesTo stop_times trips times n → n ≡ length trips
    → AreTimesOf stop_times trips times
times_all stop_times trips times n was end = record {
  same_length = was.same_length ∙ end;
  each = λ k trip d at. was.each k trip d (let lt = slice_get_within trips k trip at in omega (arith, lt, end)) at;
}

-- tests that agree at each index
kept_alike : {X Y : Type 0} (p : X → Bool) (q : Y → Bool) (xs : List X) (ys : List Y) → length xs ≡ length ys
    → ((k : ℕ) (d : X) (e : Y) → k < length xs → p (get_or xs k d) ≡ q (get_or ys k e)) → length (filter p xs) ≡ length (filter q ys)
kept_alike p q [] [] same alike = refl
kept_alike p q [] (y ∷ ys) same alike = absurd (omega (arith, same))
kept_alike p q (x ∷ xs) [] same alike = absurd (omega (arith, same))
kept_alike p q (x ∷ xs) (y ∷ ys) same alike =
    let rest : length (filter p xs) ≡ length (filter q ys) = kept_alike p q xs ys (omega (arith, same)) (λ k d e lt. alike (suc k) d e (omega (arith, lt))) in
    let here : p x ≡ q y = alike 0 x y (omega arith) in
    elim (cases_Bool (q y)) [
      | inl t ↦ let f : p x ≡ true = here ∙ t in rw (t, f) (ap (λ (n : ℕ). suc n) rest)
      | inr t ↦ let f : p x ≡ false = here ∙ t in rw (t, f) rest
    ]

pub lifted_counted : (feed : Feed) (times : List TripTimes) → AreTimesOf feed.stop_times.items feed.trips.items times
    → count_by (λ trip. trip.lifted) times ≡ count_by (is_lifted_trip feed) feed.trips.items
lifted_counted feed times t =
    sym (length-filter (λ (trip : TripTimes). trip.lifted) times)
    ∙ kept_alike (λ (trip : TripTimes). trip.lifted) (is_lifted_trip feed) times feed.trips.items t.same_length
    (λ k d e lt.
    let below : k < length feed.trips.items = (let len = t.same_length in omega (arith, lt, len)) in
    (t.each k (get_or feed.trips.items k e) d (slice_get-get_or feed.trips.items k e below)).lifted)
    ∙ length-filter (is_lifted_trip feed) feed.trips.items
