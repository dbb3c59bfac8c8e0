-- The connections of the runs, one run at a time.
use Rattle.std.proofs.Common.{◌≡◌, ℕ, zero, suc, ℤ, ◌+◌, ◌-◌, ◌<◌, inl, inr, List, [], ◌++◌, length, get_or, take, Option, Some, Contains, refl, sym, ap, ◌∙◌}
use Rattle.std.proofs.Common.{subst, arith, length-append}
use Rattle.std.specs.Prelude.{◌+ℤ◌}
use Rattle.std.specs.List.{slice_get}
use Rattle.std.specs.Option.{option_map_or}
use Rattle.std.proofs.lemmas.Bool.{cases_eq, cases_lt}
use Rattle.std.proofs.lemmas.Int.{ints}
use Rattle.std.proofs.lemmas.List.{get_or-append_right, get_or_append_left}
use Rattle.std.proofs.lemmas.List.Elements.{Contains-append_cases, Contains-append_left, Contains-append_right, Contains-get_or}
use Rattle.std.proofs.lemmas.List.Sums.{sum_by_more}
use Rattle.std.proofs.lemmas.Option.{get_or_from_slice_get, same_Some, slice_get_within}
use Rattle.gtfs_rows.specs.declared.rows.StopTimeRow.{StopTimeRow}
use Rattle.gtfs_tables.specs.Joined.{rows_of}
use Rattle.gtfs_tables.specs.declared.tables.Feed.{Feed}
use Rattle.gtfs_tables.specs.declared.tables.Trip.{Trip}
use Rattle.service_days.specs.declared.zone.Zone.{Zone}
use Rattle.service_days.proofs.StartLemmas.{same_start}
use Rattle.timetable.specs.declared.network.Connection.{Connection}
use Rattle.connections.specs.Building.{AddsRun, AreByRun, AreRunRows, IsEarlier}
use Rattle.connections.specs.Hops.{AreInside, IsClock, IsHop, shift_of}
use Rattle.connections.specs.Listed.{IsRunAt, IsRunHop, IsRunStart}
use Rattle.connections.specs.Runs.{count_hops, hops_of, run_hops}
use Rattle.connections.specs.Times.{arrives, departs}
use Rattle.connections.specs.declared.runs.Run.{Run}

-- ---- one connection at a position

same_clock : (base start : ℤ) (time a b : ℕ) → IsClock base start time a → IsClock base start time b → a ≡ b
same_clock base start time a b p q = let x = p.same_instant in let y = q.same_instant in omega (arith, ints, x, y)

pub same_hop : (base start : ℤ) (rows : List StopTimeRow) (run p : ℕ) (c d : Connection) → IsHop base start rows run p c → IsHop base start rows run p d → c ≡ d
same_hop base start rows run p c d x y =
    let row : x.row ≡ y.row = same_Some x.row y.row (sym x.is_row ∙ y.is_row) in
    let next : x.next ≡ y.next = same_Some x.next y.next (sym x.is_next ∙ y.is_next) in
    let from : c.from ≡ d.from = same_Some c.from d.from (sym x.from ∙ ap (λ (r : StopTimeRow). r.stop) row ∙ y.from) in
    let to : c.to ≡ d.to = same_Some c.to d.to (sym x.to ∙ ap (λ (r : StopTimeRow). r.stop) next ∙ y.to) in
    let dep : c.dep ≡ d.dep = same_clock base start (departs rows p) c.dep d.dep x.dep y.dep in
    let arr : c.arr ≡ d.arr = same_clock base start (arrives rows (p + 1)) c.arr d.arr x.arr y.arr in
    let trip : c.trip ≡ d.trip = x.trip ∙ sym y.trip in
    let board : c.board ≡ d.board = x.board ∙ ap (λ (r : StopTimeRow). r.board) row ∙ sym y.board in
    let alight : c.alight ≡ d.alight = x.alight ∙ ap (λ (r : StopTimeRow). r.alight) next ∙ sym y.alight in
    λ i. record { from = from i; to = to i; dep = dep i; arr = arr i; trip = trip i; board = board i; alight = alight i }

pub hop_within : (base start : ℤ) (rows : List StopTimeRow) (run p : ℕ) (c : Connection) → IsHop base start rows run p c → p + 1 < length rows
hop_within base start rows run p c x = slice_get_within rows (p + 1) x.next x.is_next

departs_next : (rows : List StopTimeRow) (k : ℕ) → departs rows k < departs rows (suc k)
unfolding departs
departs_next rows k = omega arith

pub departs_rise : (rows : List StopTimeRow) (p q : ℕ) → p < q → departs rows p < departs rows q
departs_rise rows p zero lt = absurd (omega (arith, lt))
departs_rise rows p (suc q) lt =
    let next : departs rows q < departs rows (suc q) = departs_next rows q in
    elim (cases_eq p q) [
      | inl same ↦ rw same next
      | inr other ↦ let below : departs rows p < departs rows q = departs_rise rows p q (omega (arith, lt, other)) in omega (arith, below, next)
    ]

pub hops_rise : (base start : ℤ) (rows : List StopTimeRow) (r s p q : ℕ) (c d : Connection) → IsHop base start rows r p c → IsHop base start rows s q d → p < q
    → c.dep < d.dep
hops_rise base start rows r s p q c d x y lt =
    let rise = departs_rise rows p q lt in
    let first = x.dep.same_instant in
    let second = y.dep.same_instant in
    omega (arith, ints, rise, first, second)

-- ---- one run of a number

same_run : (feed : Feed) (zone : Zone) (runs : List Run) (r : ℕ) (start other : ℤ) (rows rest : List StopTimeRow) (x : IsRunAt feed zone runs r start rows)
    (y : IsRunAt feed zone runs r other rest) → x.run ≡ y.run
same_run feed zone runs r start other rows rest x y = same_Some x.run y.run (sym x.is_run ∙ y.is_run)

same_run_start : (zone : Zone) (x y : Run) (rows rest : List StopTimeRow) (start other : ℤ) → x ≡ y → rows ≡ rest → IsRunStart zone x rows start
    → IsRunStart zone y rest other → start ≡ other
same_run_start zone x y rows rest start other run same a b =
    let moved : IsRunStart zone y rest start = subst (λ (t : Run). IsRunStart zone t rest start) run
    (subst (λ (rs : List StopTimeRow). IsRunStart zone x rs start) same a) in
    moved.is ∙ ap (λ day. day +ℤ shift_of y.start rest) (same_start zone y.day moved.day b.day moved.is_day b.is_day) ∙ sym b.is

pub same_run_at : (feed : Feed) (zone : Zone) (runs : List Run) (r : ℕ) (start other : ℤ) (rows rest : List StopTimeRow) → IsRunAt feed zone runs r start rows
    → IsRunAt feed zone runs r other rest
    → (start ≡ other) × (rows ≡ rest)
same_run_at feed zone runs r start other rows rest x y =
    let run : x.run ≡ y.run = same_run feed zone runs r start other rows rest x y in
    let trip : x.trip ≡ y.trip = same_Some x.trip y.trip (sym x.is_trip ∙ ap (λ (t : Run). slice_get feed.trips.items t.trip) run ∙ y.is_trip) in
    let same : rows ≡ rest = x.rows_are ∙ ap (rows_of feed.stop_times.items) trip ∙ sym y.rows_are in
    (same_run_start zone x.run y.run rows rest start other run same x.starts y.starts, same)

pub hop_along : (base s t : ℤ) (xs ys : List StopTimeRow) (r p : ℕ) (c : Connection) → s ≡ t → xs ≡ ys → IsHop base s xs r p c → IsHop base t ys r p c
hop_along base s t xs ys r p c e f x = subst (λ (z : ℤ). IsHop base z ys r p c) e (subst (λ (zs : List StopTimeRow). IsHop base s zs r p c) f x)

inside_along : (base s t : ℤ) (o p : Option ℕ) (xs ys : List StopTimeRow) → s ≡ t → o ≡ p → xs ≡ ys → AreInside base s o xs → AreInside base t p ys
inside_along base s t o p xs ys e d f x =
    subst (λ (z : ℤ). AreInside base z p ys) e
    (subst (λ (q : Option ℕ). AreInside base s q ys) d (subst (λ (zs : List StopTimeRow). AreInside base s o zs) f x))

abbrev pub run_rows_at : (feed : Feed) (zone : Zone) (runs : List Run) (n : ℕ) (run : Run) (start : ℤ) (rows : List StopTimeRow) → slice_get runs n ≡ Some run
    → AreRunRows feed zone run start rows → IsRunAt feed zone runs n start rows
run_rows_at feed zone runs n run start rows at x = record {
  run = run;
  trip = x.trip;
  is_run = at;
  is_trip = x.is_trip;
  starts = x.starts;
  rows_are =
      x.rows_are;
}

-- ---- a run more

module _ (feed : Feed) (zone : Zone) (base : ℤ) (runs : List Run) (n : ℕ) (run : Run) (mid new : List Connection) (at : slice_get runs n ≡ Some run)
    (was : AreByRun feed zone base runs n mid) (a : AddsRun feed zone base run n mid new) where
  here : IsRunAt feed zone runs n a.start a.rows
  here = run_rows_at feed zone runs n run a.start a.rows at a.rows_are

  added : List Connection
  added = a.adds.0

  hop_added : (p : ℕ) (c : Connection) → IsRunHop feed zone base runs n p c → Contains a.adds.0 c
  hop_added p c x =
      let same = same_run_at feed zone runs n x.start a.start x.rows a.rows x.run_at here in
      let hop : IsHop base a.start a.rows n p c = hop_along base x.start a.start x.rows a.rows n p c same.0 same.1 x.hop in
      let within = hop_within base a.start a.rows n p c hop in
      let len : length a.adds.0 ≡ length a.rows - 1 = a.adds.2.same_length in
      let less : p < length a.rows - 1 = omega (arith, within) in
      (p, omega (arith, less, len), same_hop base a.start a.rows n p (get_or a.adds.0 p c) c (a.adds.2.hops p c less) hop)

  each_more : (r p : ℕ) (c : Connection) → r < n + 1 → IsRunHop feed zone base runs r p c → Contains new c
  each_more r p c lt x =
      subst (λ (cs : List Connection). Contains cs c) (sym a.adds.1)
      (elim (cases_eq r n) [
        | inl same ↦ Contains-append_right mid a.adds.0 c (hop_added p c (subst (λ (k : ℕ). IsRunHop feed zone base runs k p c) same x))
        | inr other ↦ Contains-append_left mid a.adds.0 c (was.each r p c (omega (arith, lt, other)) x)
      ])

  -- an added connection is at its index
  hop_at : (k : ℕ) (d : Connection) → k < length a.adds.0 → IsHop base a.start a.rows n k (get_or a.adds.0 k d)
  hop_at k d lt = let len : length a.adds.0 ≡ length a.rows - 1 = a.adds.2.same_length in a.adds.2.hops k d (omega (arith, lt, len))

  only_more : (c : Connection) → Contains new c → (r : ℕ) × (p : ℕ) × (r < n + 1) × IsRunHop feed zone base runs r p c
  only_more c inside =
      elim (Contains-append_cases mid a.adds.0 c (subst (λ (cs : List Connection). Contains cs c) a.adds.1 inside)) [
        | inl old ↦ let w = was.only c old in (w.0, w.1, (let lt = w.2 in omega arith), w.3)
        | inr fresh ↦ (
          n,
          fresh.0,
          omega arith,
          record {
            start = a.start;
            rows = a.rows;
            run_at = here;
            hop = subst (λ (x : Connection). IsHop base a.start a.rows n fresh.0 x) fresh.2 (hop_at fresh.0 c fresh.1);
          },
        )
      ]

  -- an old connection is of an earlier run
  old_trip : (i : ℕ) (d : Connection) → i < length mid → (get_or mid i d).trip < n
  old_trip i d lt =
      let w = was.only (get_or mid i d) (Contains-get_or mid i d lt) in
      let trip = w.3.hop.trip in
      let less = w.2 in
      omega (arith, trip, less)

  rising_parts : (i j : ℕ) (d : Connection) → i < j → j < length (mid ++ a.adds.0) → IsEarlier (get_or (mid ++ a.adds.0) i d) (get_or (mid ++ a.adds.0) j d)
  rising_parts i j d lt within =
      let size : length (mid ++ a.adds.0) ≡ length mid + length a.adds.0 = length-append mid a.adds.0 in
      elim (cases_lt j (length mid)) [
        | inl low ↦ rw (get_or_append_left mid a.adds.0 d i (omega (arith, lt, low)), get_or_append_left mid a.adds.0 d j low) (was.rising i j d lt low)
        | inr high ↦
            let second : get_or (mid ++ a.adds.0) j d ≡ get_or a.adds.0 (j - length mid) d = get_or-append_right mid a.adds.0 (length mid) j d refl high in
            let hop : IsHop base a.start a.rows n (j - length mid) (get_or a.adds.0 (j - length mid) d) =
            hop_at (j - length mid) d (omega (arith, within, size, high)) in
            elim (cases_lt i (length mid)) [
              | inl low ↦ rw (get_or_append_left mid a.adds.0 d i low, second)
                  (inl (let old = old_trip i d low in let trip = hop.trip in omega (arith, old, trip)))
              | inr above ↦
                  let first : get_or (mid ++ a.adds.0) i d ≡ get_or a.adds.0 (i - length mid) d =
                  get_or-append_right mid a.adds.0 (length mid) i d refl above in
                  let before : IsHop base a.start a.rows n (i - length mid) (get_or a.adds.0 (i - length mid) d) =
                  hop_at (i - length mid) d (omega (arith, within, size, high, lt)) in
                  rw (first, second) (inr (
                    before.trip ∙ sym hop.trip,
                    hops_rise base a.start a.rows n n (i - length mid) (j - length mid) (get_or a.adds.0 (i - length mid) d)
                        (get_or a.adds.0 (j - length mid) d) before hop (omega (arith, lt, high, above)),
                  ))
            ]
      ]

  rising_more : (i j : ℕ) (d : Connection) → i < j → j < length new → IsEarlier (get_or new i d) (get_or new j d)
  rising_more = subst (λ (cs : List Connection). (i j : ℕ) (d : Connection) → i < j → j < length cs → IsEarlier (get_or cs i d) (get_or cs j d)) (sym a.adds.1)
      rising_parts

  counted_more : length new ≡ count_hops feed.trips.items (take (n + 1) runs)
  counted_more =
      let size : length new ≡ length mid + length a.adds.0 = ap length a.adds.1 ∙ length-append mid a.adds.0 in
      let more : count_hops feed.trips.items (take (n + 1) runs) ≡ count_hops feed.trips.items (take n runs) + run_hops feed.trips.items run =
      sum_by_more (run_hops feed.trips.items) runs n run (slice_get_within runs n run at)
      ∙ ap (λ (x : Run). count_hops feed.trips.items (take n runs) + run_hops feed.trips.items x) (get_or_from_slice_get runs n run run at) in
      let mine : run_hops feed.trips.items run ≡ hops_of a.rows_are.trip = ap (λ (o : Option Trip). option_map_or hops_of o 0) a.rows_are.is_trip in
      let hops = a.rows_are.hops_are in
      let len = a.adds.2.same_length in
      let old = was.counted in
      omega (arith, size, more, mine, hops, len, old)

  inside_more : (r : ℕ) (start : ℤ) (rows : List StopTimeRow) → r < n + 1 → (x : IsRunAt feed zone runs r start rows) → AreInside base start x.run.start rows
  inside_more r start rows lt x = elim (cases_eq r n) [
    | inl same ↦
        let y : IsRunAt feed zone runs n start rows = subst (λ (k : ℕ). IsRunAt feed zone runs k start rows) same x in
        let both = same_run_at feed zone runs n a.start start a.rows rows here y in
        let mine : x.run ≡ run = same_Some x.run run (sym x.is_run ∙ ap (λ k. slice_get runs k) same ∙ at) in
        inside_along base a.start start run.start x.run.start a.rows rows both.0 (ap (λ (t : Run). t.start) (sym mine)) both.1 a.inside
    | inr other ↦ was.inside r start rows (omega (arith, lt, other)) x
  ]

  pub by_run_more : AreByRun feed zone base runs (n + 1) new
  by_run_more = record { each = each_more; only = only_more; rising = rising_more; counted = counted_more; inside = inside_more }

pub by_run_none : (feed : Feed) (zone : Zone) (base : ℤ) (runs : List Run) → AreByRun feed zone base runs 0 []
by_run_none feed zone base runs = record {
  each = λ r p c lt x. absurd (omega (arith, lt));
  only = λ c inside. absurd (let lt = inside.1 in omega (arith, lt));
  rising = λ i j d lt within. absurd (omega (arith, within));
  counted = refl;
  inside = λ r start rows lt x. absurd (omega (arith, lt));
}
