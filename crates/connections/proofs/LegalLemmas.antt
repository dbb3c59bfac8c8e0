-- Listed connections are legal.
use Rattle.std.proofs.Common.{◌≡◌, ℕ, suc, ℤ, ◌+◌, ◌-◌, ◌<◌, ◌≤◌, inl, inr, List, ◌∷◌, length, get_or, Option, Some, None, IsSomeAnd, All, true}
use Rattle.std.proofs.Common.{false, refl, sym, ap, ◌∙◌, subst, arith}
use Rattle.std.specs.List.{slice_get}
use Rattle.std.proofs.lemmas.Bool.{cases_order}
use Rattle.std.proofs.lemmas.Int.{ints}
use Rattle.std.proofs.lemmas.Option.{get_or_from_slice_get, same_Some, slice_get-get_or, slice_get_within}
use Rattle.reasoning.proofs.ListLemmas.{contains_at, at_contains}
use Rattle.gtfs_rows.specs.declared.rows.StopTimeRow.{StopTimeRow}
use Rattle.gtfs_rows.specs.declared.values.Day.{Day}
use Rattle.gtfs_tables.specs.Joined.{makes_connections}
use Rattle.gtfs_tables.specs.declared.tables.Feed.{Feed}
use Rattle.gtfs_tables.specs.declared.tables.Trip.{Trip}
use Rattle.service_days.specs.Days.{day_after}
use Rattle.service_days.specs.Zones.{IsDayStart}
use Rattle.service_days.specs.declared.zone.Zone.{Zone}
use Rattle.timetable.specs.Legal.{At, IsJustBefore}
use Rattle.timetable.specs.declared.network.Connection.{Connection}
use Rattle.connections.specs.Days.{HaveStarts, days_from}
use Rattle.connections.specs.Hops.{IsClock, IsHop}
use Rattle.connections.specs.Legal.{AreWithinLimits, HasLegalConnections}
use Rattle.connections.specs.Listed.{AreListed, AreRunsInside, IsRunAt, IsRunHop}
use Rattle.connections.specs.Outcome.{IsListing}
use Rattle.connections.specs.Runs.{IsTripRun}
use Rattle.connections.specs.Times.{arrives, departs}
use Rattle.connections.specs.declared.runs.Run.{Run}
use Rattle.connections.proofs.DaySteps.{days_next}
use Rattle.connections.proofs.FinalLemmas.{runs_are_of}
use Rattle.connections.proofs.HopSteps.{used_later}
use Rattle.connections.proofs.ListSteps.{hop_along, hop_within, hops_rise, same_hop, same_run_at}
use Rattle.connections.proofs.ReadyLemmas.{runnable_at}

-- the first of the days starts
pub base_of : (zone : Zone) (first : Day) (days : ℕ) → 1 ≤ days → HaveStarts zone (days_from first days) → (base : ℤ) × IsDayStart zone first base
base_of zone first days some starts =
    let next : days_from first days ≡ first ∷ days_from (day_after first) (days - 1) = days_next first days (days - 1) (omega (arith, some)) in
    let all : HaveStarts zone (first ∷ days_from (day_after first) (days - 1)) = subst (λ (ds : List Day). HaveStarts zone ds) next starts in
    all 0 first (omega arith)

-- a row departs after it arrives, and before the next arrives
leaves_first : (rows : List StopTimeRow) (k : ℕ) → departs rows k < arrives rows (k + 1)
unfolding arrives
leaves_first rows k = let e : k + 1 ≡ suc k = omega arith in rw e (omega arith)

stays : (rows : List StopTimeRow) (k : ℕ) → arrives rows (k + 1) ≤ departs rows (k + 1)
unfolding arrives departs
stays rows k = let e : k + 1 ≡ suc k = omega arith in rw e (omega arith)

known_below : (o : Option ℕ) (s n : ℕ) → o ≡ Some s → IsSomeAnd o (λ x. x < n) → s < n
known_below None s n e h = absurd h
known_below (Some x) s n e h = let same : x ≡ s = cc in omega (arith, h, same)

module _ (feed : Feed) (zone : Zone) (base : ℤ) (runs : List Run) (cs : List Connection)
    (trips : All (IsTripRun feed.trips.items) runs)
    (inside : AreRunsInside feed zone base runs) (listed : AreListed feed zone base runs cs) where
  -- the stops of a run's rows
  stops_at : (r : ℕ) (start : ℤ) (rows : List StopTimeRow) → IsRunAt feed zone runs r start rows → (k : ℕ) (d : StopTimeRow) → k < length rows
      → IsSomeAnd (get_or rows k d).stop (λ s. s < length feed.stops.items)
  stops_at r start rows at k d lt =
      let of : IsTripRun feed.trips.items at.run = subst (λ (x : Run). IsTripRun feed.trips.items x) (get_or_from_slice_get runs r at.run at.run at.is_run)
      (trips r at.run (slice_get_within runs r at.run at.is_run)) in
      let same : of.trip ≡ at.trip = same_Some of.trip at.trip (sym of.is_trip ∙ at.is_trip) in
      let makes : makes_connections at.trip ≡ true = ap (λ (t : Trip). makes_connections t) (sym same) ∙ of.makes in
      let good = (runnable_at feed at.run.trip at.trip at.is_trip).stops_below makes in
      (subst (λ (rs : List StopTimeRow). (k : ℕ) (d : StopTimeRow) → k < length rs → IsSomeAnd (get_or rs k d).stop (λ s. s < length feed.stops.items))
      (sym at.rows_are) good) k d lt

  stop_below : (r : ℕ) (start : ℤ) (rows : List StopTimeRow) (k s : ℕ) (row : StopTimeRow) → IsRunAt feed zone runs r start rows → slice_get rows k ≡ Some row
      → row.stop ≡ Some s → s < length feed.stops.items
  stop_below r start rows k s row at read stop =
      let known = stops_at r start rows at k row (slice_get_within rows k row read) in
      known_below (get_or rows k row).stop s (length feed.stops.items) (ap (λ (x : StopTimeRow). x.stop) (get_or_from_slice_get rows k row row read) ∙ stop)
      known

  hop_of : (i : ℕ) (c : Connection) → At cs i c → (r : ℕ) × (p : ℕ) × IsRunHop feed zone base runs r p c
  hop_of i c at = listed.only c (contains_at cs i c at)

  stops_in_range : (i : ℕ) (c : Connection) → At cs i c → (c.from < length feed.stops.items) × (c.to < length feed.stops.items)
  stops_in_range i c at =
      let w = hop_of i c at in (
        stop_below w.0 w.2.start w.2.rows w.1 c.from w.2.hop.row w.2.run_at w.2.hop.is_row w.2.hop.from,
        stop_below w.0 w.2.start w.2.rows (w.1 + 1) c.to w.2.hop.next w.2.run_at w.2.hop.is_next w.2.hop.to,
      )

  trips_in_range : (i : ℕ) (c : Connection) → At cs i c → c.trip < length runs
  trips_in_range i c at =
      let w = hop_of i c at in
      let within = slice_get_within runs w.0 w.2.run_at.run w.2.run_at.is_run in
      let trip = w.2.hop.trip in
      omega (arith, within, trip)

  takes_time : (i : ℕ) (c : Connection) → At cs i c → c.dep < c.arr
  takes_time i c at =
      let w = hop_of i c at in
      let leaves = w.2.hop.dep.same_instant in
      let reaches = w.2.hop.arr.same_instant in
      let before = leaves_first w.2.rows w.1 in
      omega (arith, ints, leaves, reaches, before)

  never_fall : (i : ℕ) (c d : Connection) → At cs i c → At cs (i + 1) d → c.dep ≤ d.dep
  never_fall i c d at then =
      let x = hop_of i c at in
      let y = hop_of (i + 1) d then in
      (listed.in_order i (i + 1) x.0 x.1 y.0 y.1 c d (omega arith) at then x.2 y.2).by_departure

  -- a run has a connection at each position but its last row's
  hop_at : (r : ℕ) (start : ℤ) (rows : List StopTimeRow) (p : ℕ) → IsRunAt feed zone runs r start rows → p + 1 < length rows → (c : Connection)
      × IsHop base start rows r p c
  hop_at r start rows p at lt =
      let none : StopTimeRow = record { trip = 0; arrival = None; departure = None; stop = None; sequence = 0; board = false; alight = false } in
      let from = some_value (get_or rows p none).stop (length feed.stops.items) (stops_at r start rows at p none (omega (arith, lt))) in
      let to = some_value (get_or rows (p + 1) none).stop (length feed.stops.items) (stops_at r start rows at (p + 1) none lt) in
      let times = inside r start rows at in
      let dep = times.departures p (omega (arith, lt)) in
      let arr = times.arrivals (p + 1) lt (used_later at.run.start p) in (
        record { from = from.0; to = to.0; dep = dep.0; arr = arr.0; trip = r; board = (get_or rows p none).board; alight = (get_or rows (p + 1) none).alight },
        record {
          row = get_or rows p none;
          next = get_or rows (p + 1) none;
          is_row = slice_get-get_or rows p none (omega (arith, lt));
          is_next = slice_get-get_or rows (p + 1) none lt;
          from = from.1;
          to = to.1;
          dep = dep.1;
          arr = arr.1;
          trip = refl;
          board = refl;
          alight = refl;
        },
      )
    where
      some_value : (o : Option ℕ) (n : ℕ) → IsSomeAnd o (λ s. s < n) → (s : ℕ) × (o ≡ Some s)
      some_value None n h = absurd h
      some_value (Some s) n h = (s, refl)

  -- an earlier connection of a run stands before a later one
  stands_before : (i j r p q : ℕ) (start : ℤ) (rows : List StopTimeRow) (c d : Connection) → At cs i c → At cs j d → IsRunAt feed zone runs r start rows
      → IsHop base start rows r p c → IsHop base start rows r q d → p < q → i < j
  stands_before i j r p q start rows c d at_c at_d at x y lt =
      let rise = hops_rise base start rows r r p q c d x y lt in
      elim (cases_order i j) [
        | inl same ↦
            let e : c ≡ d = same_Some c d (sym at_c ∙ ap (λ (n : ℕ). slice_get cs n) same ∙ at_d) in
            let dep = ap (λ (z : Connection). z.dep) e in
            absurd (omega (arith, rise, dep))
        | inr (inl below) ↦ below
        | inr (inr above) ↦
            let back = (listed.in_order j i r q r p d c above at_d at_c (record { start = start; rows = rows; run_at = at; hop = y })
            (record { start = start; rows = rows; run_at = at; hop = x })).by_departure in
            absurd (omega (arith, rise, back))
      ]

  joined : (start : ℤ) (rows : List StopTimeRow) (r p q : ℕ) (c d : Connection) → IsHop base start rows r p c → IsHop base start rows r q d → q ≡ p + 1
      → (c.to ≡ d.from) × (c.arr ≤ d.dep)
  joined start rows r p q c d x y e =
      let row : x.next ≡ y.row = same_Some x.next y.row (sym x.is_next ∙ ap (λ (n : ℕ). slice_get rows n) (sym e) ∙ y.is_row) in
      let stop : c.to ≡ d.from = same_Some c.to d.from (sym x.to ∙ ap (λ (z : StopTimeRow). z.stop) row ∙ y.from) in
      let waits = stays rows p in
      let reaches = x.arr.same_instant in
      let leaves : IsClock base start (departs rows (p + 1)) d.dep = subst (λ (n : ℕ). IsClock base start (departs rows n) d.dep) e y.dep in
      let fact = leaves.same_instant in
      (stop, omega (arith, ints, waits, reaches, fact))

  -- of the connection at i, in the run's rows, and that at j, later in them, with none of the run between
  next_one : (i j r p q : ℕ) (start : ℤ) (rows : List StopTimeRow) (c d : Connection) → IsJustBefore cs i j c d → IsRunAt feed zone runs r start rows
      → IsHop base start rows r p c → IsHop base start rows r q d → p < q → q ≡ p + 1
  next_one i j r p q start rows c d before at x y lt =
      elim (cases_order q (p + 1)) [
        | inl same ↦ same
        | inr (inl below) ↦ absurd (omega (arith, lt, below))
        | inr (inr above) ↦
            let within = hop_within base start rows r q d y in
            let e = hop_at r start rows (p + 1) at (omega (arith, above, within)) in
            let position = at_contains cs e.0 (listed.each r (p + 1) e.0 (record { start = start; rows = rows; run_at = at; hop = e.1 })) in
            let low = stands_before i position.0 r p (p + 1) start rows c e.0 before.first position.1 at x e.1 (omega arith) in
            let high = stands_before position.0 j r (p + 1) q start rows e.0 d position.1 before.second at e.1 y above in
            absurd (before.none_between position.0 e.0 position.1 low high (e.1.trip ∙ sym y.trip))
      ]

  unbroken : (i j : ℕ) (c d : Connection) → IsJustBefore cs i j c d → (c.to ≡ d.from) × (c.arr ≤ d.dep)
  unbroken i j c d before =
      let x = hop_of i c before.first in
      let y = hop_of j d before.second in
      let run : y.0 ≡ x.0 = sym y.2.hop.trip ∙ sym before.same_trip ∙ x.2.hop.trip in
      let other : IsRunHop feed zone base runs x.0 y.1 d = subst (λ (n : ℕ). IsRunHop feed zone base runs n y.1 d) run y.2 in
      let same = same_run_at feed zone runs x.0 other.start x.2.start other.rows x.2.rows other.run_at x.2.run_at in
      let hop : IsHop base x.2.start x.2.rows x.0 y.1 d = hop_along base other.start x.2.start other.rows x.2.rows x.0 y.1 d same.0 same.1 other.hop in
      elim (cases_order x.1 y.1) [
        | inl equal ↦
            let twin : IsHop base x.2.start x.2.rows x.0 y.1 c = subst (λ (n : ℕ). IsHop base x.2.start x.2.rows x.0 n c) equal x.2.hop in
            let e : c ≡ d = same_hop base x.2.start x.2.rows x.0 y.1 c d twin hop in
            let order = listed.in_order i j x.0 x.1 x.0 y.1 c d before.before before.first before.second x.2 other in
            let rises = order.by_position (ap (λ (z : Connection). z.dep) e) (ap (λ (z : Connection). z.arr) e) (ap (λ (z : Connection). z.trip) e) in
            absurd (omega (arith, rises, equal))
        | inr (inl below) ↦ joined x.2.start x.2.rows x.0 x.1 y.1 c d x.2.hop hop
            (next_one i j x.0 x.1 y.1 x.2.start x.2.rows c d before x.2.run_at x.2.hop hop below)
        | inr (inr above) ↦
            let back = stands_before j i x.0 y.1 x.1 x.2.start x.2.rows d c before.second before.first x.2.run_at hop x.2.hop above in
            let forth = before.before in
            absurd (omega (arith, back, forth))
      ]

  pub legal_listed : HasLegalConnections (length feed.stops.items) (length runs) cs
  legal_listed = record {
    stops_in_range = stops_in_range;
    trips_in_range = trips_in_range;
    takes_time = takes_time;
    departures_never_fall =
        never_fall;
    unbroken = unbroken;
  }

pub legal_listing : (feed : Feed) (zone : Zone) (first : Day) (days : ℕ) (cs : List Connection) (runs : List Run) → 1 ≤ days
    → IsListing feed zone first days cs runs → HasLegalConnections (length feed.stops.items) (length runs) cs
legal_listing feed zone first days cs runs some l =
    let base = base_of zone first days some l.started in
    legal_listed feed zone base.0 runs cs (runs_are_of feed (days_from first days) runs l.runs_are).0 (l.inside base.0 base.1) (l.listed base.0 base.1)

pub limits_listing : (feed : Feed) (zone : Zone) (first : Day) (days : ℕ) (cs : List Connection) (runs : List Run) → 1 ≤ days
    → IsListing feed zone first days cs runs → AreWithinLimits (length runs) cs
limits_listing feed zone first days cs runs some l =
    let base = base_of zone first days some l.started in
    record {
      trips = l.few_runs;
      few = l.few;
      times = λ i c at. (let w = (l.listed base.0 base.1).only c (contains_at cs i c at) in w.2.hop.arr.in_time);
    }
