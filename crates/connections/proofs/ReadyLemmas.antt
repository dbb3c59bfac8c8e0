-- A run whose rows and times are known.
use Rattle.std.proofs.Common.{◌≡◌, ℕ, ℤ, ◌+◌, ◌-◌, ◌<◌, ◌≤◌, min, List, length, get_or, take, Option, Some, None, IsSome, IsSomeAnd, All, true, refl, sym, ap}
use Rattle.std.proofs.Common.{◌∙◌, subst, arith}
use Rattle.std.specs.Prelude.{◌+ℤ◌}
use Rattle.std.specs.List.{slice_get}
use Rattle.std.specs.Option.{option_map_or}
use Rattle.std.proofs.lemmas.Bool.{and_parts, leb-true}
use Rattle.std.proofs.lemmas.List.Sums.{sum_by_more}
use Rattle.std.proofs.lemmas.Option.{get_or_from_slice_get, slice_get_within}
use Rattle.gtfs_rows.specs.declared.rows.StopTimeRow.{StopTimeRow}
use Rattle.gtfs_tables.specs.Joined.{IsRunnableTrip, makes_connections, rows_of}
use Rattle.gtfs_tables.specs.declared.tables.Feed.{Feed}
use Rattle.gtfs_tables.specs.declared.tables.Trip.{Trip}
use Rattle.service_days.specs.Zones.{IsDayStart}
use Rattle.service_days.specs.declared.zone.Zone.{Zone}
use Rattle.connections.specs.Building.{AreRunRows}
use Rattle.connections.specs.Hops.{AreInside, HasOutside, HaveClocks, IsInside, LackClocks, LiesOutside, shift_by, shift_of, zero_of}
use Rattle.connections.specs.Runs.{IsTripRun, count_hops, hops_of, run_hops}
use Rattle.connections.specs.Times.{AreTimesBefore, AreTimesOf, departs, row_times}
use Rattle.connections.specs.declared.hops.RunClock.{RunClock}
use Rattle.connections.specs.declared.runs.Run.{Run}
use Rattle.connections.specs.declared.times.RowTimes.{RowTimes}
use Rattle.connections.specs.declared.times.TripTimes.{TripTimes}

pub record IsReady (feed : Feed) (run : Run) (rows : List StopTimeRow) (times : List RowTimes) : Type 0 where
  pub trip : Trip
  pub is_trip : slice_get feed.trips.items run.trip ≡ Some trip
  pub rows_are : rows ≡ rows_of feed.stop_times.items trip
  pub some : 0 < length rows
  pub hops_are : hops_of trip ≡ length rows - 1
  pub same_length : length times ≡ length rows
  pub times_are : AreTimesBefore rows times (length rows)
  pub stops : All (λ row. IsSome row.stop) rows

some_stop : (o : Option ℕ) (n : ℕ) → IsSomeAnd o (λ s. s < n) → IsSome o
some_stop None n h = absurd h
some_stop (Some s) n h = refl

pub trip_of : (trips : List Trip) (position : ℕ) (trip known : Trip) → trip ≡ get_or trips position trip → slice_get trips position ≡ Some known → trip ≡ known
trip_of trips position trip known read at = read ∙ get_or_from_slice_get trips position known trip at

-- the trip at an index of a feed is runnable
pub runnable_at : (feed : Feed) (position : ℕ) (trip : Trip) → slice_get feed.trips.items position ≡ Some trip
    → IsRunnableTrip (length feed.stops.items) feed.stop_times.items trip
runnable_at feed position trip at =
    subst (λ (t : Trip). IsRunnableTrip (length feed.stops.items) feed.stop_times.items t) (get_or_from_slice_get feed.trips.items position trip trip at)
    (feed.runnable position trip (slice_get_within feed.trips.items position trip at))

pub two_rows : (trip : Trip) → makes_connections trip ≡ true → 2 ≤ trip.end - trip.first
two_rows trip makes = leb-true 2 (trip.end - trip.first) (and_parts _ _ makes).1

pub ready : (feed : Feed) (run : Run) (all : List TripTimes) (trip : Trip) (rows : List StopTimeRow) (mine : TripTimes) (times : List RowTimes)
    → AreTimesOf feed.stop_times.items feed.trips.items all → IsTripRun feed.trips.items run → trip ≡ get_or feed.trips.items run.trip trip
    → rows ≡ rows_of feed.stop_times.items trip → length rows ≡ trip.end - trip.first
    → mine ≡ get_or all run.trip mine → times ≡ mine.rows.items → IsReady feed run rows times
ready feed run all trip rows mine times timed is read rows_are len got times_are =
    let same : trip ≡ is.trip = trip_of feed.trips.items run.trip trip is.trip read is.is_trip in
    let at : slice_get feed.trips.items run.trip ≡ Some trip = is.is_trip ∙ ap (λ (t : Trip). Some t) (sym same) in
    let makes : makes_connections trip ≡ true = ap (λ (t : Trip). makes_connections t) same ∙ is.makes in
    let good = runnable_at feed run.trip trip at in
    let two = two_rows trip makes in
    let known = (timed.each run.trip trip mine at).made makes in
    let whole = subst (λ (t : TripTimes). length t.rows.items ≡ length (rows_of feed.stop_times.items trip)) (sym got) known.same_length in
    let each = subst (λ (t : TripTimes). AreTimesBefore (rows_of feed.stop_times.items trip) t.rows.items (length (rows_of feed.stop_times.items trip)))
    (sym got) known.times_are in
    record {
      trip = trip;
      is_trip = at;
      rows_are = rows_are;
      some = omega (arith, len, two);
      hops_are = ap (λ n. n - 1) (sym len);
      same_length = ap length times_are ∙ whole ∙ ap length (sym rows_are);
      times_are = rw (times_are, rows_are) each;
      stops = rw rows_are (λ k d lt. some_stop (get_or (rows_of feed.stop_times.items trip) k d).stop (length feed.stops.items)
          (good.stops_below makes k d lt));
    }

-- the instant from which a run's clock counts is that of the run
pub run_rows : (feed : Feed) (zone : Zone) (run : Run) (clock : RunClock) (rows : List StopTimeRow) (times : List RowTimes) → IsReady feed run rows times
    → IsDayStart zone run.day clock.day.start → clock.start ≡ run.start
    → clock.own ≡ departs rows 0 → AreRunRows feed zone run (zero_of clock) rows
run_rows feed zone run clock rows times r starts same own = record {
  trip = r.trip;
  is_trip = r.is_trip;
  starts = record {
    day = clock.day.start;
    is_day = starts;
    is = ap (λ n. clock.day.start +ℤ shift_by clock.start n) own
        ∙ ap (λ (o : Option ℕ). clock.day.start +ℤ shift_of o rows) same;
  };
  rows_are = r.rows_are;
  hops_are = r.hops_are;
}

no_times : RowTimes
no_times = record { arrival = 0; departure = 0 }

-- when the first row departs
pub first_departs : (feed : Feed) (run : Run) (rows : List StopTimeRow) (times : List RowTimes) (d : RowTimes) → IsReady feed run rows times
    → (get_or times 0 d).departure ≡ departs rows 0
first_departs feed run rows times d r = ap (λ (t : RowTimes). t.departure) (r.times_are 0 d r.some)

pub all_inside : (feed : Feed) (run : Run) (base start : ℤ) (repeat : Option ℕ) (rows : List StopTimeRow) (times : List RowTimes) → IsReady feed run rows times
    → HaveClocks base start repeat times → AreInside base start repeat rows
all_inside feed run base start repeat rows times r inside =
    let at : (k : ℕ) → k < length rows → IsInside base start repeat k (row_times rows k) =
    λ k lt. subst (λ (t : RowTimes). IsInside base start repeat k t) (r.times_are k no_times lt)
    (inside k no_times (let len = r.same_length in omega (arith, len, lt))) in
    record { arrivals = λ k lt used. (at k lt).arrival used; departures = λ k lt. (at k lt).departure }

pub some_outside : (feed : Feed) (run : Run) (base start : ℤ) (repeat : Option ℕ) (rows : List StopTimeRow) (times : List RowTimes)
    → IsReady feed run rows times → LackClocks base start repeat times → HasOutside base start repeat rows
some_outside feed run base start repeat rows times r outside =
    let lt : outside.0 < length rows = (let len = r.same_length in let within = outside.2 in omega (arith, len, within)) in
    let is : get_or times outside.0 outside.1 ≡ row_times rows outside.0 = r.times_are outside.0 outside.1 lt in
    (outside.0, lt, subst (λ (t : RowTimes). LiesOutside base start repeat outside.0 t) is outside.3)

-- the connections of one run more
pub hops_step : (trips : List Trip) (runs : List Run) (i : ℕ) (run : Run) (trip : Trip) (count new most : ℕ) → i < length runs → run ≡ get_or runs i run
    → IsTripRun trips run → trip ≡ get_or trips run.trip trip
    → count ≡ min (count_hops trips (take i runs)) most → new ≡ min (count + (trip.end - trip.first - 1)) most
    → new ≡ min (count_hops trips (take (i + 1) runs)) most
hops_step trips runs i run trip count new most lt is known read was now =
    let more : count_hops trips (take (i + 1) runs) ≡ count_hops trips (take i runs) + run_hops trips run = sum_by_more (run_hops trips) runs i run lt
    ∙ ap (λ (x : Run). count_hops trips (take i runs) + run_hops trips x) (sym is) in
    let same : trip ≡ known.trip = trip_of trips run.trip trip known.trip read known.is_trip in
    let mine : run_hops trips run ≡ trip.end - trip.first - 1 = ap (λ (o : Option Trip). option_map_or hops_of o 0) known.is_trip ∙ ap hops_of (sym same) in
    omega (arith, more, mine, was, now)
