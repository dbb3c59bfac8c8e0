use Rattle.std.proofs.Common.{◌≡◌, ◌<◌, ◌⊎◌, ◌∙◌, ap, sym, subst, inl, inr, min, ℤ, pos, List, map, length, get_or, All, Contains, lit<}
use Rattle.gtfs_rows.specs.declared.fault.Table.TheVariants as tables
use Rattle.gtfs_tables.specs.declared.tables.Trip.{Trip}
use Rattle.service_days.specs.Zones.{IsDayStart}
use Rattle.service_days.specs.declared.zone.Zone.{Zone}
use Rattle.timetable.specs.declared.limits.TheConstants.{MAX_CONNECTIONS, MAX_TRIPS}
use Rattle.connections.specs.Building.{AreByRun}
use Rattle.connections.specs.Days.{AreStarted, days_from}
use Rattle.connections.specs.Faults.{no_memory_for_runs, run_fault, too_many_of}
use Rattle.connections.specs.Listed.{IsFirstOutside}
use Rattle.connections.specs.Runs.{IsTripRun, count_hops, runs_of_days}
use Rattle.connections.specs.declared.days.ServiceDay.{ServiceDay}
use Rattle.connections.specs.declared.runs.Run.{Run}
use Rattle.connections.proofs.DaySteps.{first_day}
use Rattle.connections.proofs.FinalLemmas.{connections_refused, have_digits, listing_made, ran_out, runs_are_of, runs_refused, times_refused}
use Rattle.connections.proofs.listing.runs_of.Goals.{After-count_connections-count, In-Ok, In-Ok-connections_by_run, In-Ok-runs_on}
use Rattle.connections.proofs.listing.runs_of.Goals as goal

abbrev no_day : ServiceDay
no_day = record { day = record { year = 0; month = 0; day = 0 }; start = pos 0 }

room : MAX_CONNECTIONS < 18446744073709551615
room = lit< tt

started : (c : goal.In-Ok) → AreStarted c.args.zone.now (days_from c.args.first_day c.args.days) c.in-Ok.days.items
started c = c.in-Ok.ensures.ok

abbrev base_of : (c : goal.In-Ok) → ℤ
base_of c = (get_or c.in-Ok.days.items 0 no_day).start

first_starts : (c : goal.In-Ok) → (0 < length c.in-Ok.days.items) × IsDayStart c.args.zone.now c.args.first_day (base_of c)
first_starts c = first_day c.args.zone.now c.args.first_day c.args.days c.in-Ok.days.items no_day (started c) c.requires.some

runs_are : (c : goal.In-Ok-runs_on) → c.in-Ok-runs_on.runs.items ≡ runs_of_days c.args.feed.now (map (λ (d : ServiceDay). d.day) c.in-Ok.days.items)
runs_are c = c.in-Ok-runs_on.ensures.ok ∙ ap (λ (ds : List ServiceDay). runs_of_days c.args.feed.now (map (λ (d : ServiceDay). d.day) ds)) c.deref.ensures.value

of_trips : (c : goal.In-Ok-runs_on) → All (IsTripRun c.args.feed.now.trips.items) c.in-Ok-runs_on.runs.items
    × All (λ (run : Run). Contains (map (λ (d : ServiceDay). d.day) c.in-Ok.days.items) run.day) c.in-Ok-runs_on.runs.items
of_trips c = runs_are_of c.args.feed.now (map (λ (d : ServiceDay). d.day) c.in-Ok.days.items) c.in-Ok-runs_on.runs.items (runs_are c)

counted : (c : goal.After-count_connections-count)
    → c.count_connections-count.result ≡ min (count_hops c.args.feed.now.trips.items c.in-Ok-runs_on.runs.items) 18446744073709551615
counted c = c.count_connections-count.ensures ∙ ap (λ (ts : List Trip). min (count_hops ts c.deref-3.result.now) 18446744073709551615) c.deref-2.ensures.value
    ∙ ap (λ (rs : List Run). min (count_hops c.args.feed.now.trips.items rs) 18446744073709551615) c.deref-3.ensures.value

-- the base and the starts of days that are read
days_read : (zone : Zone) (days read : List ServiceDay) → read ≡ days → All (λ (d : ServiceDay). IsDayStart zone d.day d.start) days
    → ((get_or days 0 no_day).start ≡ (get_or read 0 no_day).start) × All (λ (d : ServiceDay). IsDayStart zone d.day d.start) read
days_read zone days read e starts = (
  ap (λ (ds : List ServiceDay). (get_or ds 0 no_day).start) (sym e),
  subst (λ (ds : List ServiceDay). All (λ (d : ServiceDay). IsDayStart zone d.day d.start) ds) (sym e) starts,
)

by_run : (c : goal.In-Ok-connections_by_run) → AreByRun c.args.feed.now c.args.zone.now (get_or c.in-Ok.days.items 0 no_day).start
    c.in-Ok-runs_on.runs.items (length c.in-Ok-runs_on.runs.items) c.in-Ok-connections_by_run.connections.items
by_run c =
    let base = (get_or c.in-Ok.days.items 0 no_day).start in
    let known = days_read c.args.zone.now c.in-Ok.days.items c.deref-5.result.now c.deref-5.ensures.value c.in-Ok.ensures.ok.starts in
    subst (λ (rs : List Run). AreByRun c.args.feed.now c.args.zone.now base rs (length rs) c.in-Ok-connections_by_run.connections.items)
    c.deref-6.ensures.value (c.in-Ok-connections_by_run.ensures.ok c.args.zone.now base no_day known.0 known.1)

pub returns-in-Err-runs_on-clause-err : goal.returns-in-Err-runs_on-clause-err
returns-in-Err-runs_on-clause-err c =
    let fault = c.in-Err-runs_on.fault in
    runs_refused c.args.feed.now c.args.zone.now c.args.first_day c.args.days c.in-Ok.days.items fault c.in-Ok.ensures.ok
    (subst (λ (ds : List ServiceDay). (fault ≡ no_memory_for_runs)
    ⊎ ((fault ≡ too_many_of tables.Trips) × (MAX_TRIPS < length (runs_of_days c.args.feed.now (map (λ (d : ServiceDay). d.day) ds)))))
    c.deref.ensures.value c.in-Err-runs_on.ensures.err)

pub count_connections-count-requires : goal.count_connections-count-requires
count_connections-count-requires c =
    let of = of_trips (goal.at.count_connections-count-requires c).In-Ok-runs_on in
    subst (λ (rs : List Run). All (IsTripRun c.deref-2.result.now) rs) (sym c.deref-3.ensures.value)
    (subst (λ (ts : List Trip). All (IsTripRun ts) c.in-Ok-runs_on.runs.items) (sym c.deref-2.ensures.value) of.0)

pub returns-then-count-clause-err : goal.returns-then-count-clause-err
returns-then-count-clause-err c =
    let known = (goal.at.returns-then-count-clause-err c).After-count_connections-count in
    inr (connections_refused c.args.feed.now c.args.zone.now c.args.first_day c.args.days c.in-Ok.days.items c.in-Ok-runs_on.runs.items
    c.count_connections-count.result 18446744073709551615 c.too_many.result c.in-Ok.ensures.ok
    (runs_are (goal.at.returns-then-count-clause-err c).In-Ok-runs_on) c.in-Ok-runs_on.ensures.few (counted known) c.if-count.true c.too_many.ensures)

-- the days have starts, and memory ran out
pub returns-in_default-clause-err : goal.returns-in_default-clause-err
returns-in_default-clause-err c =
    inl (ran_out c.args.zone.now (days_from c.args.first_day c.args.days) c.in-Ok.days.items c.out_of_memory.result c.in-Ok.ensures.ok
    c.out_of_memory.ensures)

pub returns-in_default-times_of_trips-clause-err : goal.returns-in_default-times_of_trips-clause-err
returns-in_default-times_of_trips-clause-err c =
    inl (ran_out c.args.zone.now (days_from c.args.first_day c.args.days) c.in-Ok.days.items c.out_of_memory-in_default-times_of_trips.result
    c.in-Ok.ensures.ok c.out_of_memory-in_default-times_of_trips.ensures)

pub connections_by_run-requires-clause-trips : goal.connections_by_run-requires-clause-trips
connections_by_run-requires-clause-trips c =
    let of = of_trips (goal.at.connections_by_run-requires-clause-trips c).In-Ok-runs_on in
    subst (λ (rs : List Run). All (IsTripRun c.args.feed.now.trips.items) rs) (sym c.deref-6.ensures.value) of.0

pub connections_by_run-requires-clause-days : goal.connections_by_run-requires-clause-days
connections_by_run-requires-clause-days c =
    let of = of_trips (goal.at.connections_by_run-requires-clause-days c).In-Ok-runs_on in
    subst (λ (rs : List Run). All (λ (run : Run). Contains (map (λ (d : ServiceDay). d.day) c.deref-5.result.now) run.day) rs) (sym c.deref-6.ensures.value)
    (subst (λ (ds : List ServiceDay). All (λ (run : Run). Contains (map (λ (d : ServiceDay). d.day) ds) run.day) c.in-Ok-runs_on.runs.items)
    (sym c.deref-5.ensures.value) of.1)

pub connections_by_run-requires-clause-some : goal.connections_by_run-requires-clause-some
connections_by_run-requires-clause-some c = subst (λ (ds : List ServiceDay). 0 < length ds) (sym c.deref-5.ensures.value)
    (first_starts (goal.at.connections_by_run-requires-clause-some c).In-Ok).0

pub returns-in-Err-connections_by_run-clause-err : goal.returns-in-Err-connections_by_run-clause-err
returns-in-Err-connections_by_run-clause-err c =
    let known = days_read c.args.zone.now c.in-Ok.days.items c.deref-5.result.now c.deref-5.ensures.value c.in-Ok.ensures.ok.starts in
    let base : ℤ = (get_or c.in-Ok.days.items 0 no_day).start in
    let fault = c.in-Err-connections_by_run.fault in
    times_refused c.args.feed.now c.args.zone.now c.args.first_day c.args.days c.in-Ok.days.items c.in-Ok-runs_on.runs.items c.count_connections-count.result
    18446744073709551615 base fault c.in-Ok.ensures.ok (runs_are (goal.at.returns-in-Err-connections_by_run-clause-err c).In-Ok-runs_on)
    c.in-Ok-runs_on.ensures.few (counted (goal.at.returns-in-Err-connections_by_run-clause-err c).After-count_connections-count) c.if-count.false room
    (first_starts (goal.at.returns-in-Err-connections_by_run-clause-err c).In-Ok).1
    (subst (λ (rs : List Run). (fault ≡ no_memory_for_runs)
    ⊎ ((run : Run) × (fault ≡ run_fault run) × IsFirstOutside c.args.feed.now c.args.zone.now base rs run))
    c.deref-6.ensures.value (c.in-Err-connections_by_run.ensures.err c.args.zone.now base no_day known.0 known.1))

pub put_in_order-requires : goal.put_in_order-requires
put_in_order-requires c = have_digits c.args.feed.now c.args.zone.now (get_or c.in-Ok.days.items 0 no_day).start c.in-Ok-runs_on.runs.items
    c.in-Ok-connections_by_run.connections.items (by_run (goal.at.put_in_order-requires c).In-Ok-connections_by_run) c.in-Ok-runs_on.ensures.few

pub returns-clause-ok : goal.returns-clause-ok
returns-clause-ok c = listing_made c.args.feed.now c.args.zone.now c.args.first_day c.args.days c.in-Ok.days.items c.in-Ok-runs_on.runs.items
    c.count_connections-count.result 18446744073709551615 c.in-Ok-connections_by_run.connections.items c.put_in_order.new.connections.items
    (get_or c.in-Ok.days.items 0 no_day).start c.in-Ok.ensures.ok (runs_are (goal.at.returns-clause-ok c).In-Ok-runs_on) c.in-Ok-runs_on.ensures.few
    (counted (goal.at.returns-clause-ok c).After-count_connections-count) c.if-count.false room (first_starts (goal.at.returns-clause-ok c).In-Ok).1
    (by_run (goal.at.returns-clause-ok c).In-Ok-connections_by_run) c.put_in_order.ensures.permutation c.put_in_order.ensures.sorted
