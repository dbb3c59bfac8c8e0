use Rattle.std.proofs.Common.{◌≡◌, ◌∙◌, ap, sym, subst, refl, inr, List, length, get_or}
use Rattle.gtfs_rows.specs.declared.rows.StopTimeRow.{StopTimeRow}
use Rattle.gtfs_tables.specs.Joined.{rows_of}
use Rattle.service_days.specs.Zones.{IsDayStart}
use Rattle.service_days.specs.declared.zone.Zone.{Zone}
use Rattle.connections.specs.Building.{AreRunRows}
use Rattle.connections.specs.Hops.{AreInside, HasOutside, HaveClocks, LackClocks, zero_of}
use Rattle.connections.specs.Times.{departs}
use Rattle.connections.specs.declared.hops.RunClock.{RunClock}
use Rattle.connections.specs.declared.times.RowTimes.{RowTimes}
use Rattle.connections.specs.declared.times.TripTimes.{TripTimes}
use Rattle.connections.proofs.ReadyLemmas.{IsReady, all_inside, first_departs, ready, run_rows, some_outside}
use Rattle.connections.proofs.listing.list_run.Goals.{After-are_inside, After-deref-3}
use Rattle.connections.proofs.listing.list_run.Goals as goal

is_ready : (c : goal.After-are_inside) → IsReady c.args.feed.now c.args.run.now c.rows_of-rows.result.now c.deref-2.result.now
is_ready c = ready c.args.feed.now c.args.run.now c.args.times.now c.index-trip.result.now c.rows_of-rows.result.now c.index-times-position.result
    c.deref-2.result.now c.requires.times c.requires.trip
    c.index-trip.ensures (c.rows_of-rows.ensures.rows ∙ ap (λ (st : List StopTimeRow). rows_of st c.index-trip.result.now) c.deref.ensures.value)
    c.rows_of-rows.ensures.len c.index-times-position.is (c.deref-2.ensures.value ∙ ap (λ (t : TripTimes). t.rows.items) (sym c.index-times-position.is))

abbrev clock_of : (c : goal.After-are_inside) → RunClock
clock_of c = record { day = c.args.day; start = c.args.run.now.start; own = c.index.result.now.departure }

are_its_rows : (c : goal.After-are_inside) (zone : Zone) → IsDayStart zone c.args.run.now.day c.args.day.start
    → AreRunRows c.args.feed.now zone c.args.run.now (zero_of (clock_of c)) c.rows_of-rows.result.now
are_its_rows c zone starts =
    let own : (clock_of c).own ≡ departs c.rows_of-rows.result.now 0 = ap (λ (t : RowTimes). t.departure) c.index.ensures
    ∙ ap (λ (ts : List RowTimes). (get_or ts 0 c.index.result.now).departure) (sym c.deref-2.ensures.value)
    ∙ first_departs c.args.feed.now c.args.run.now c.rows_of-rows.result.now c.deref-2.result.now c.index.result.now (is_ready c) in
    run_rows c.args.feed.now zone c.args.run.now (clock_of c) c.rows_of-rows.result.now c.deref-2.result.now (is_ready c) starts refl own

are_all_inside : (c : goal.After-are_inside) → HaveClocks c.args.day.base (zero_of (clock_of c)) c.args.run.now.start c.deref-2.result.now
    → AreInside c.args.day.base (zero_of (clock_of c)) c.args.run.now.start c.rows_of-rows.result.now
are_all_inside c = all_inside c.args.feed.now c.args.run.now c.args.day.base (zero_of (clock_of c)) c.args.run.now.start c.rows_of-rows.result.now
    c.deref-2.result.now (is_ready c)

are_some_outside : (c : goal.After-are_inside) → LackClocks c.args.day.base (zero_of (clock_of c)) c.args.run.now.start c.deref-2.result.now
    → HasOutside c.args.day.base (zero_of (clock_of c)) c.args.run.now.start c.rows_of-rows.result.now
are_some_outside c = some_outside c.args.feed.now c.args.run.now c.args.day.base (zero_of (clock_of c)) c.args.run.now.start c.rows_of-rows.result.now
    c.deref-2.result.now (is_ready c)

pub returns-then-not-are_inside-clause-err : goal.returns-then-not-are_inside-clause-err
returns-then-not-are_inside-clause-err c zone starts =
    let known = (goal.at.returns-then-not-are_inside-clause-err c).After-are_inside in
    inr (
      refl,
      record {
        start = zero_of (clock_of known);
        rows = c.rows_of-rows.result.now;
        rows_are = are_its_rows known zone starts;
        outside = are_some_outside known c.if-not-are_inside.ensures;
      },
    )

same_times : (c : goal.After-deref-3) → c.deref-3.result.now ≡ c.deref-2.result.now
same_times c = c.deref-3.ensures.value ∙ sym c.deref-2.ensures.value

pub add_hops-requires-clause-some : goal.add_hops-requires-clause-some
add_hops-requires-clause-some c = (is_ready (goal.at.add_hops-requires-clause-some c).After-are_inside).some

pub add_hops-requires-clause-same_length : goal.add_hops-requires-clause-same_length
add_hops-requires-clause-same_length c = ap (λ (ts : List RowTimes). length ts) (same_times c)
    ∙ (is_ready (goal.at.add_hops-requires-clause-same_length c).After-are_inside).same_length

pub add_hops-requires-clause-times_are : goal.add_hops-requires-clause-times_are
add_hops-requires-clause-times_are c k d lt = ap (λ (ts : List RowTimes). get_or ts k d) (same_times c)
    ∙ (is_ready (goal.at.add_hops-requires-clause-times_are c).After-are_inside).times_are k d lt

pub add_hops-requires-clause-inside : goal.add_hops-requires-clause-inside
add_hops-requires-clause-inside c =
    let known = (goal.at.add_hops-requires-clause-inside c).After-are_inside in
    subst (λ (ts : List RowTimes). HaveClocks c.args.day.base (zero_of (clock_of known)) c.args.run.now.start ts) (sym (same_times c))
    c.if-not-are_inside.ensures

pub add_hops-requires-clause-stops : goal.add_hops-requires-clause-stops
add_hops-requires-clause-stops c = (is_ready (goal.at.add_hops-requires-clause-stops c).After-are_inside).stops

pub returns-in-Ok-clause-ok : goal.returns-in-Ok-clause-ok
returns-in-Ok-clause-ok c zone starts =
    let known = (goal.at.returns-in-Ok-clause-ok c).After-are_inside in
    record {
      start = zero_of (clock_of known);
      rows = c.rows_of-rows.result.now;
      rows_are = are_its_rows known zone starts;
      inside = are_all_inside known c.if-not-are_inside.ensures;
      adds = c.in-Ok.ensures;
    }
