use Rattle.std.proofs.Common.{sym}
use Rattle.feed_days.specs.Service.{HoldsOfNone, gives_weekly}
use Rattle.feed_days.proofs.Rows.{ends, weekly_civil, weekly_from}
use Rattle.feed_days.proofs.Spans.{if_none, none_to_first, none_to_start, to_before, to_found}
use Rattle.feed_days.proofs.span.last_of.Goals as goal

pub loop-day-init : goal.loop-day-init
loop-day-init c =
    let to = ends c.args.row.now c.civil_or-day.result c.civil_or-day.ensures.civil c.civil_or-day.ensures.other in
    record { civil = to.0; to = to.1 }

pub returns-then-gives-clause-some : goal.returns-then-gives-clause-some
returns-then-gives-clause-some c =
    to_found (gives_weekly c.args.row.now) c.loop-day.day (weekly_civil c.args.row.now) c.loop-day.invariant.civil (sym c.if-gives.ensures)
    c.loop-day.invariant.to

pub returns-in_err-day-clause-none : goal.returns-in_err-day-clause-none
returns-in_err-day-clause-none c =
    if_none c.from_residual.result (HoldsOfNone (gives_weekly c.args.row.now))
    (none_to_first (gives_weekly c.args.row.now) c.loop-day.day (weekly_civil c.args.row.now) c.loop-day.invariant.civil (sym c.if-gives.ensures)
    c.loop-day.invariant.to c.in_err-day.ensures.none)

pub loop-day-preserved : goal.loop-day-preserved
loop-day-preserved c = record {
  civil = c.in_ok-day.ensures.some.0;
  to = to_before (gives_weekly c.args.row.now) c.loop-day.day c.in_ok-day.day (weekly_civil c.args.row.now) c.loop-day.invariant.civil
      (sym c.if-gives.ensures) c.in_ok-day.ensures.some.1 c.loop-day.invariant.to;
}

pub returns-clause-none : goal.returns-clause-none
returns-clause-none c =
    none_to_start (gives_weekly c.args.row.now) c.loop-day.day c.args.row.now.start (weekly_civil c.args.row.now) c.loop-day.invariant.civil
    c.loop-day.invariant.to (sym c.loop-day-test.ensures) (weekly_from c.args.row.now)
