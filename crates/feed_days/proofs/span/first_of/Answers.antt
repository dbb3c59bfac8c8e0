use Rattle.std.proofs.Common.{◌-◌, ◌<◌, arith, sym}
use Rattle.feed_days.specs.Service.{HoldsOfNone, day_ordinal, gives_weekly}
use Rattle.feed_days.proofs.Order.{number_bound}
use Rattle.feed_days.proofs.Rows.{starts, weekly_civil, weekly_to}
use Rattle.feed_days.proofs.Spans.{from_found, from_next, if_none, none_from_end, none_from_last}
use Rattle.feed_days.proofs.span.first_of.Goals as goal

pub loop-day-init : goal.loop-day-init
loop-day-init c =
    let from = starts c.args.row.now c.civil_or-day.result c.civil_or-day.ensures.civil c.civil_or-day.ensures.other in
    record { civil = from.0; from = from.1 }

pub returns-then-gives-clause-some : goal.returns-then-gives-clause-some
returns-then-gives-clause-some c =
    from_found (gives_weekly c.args.row.now) c.loop-day.day (weekly_civil c.args.row.now) c.loop-day.invariant.civil (sym c.if-gives.ensures)
    c.loop-day.invariant.from

pub returns-in_err-day-clause-none : goal.returns-in_err-day-clause-none
returns-in_err-day-clause-none c =
    if_none c.from_residual.result (HoldsOfNone (gives_weekly c.args.row.now))
    (none_from_last (gives_weekly c.args.row.now) c.loop-day.day (weekly_civil c.args.row.now) c.loop-day.invariant.civil (sym c.if-gives.ensures)
    c.loop-day.invariant.from c.in_err-day.ensures.none)

pub loop-day-smaller : goal.loop-day-smaller
loop-day-smaller c =
    let more = c.in_ok-day.ensures.some.1 in
    let bound = number_bound c.in_ok-day.day c.in_ok-day.ensures.some.0 in
    let less : 7_304_850 - day_ordinal c.in_ok-day.day < 7_304_850 - day_ordinal c.loop-day.day = omega (arith, more, bound) in
    less

pub loop-day-preserved : goal.loop-day-preserved
loop-day-preserved c = record {
  civil = c.in_ok-day.ensures.some.0;
  from = from_next (gives_weekly c.args.row.now) c.loop-day.day c.in_ok-day.day (weekly_civil c.args.row.now) c.loop-day.invariant.civil
      (sym c.if-gives.ensures) c.in_ok-day.ensures.some.1 c.loop-day.invariant.from;
}

pub returns-clause-none : goal.returns-clause-none
returns-clause-none c =
    none_from_end (gives_weekly c.args.row.now) c.loop-day.day c.args.row.now.end (weekly_civil c.args.row.now) c.loop-day.invariant.civil
    c.loop-day.invariant.from (sym c.loop-day-test.ensures) (weekly_to c.args.row.now)
