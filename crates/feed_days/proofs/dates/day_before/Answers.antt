use Rattle.std.proofs.Common.{◌≡◌, ◌≤◌, ◌<◌, ◌+◌, ◌-◌, arith, refl, subst, sym}
use Rattle.gtfs_rows.specs.declared.values.Day.{Day}
use Rattle.feed_days.specs.Service.{day_ordinal}
use Rattle.feed_days.proofs.Order.{after_first, before_in_month, before_month, before_year, civil_end, first_by_parts, in_month}
use Rattle.feed_days.proofs.dates.day_before.Goals as goal

pub returns-then-day-gt1-clause-some : goal.returns-then-day-gt1-clause-some
returns-then-day-gt1-clause-some c =
    let before : Day = record { year = c.args.day.year; month = c.args.day.month; day = c.args.day.day - 1 } in
    before_in_month c.args.day before c.requires refl refl (omega (arith, c.if-day-gt1.true)) (omega (arith, c.if-day-gt1.true))

pub returns-then-day-gt1-2-clause-some : goal.returns-then-day-gt1-2-clause-some
returns-then-day-gt1-2-clause-some c =
    let is = in_month c.args.day c.requires in
    let first : c.args.day.day ≡ 1 = omega (arith, c.if-day-gt1.false, is.day_from) in
    let later : 1 < c.args.day.month = omega (arith, c.if-day-gt1-2.true) in
    let before = c.month_end.result in
    let year = c.month_end.ensures.year in
    let month : before.month + 1 ≡ c.args.day.month = omega (arith, c.month_end.ensures.month, later) in (
      civil_end before (omega (arith, is.year_from, year)) (omega (arith, is.year_to, year)) (omega (arith, month, later))
          (omega (arith, month, is.month_to)) c.month_end.ensures.day,
      before_month c.args.day before first year month (omega (arith, month, later)) c.month_end.ensures.day,
    )

pub returns-then-day-gt1-3-clause-some : goal.returns-then-day-gt1-3-clause-some
returns-then-day-gt1-3-clause-some c =
    let is = in_month c.args.day c.requires in
    let first : c.args.day.day ≡ 1 = omega (arith, c.if-day-gt1.false, is.day_from) in
    let january : c.args.day.month ≡ 1 = omega (arith, c.if-day-gt1-2.false, is.month_from) in
    let later : 1 < c.args.day.year = omega (arith, c.if-day-gt1-3.true) in
    let before = c.month_end-then-day-gt1-3.result in
    let year : before.year + 1 ≡ c.args.day.year = omega (arith, c.month_end-then-day-gt1-3.ensures.year, later) in
    let month = c.month_end-then-day-gt1-3.ensures.month in (
      civil_end before (omega (arith, year, later)) (omega (arith, is.year_to, year)) (omega (arith, month)) (omega (arith, month))
          c.month_end-then-day-gt1-3.ensures.day,
      before_year c.args.day before first january year month c.month_end-then-day-gt1-3.ensures.day,
    )

pub returns-clause-none : goal.returns-clause-none
returns-clause-none c other civil =
    subst (λ (d : Day). day_ordinal d ≤ day_ordinal other)
    (sym (first_by_parts c.args.day c.requires (omega (arith, c.if-day-gt1.false)) (omega (arith, c.if-day-gt1-2.false)) (omega (arith, c.if-day-gt1-3.false))))
    (after_first other civil)
