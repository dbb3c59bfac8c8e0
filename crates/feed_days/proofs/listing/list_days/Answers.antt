use Rattle.std.proofs.Common.{◌≡◌, ◌∙◌, ap, arith, sym}
use Rattle.std.specs.Prelude.{Some}
use Rattle.gtfs_rows.specs.declared.values.Day.{Day}
use Rattle.feed_days.specs.Service.{day_ordinal}
use Rattle.feed_days.proofs.Listed.{after_more, after_none, all_listed, day_more, more_listed, none_yet}
use Rattle.feed_days.proofs.Order.{civil_before, next_number, number_below, number_by_not_after, other_by_parts, same_by_parts}
use Rattle.feed_days.proofs.listing.list_days.Goals as goal

pub loop-listed-init : goal.loop-listed-init
loop-listed-init c = record {
  civil = c.requires.first;
  day = after_none c.args.span.first;
  index = omega arith;
  within = number_by_not_after c.args.span.first c.args.span.last c.requires.first c.requires.last c.requires.in_order;
  few = omega arith;
  days = c.requires.none ∙ sym (none_yet c.args.span.first);
}

pub returns-then-eq-clause-days : goal.returns-then-eq-clause-days
returns-then-eq-clause-days c =
    let is = c.loop-listed.invariant in
    let same = ap day_ordinal (same_by_parts c.loop-listed.day c.args.span.last c.if-eq.ensures) in
    let all = all_listed c.args.span c.loop-listed.listed (omega (arith, same, is.index)) c.loop-listed-test.true in
    day_more c.args.span.first c.loop-listed.day c.loop-listed.listed c.loop-listed.days.items c.push.new.self.items is.day is.days c.in_ok-push.ensures.items
    ∙ sym all.0

pub returns-then-eq-clause-unlisted : goal.returns-then-eq-clause-unlisted
returns-then-eq-clause-unlisted c =
    let is = c.loop-listed.invariant in
    let same = ap day_ordinal (same_by_parts c.loop-listed.day c.args.span.last c.if-eq.ensures) in
    sym (all_listed c.args.span c.loop-listed.listed (omega (arith, same, is.index)) c.loop-listed-test.true).1

pub loop-listed-preserved : goal.loop-listed-preserved
loop-listed-preserved c =
    let is = c.loop-listed.invariant in
    let below = number_below c.loop-listed.day c.args.span.last is.civil c.requires.last is.within
    (other_by_parts c.loop-listed.day c.args.span.last c.if-eq.ensures) in
    let next = next_number c.loop-listed.day is.civil in
    rw c.day_after-day.ensures (record {
      civil = civil_before c.loop-listed.day c.args.span.last is.civil c.requires.last below;
      day = after_more c.args.span.first c.loop-listed.day c.loop-listed.listed is.day;
      index = omega (arith, next, is.index);
      within = omega (arith, next, below);
      few = omega (arith, c.loop-listed-test.true);
      days = day_more c.args.span.first c.loop-listed.day c.loop-listed.listed c.loop-listed.days.items c.push.new.self.items is.day is.days
          c.in_ok-push.ensures.items;
    })

pub returns-clause-days : goal.returns-clause-days
returns-clause-days c =
    let is = c.loop-listed.invariant in
    let full : c.loop-listed.listed ≡ 366 = omega (arith, c.loop-listed-test.false, is.few) in
    let more = more_listed c.args.span (omega (arith, full, is.index, is.within)) in
    rw full at is.days ∙ sym more.0

pub returns-clause-unlisted : goal.returns-clause-unlisted
returns-clause-unlisted c =
    let is = c.loop-listed.invariant in
    let full : c.loop-listed.listed ≡ 366 = omega (arith, c.loop-listed-test.false, is.few) in
    let more = more_listed c.args.span (omega (arith, full, is.index, is.within)) in
    ap (λ (d : Day). Some d) (rw full at is.day) ∙ sym more.1
