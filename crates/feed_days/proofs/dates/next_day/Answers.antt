use Rattle.std.proofs.Common.{◌≤◌, subst, sym}
use Rattle.gtfs_rows.specs.declared.values.Day.{Day}
use Rattle.feed_days.specs.Service.{day_ordinal}
use Rattle.feed_days.proofs.Order.{before_last, civil_after, last_day, next_number, other_by_parts, same_by_parts}
use Rattle.feed_days.proofs.dates.next_day.Goals as goal

pub returns-then-eq-clause-none : goal.returns-then-eq-clause-none
returns-then-eq-clause-none c other civil =
    subst (λ (d : Day). day_ordinal other ≤ day_ordinal d) (sym (same_by_parts c.args.day last_day c.if-eq.ensures)) (before_last other civil)

pub returns-clause-some : goal.returns-clause-some
returns-clause-some c = rw c.day_after.ensures (
  civil_after c.args.day c.requires (other_by_parts c.args.day last_day c.if-eq.ensures),
  next_number c.args.day c.requires,
)
