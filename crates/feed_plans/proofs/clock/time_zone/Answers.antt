use Rattle.std.proofs.Common.{refl}
use Rattle.jiff_tz.specs.Zone.{offset_at}
use Rattle.feed_plans.proofs.clock.time_zone.Goals as goal

pub returns-in-Table : goal.returns-in-Table
unfolding offset_at
returns-in-Table c = λ n. rw (c.in-Table.is, c.tzif.ensures) refl
