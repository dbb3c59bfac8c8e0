use Rattle.std.proofs.Common.{refl}
use Rattle.jiff_tz.specs.Zone.{ambiguous_at}
use Rattle.service_days.proofs.zone.Zone.time_zone.Goals as goal

pub returns-in-Table : goal.returns-in-Table
unfolding ambiguous_at
returns-in-Table c = λ dt. rw (c.in-Table.is, c.tzif.ensures) refl
