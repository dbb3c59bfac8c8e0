use Rattle.profile_scan.proofs.Ends.{nothing_follows}
use Rattle.profile_scan.proofs.laws.nothing_follows.Goals as goal

pub returns : goal.returns
returns g c = nothing_follows (g.C.Criterion.rules c.args._criterion.now)
