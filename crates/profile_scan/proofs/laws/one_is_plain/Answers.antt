use Rattle.profile_scan.proofs.Single.{one_is_plain}
use Rattle.profile_scan.proofs.laws.one_is_plain.Goals as goal

pub returns : goal.returns
returns g c t q = one_is_plain (g.C.Criterion.rules c.args._criterion.now) t q
