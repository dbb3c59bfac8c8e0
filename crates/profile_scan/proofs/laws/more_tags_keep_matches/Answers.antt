use Rattle.profile_scan.proofs.StepLemmas.{more_tags_keep_matches}
use Rattle.profile_scan.proofs.laws.more_tags_keep_matches.Goals as goal

pub returns : goal.returns
returns g c = more_tags_keep_matches (g.C.Criterion.rules c.args._criterion.now)
