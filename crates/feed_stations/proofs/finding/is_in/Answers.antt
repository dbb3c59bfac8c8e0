use Rattle.feed_stations.proofs.Found.{found_or_not}
use Rattle.feed_stations.proofs.finding.is_in.Goals as goal

pub returns : goal.returns
returns c = found_or_not _ c.args.text.now c.args.name.now c.contains.ensures.cases
