use Rattle.shelves.proofs.JoinLemmas.{joined_stay_at_shelves}
use Rattle.shelves.proofs.laws.joined_versions_stay_at_shelves.Goals as goal

pub returns : goal.returns
returns c = joined_stay_at_shelves
