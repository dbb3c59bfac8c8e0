use Rattle.shelves.proofs.JoinLemmas.{joined_stay}
use Rattle.shelves.proofs.laws.joined_versions_stay.Goals as goal

pub returns : goal.returns
returns c = joined_stay
