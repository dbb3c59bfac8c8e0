use Rattle.connections.proofs.OneLemmas.{one_listing}
use Rattle.connections.proofs.laws.one_listing.Goals as goal

pub returns : goal.returns
returns c = one_listing
