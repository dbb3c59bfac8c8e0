use Rattle.connections.proofs.LegalLemmas.{legal_listing}
use Rattle.connections.proofs.laws.listing_is_legal.Goals as goal

pub returns : goal.returns
returns c = legal_listing
