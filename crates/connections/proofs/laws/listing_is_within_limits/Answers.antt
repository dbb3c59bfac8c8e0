use Rattle.connections.proofs.LegalLemmas.{limits_listing}
use Rattle.connections.proofs.laws.listing_is_within_limits.Goals as goal

pub returns : goal.returns
returns c = limits_listing
