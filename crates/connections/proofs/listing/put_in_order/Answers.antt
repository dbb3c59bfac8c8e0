use Rattle.std.proofs.Common.{rules}
use Rattle.connections.proofs.OrderLemmas.{sorted_by}
use Rattle.connections.proofs.listing.put_in_order.Goals as goal

pub returns-clause-sorted : goal.returns-clause-sorted
returns-clause-sorted c =
    sorted_by c.args.connections.now.items c.sort_unstable_by_key.new.self.items c.requires c.sort_unstable_by_key.ensures.permutation
    c.sort_unstable_by_key.ensures.sorted (λ f a r g k. search rules)
