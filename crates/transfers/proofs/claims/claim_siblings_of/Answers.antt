use Rattle.std.proofs.Common.{arith}
use Rattle.transfers.specs.Claims.{IsSiblingPair}
use Rattle.transfers.proofs.AddLemmas.{adds_none, adds_more, adds_end}
use Rattle.transfers.proofs.claims.claim_siblings_of.Goals as goal

pub loop-from-init : goal.loop-from-init
loop-from-init c = adds_none c.args.children.now (λ from. IsSiblingPair from c.args.to) c.args.claims.now.items

pub loop-from-preserved : goal.loop-from-preserved
loop-from-preserved c = adds_more c.args.children.now (λ from. IsSiblingPair from c.args.to) c.loop-from.from-index 0 c.args.claims.now.items
    c.loop-from.claims.items c.claim_sibling.new.claims.items (omega arith) c.loop-from.invariant c.in_ok-claim_sibling.ensures

pub returns : goal.returns
returns c =
    adds_end c.args.children.now (λ from. IsSiblingPair from c.args.to) c.loop-from.from-index c.args.claims.now.items c.loop-from.claims.items
    (omega arith) c.loop-from.invariant
