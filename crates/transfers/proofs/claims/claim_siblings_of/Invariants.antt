use Rattle.std.proofs.Common.{take}
use Rattle.transfers.specs.Claims.{Adds, ForOneOf, IsSiblingPair}
use Rattle.transfers.proofs.claims.claim_siblings_of.Given as goal

abbrev pub invariant-loop-from : goal.invariant-loop-from
invariant-loop-from l =
    Adds l.initial.claims.items l.claims.items (ForOneOf (take l.from-index l.children) (λ from. IsSiblingPair from l.to))
