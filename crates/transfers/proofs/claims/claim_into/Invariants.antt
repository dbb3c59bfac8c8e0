use Rattle.std.proofs.Common.{take}
use Rattle.transfers.specs.Claims.{Adds, ForOneOf, IsPairClaim}
use Rattle.transfers.proofs.claims.claim_into.Given as goal

abbrev pub invariant-loop-from : goal.invariant-loop-from
invariant-loop-from l =
    Adds l.initial.claims.items l.claims.items (ForOneOf (take l.from-index l.froms) (λ from. IsPairClaim l.row from l.to))
