use Rattle.std.proofs.Common.{take}
use Rattle.transfers.specs.Bans.{Unbanned}
use Rattle.transfers.specs.Lookup.{stops_in, transfers_in}
use Rattle.transfers.specs.Claims.{Adds, ForOneOf, IsNumberedClaim}
use Rattle.transfers.proofs.claims.Claims.add_rows.Given as goal

abbrev pub invariant-loop-number : goal.invariant-loop-number
invariant-loop-number l = Adds l.initial.self.made.items l.self.made.items
    (Unbanned (stops_in l.known) (transfers_in l.known)
    (ForOneOf (take l.number-index l.numbers) (IsNumberedClaim (stops_in l.known) (transfers_in l.known) l.to)))
