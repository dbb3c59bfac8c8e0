use Rattle.std.proofs.lemmas.Result.{on_ok_weaker}
use Rattle.transfers.specs.Lookup.{stops_in, transfers_in}
use Rattle.transfers.proofs.UnbannedLemmas.{unbanned_row, banned_row}
use Rattle.transfers.proofs.claims.Claims.add_claims_of.Goals as goal

pub returns-then-is_banned_row : goal.returns-then-is_banned_row
returns-then-is_banned_row c =
    on_ok_weaker c.add_own.result
    (λ h. banned_row (stops_in c.args.known.now) (transfers_in c.args.known.now) c.args.to c.args.row.now c.args.self.now.made.items
    c.add_own.new.self.made.items (c.is_banned_row.ensures.banned c.if-is_banned_row.true) h)
    c.add_own.ensures

pub returns-else-is_banned_row : goal.returns-else-is_banned_row
returns-else-is_banned_row c =
    on_ok_weaker c.claim_into.result
    (λ h. unbanned_row (stops_in c.args.known.now) (transfers_in c.args.known.now) c.args.to c.args.row.now c.stood_for.result.now
    (c.stood_for.ensures _ _ c.requires) c.args.self.now.made.items c.claim_into.new.claims.items (c.is_banned_row.ensures.unbanned c.if-is_banned_row.false) h)
    c.claim_into.ensures
