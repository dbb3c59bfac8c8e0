use Rattle.std.proofs.Common.{◌∙◌, sym}
use Rattle.std.proofs.lemmas.Result.{on_ok_weaker}
use Rattle.transfers.specs.Lookup.{stops_in, transfers_in}
use Rattle.transfers.proofs.UnbannedLemmas.{own_row, no_own}
use Rattle.transfers.proofs.claims.Claims.add_own.Goals as goal

pub returns-then-stands_for : goal.returns-then-stands_for
returns-then-stands_for c =
    on_ok_weaker c.claim_pair.result
    (λ h. own_row (stops_in c.args.known.now) (transfers_in c.args.known.now) c.args.to c.args.row.now c.args.self.now.made.items
    c.claim_pair.new.claims.items (sym c.stands_for.ensures ∙ c.if-stands_for.true) h)
    c.claim_pair.ensures

pub returns-else-stands_for : goal.returns-else-stands_for
returns-else-stands_for c = no_own (stops_in c.args.known.now) (transfers_in c.args.known.now) c.args.to c.args.row.now c.args.self.now.made.items
    (sym c.stands_for.ensures ∙ c.if-stands_for.false)
