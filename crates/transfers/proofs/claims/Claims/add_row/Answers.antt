use Rattle.std.proofs.lemmas.Result.{on_ok_weaker}
use Rattle.transfers.specs.Lookup.{stops_in, transfers_in}
use Rattle.transfers.proofs.ListLemmas.{at_lent, past_lent}
use Rattle.transfers.proofs.ClaimLemmas.{adds_no_row}
use Rattle.transfers.proofs.UnbannedLemmas.{numbered_row}
use Rattle.transfers.proofs.claims.Claims.add_row.Goals as goal

pub returns-in-Some : goal.returns-in-Some
returns-in-Some c =
    let at = at_lent c.deref.result.now (transfers_in c.args.known.now) c.args.number c.in-Some.row.now c.deref.ensures.value
    c.in-Some.ensures.lookup.3.0 c.in-Some.ensures.lookup.1 in
    on_ok_weaker c.add_claims_of.result
    (λ h. numbered_row (stops_in c.args.known.now) (transfers_in c.args.known.now) c.args.to c.in-Some.row.now c.args.number
    c.args.self.now.made.items c.add_claims_of.new.self.made.items at h)
    c.add_claims_of.ensures

pub returns-in-None : goal.returns-in-None
returns-in-None c =
    adds_no_row (stops_in c.args.known.now) (transfers_in c.args.known.now) c.args.to c.args.number c.args.self.now.made.items
    (past_lent c.deref.result.now (transfers_in c.args.known.now) c.args.number c.deref.ensures.value c.in-None.ensures.lookup.3)
