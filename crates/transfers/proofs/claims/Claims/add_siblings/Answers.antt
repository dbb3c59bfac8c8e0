use Rattle.std.proofs.Common.{ℕ, Option, Some, subst}
use Rattle.std.proofs.lemmas.Result.{on_ok_weaker}
use Rattle.transfers.specs.Bans.{IsVoid}
use Rattle.transfers.specs.Listed.{station_of}
use Rattle.transfers.specs.Lookup.{stops_in, transfers_in}
use Rattle.transfers.proofs.ClaimLemmas.{adds_siblings}
use Rattle.transfers.proofs.UnbannedLemmas.{unbanned_siblings, void_siblings}
use Rattle.transfers.proofs.claims.Claims.add_siblings.Goals as goal

pub returns-then-is_void : goal.returns-then-is_void
returns-then-is_void c = void_siblings (stops_in c.args.known.now) (transfers_in c.args.known.now) c.args.station c.args.to c.args.self.now.made.items
    (subst (λ (o : Option ℕ). IsVoid (transfers_in c.args.known.now) (Some c.args.station) o) c.station_of.ensures
    (c.is_void.ensures.void c.if-is_void.true))

pub returns-else-is_void : goal.returns-else-is_void
returns-else-is_void c =
    on_ok_weaker c.claim_siblings_of.result
    (λ h. unbanned_siblings (stops_in c.args.known.now) (transfers_in c.args.known.now) c.args.station c.args.to c.args.self.now.made.items
    c.claim_siblings_of.new.claims.items
    (subst (λ (o : Option ℕ). ¬ IsVoid (transfers_in c.args.known.now) (Some c.args.station) o) c.station_of.ensures
    (c.is_void.ensures.fine c.if-is_void.false))
    (adds_siblings (stops_in c.args.known.now) c.args.station c.args.to c.children_of.result.now
    (c.children_of.ensures _ _ c.requires) c.args.self.now.made.items c.claim_siblings_of.new.claims.items h))
    c.claim_siblings_of.ensures
