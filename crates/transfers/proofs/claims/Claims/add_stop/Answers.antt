use Rattle.std.proofs.Common.{Option, ℕ, sym, subst, OnOk}
use Rattle.std.proofs.lemmas.Result.{on_ok_weaker}
use Rattle.transfers.specs.Bans.{Unbanned}
use Rattle.transfers.specs.Lookup.{stops_in, transfers_in}
use Rattle.transfers.specs.Claims.{Adds, IsStopClaim}
use Rattle.transfers.proofs.ClaimLemmas.{adds_stop}
use Rattle.transfers.proofs.UnbannedLemmas.{unbanned_loop}
use Rattle.transfers.proofs.claims.Claims.add_stop.Goals as goal

pub returns-in_ok-add_station-in-Some : goal.returns-in_ok-add_station-in-Some
returns-in_ok-add_station-in-Some c =
    let stops = stops_in c.args.known.now in
    let rows = transfers_in c.args.known.now in
    subst (λ (o : Option ℕ). OnOk c.add_loop.result (Adds c.args.self.now.made.items c.add_loop.new.self.made.items
    (Unbanned stops rows (IsStopClaim stops rows o c.args.to)))) (sym c.in-Some.is)
    (on_ok_weaker c.add_loop.result
    (λ h. adds_stop stops rows c.in-Some.station c.args.to c.args.self.now.made.items
    c.add_station.new.self.made.items c.add_loop.new.self.made.items c.in_ok-add_station-in-Some.ensures
    (unbanned_loop stops rows c.args.to c.add_station.new.self.made.items c.add_loop.new.self.made.items h)) c.add_loop.ensures)

pub returns-in-None : goal.returns-in-None
returns-in-None c =
    let stops = stops_in c.args.known.now in
    let rows = transfers_in c.args.known.now in
    subst (λ (o : Option ℕ). OnOk c.add_loop-in-None.result (Adds c.args.self.now.made.items c.add_loop-in-None.new.self.made.items
    (Unbanned stops rows (IsStopClaim stops rows o c.args.to)))) (sym c.in-None.is)
    (on_ok_weaker c.add_loop-in-None.result
    (λ h. unbanned_loop stops rows c.args.to c.args.self.now.made.items c.add_loop-in-None.new.self.made.items h) c.add_loop-in-None.ensures)
