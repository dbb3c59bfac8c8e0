use Rattle.std.proofs.lemmas.Result.{on_ok_weaker}
use Rattle.transfers.specs.Lookup.{stops_in, transfers_in}
use Rattle.transfers.proofs.ListLemmas.{at_lent, past_lent}
use Rattle.transfers.proofs.ClaimLemmas.{adds_to_stop, adds_ways, adds_no_stop}
use Rattle.transfers.proofs.claims.Claims.add_ways.Goals as goal

pub returns-in-Some : goal.returns-in-Some
returns-in-Some c =
    let at = at_lent c.deref.result.now (stops_in c.args.known.now) c.args.to c.in-Some.stop.now c.deref.ensures.value
    c.in-Some.ensures.lookup.3.0 c.in-Some.ensures.lookup.1 in
    on_ok_weaker c.add_stop.result
    (λ h. adds_ways (stops_in c.args.known.now) (transfers_in c.args.known.now) c.args.to c.in-Some.stop.now c.args.self.now.made.items
    c.add_rows.new.self.made.items c.add_stop.new.self.made.items at
    (adds_to_stop (stops_in c.args.known.now) (transfers_in c.args.known.now) c.args.to c.group.result.now
    (c.group.ensures _ c.requires.into_stops) c.args.self.now.made.items c.add_rows.new.self.made.items c.in_ok-add_rows.ensures) h)
    c.add_stop.ensures

pub returns-in-None : goal.returns-in-None
returns-in-None c =
    adds_no_stop (stops_in c.args.known.now) (transfers_in c.args.known.now) c.args.to c.args.self.now.made.items c.add_rows.new.self.made.items
    (past_lent c.deref.result.now (stops_in c.args.known.now) c.args.to c.deref.ensures.value c.in-None.ensures.lookup.3)
    (adds_to_stop (stops_in c.args.known.now) (transfers_in c.args.known.now) c.args.to c.group.result.now
    (c.group.ensures _ c.requires.into_stops) c.args.self.now.made.items c.add_rows.new.self.made.items c.in_ok-add_rows.ensures)
