use Rattle.std.proofs.lemmas.Result.{on_ok_weaker}
use Rattle.transfers.specs.Lookup.{stops_in, transfers_in}
use Rattle.transfers.proofs.ClaimLemmas.{adds_station, adds_to_station}
use Rattle.transfers.proofs.claims.Claims.add_station.Goals as goal

pub returns : goal.returns
returns c =
    on_ok_weaker c.add_siblings.result
    (λ h. adds_station (stops_in c.args.known.now) (transfers_in c.args.known.now) c.args.station c.args.to c.args.self.now.made.items
    c.add_rows.new.self.made.items c.add_siblings.new.self.made.items
    (adds_to_station (stops_in c.args.known.now) (transfers_in c.args.known.now) c.args.to c.args.station c.group.result.now
    (c.group.ensures _ c.requires.into_stations) c.args.self.now.made.items c.add_rows.new.self.made.items c.in_ok-add_rows.ensures) h)
    c.add_siblings.ensures
