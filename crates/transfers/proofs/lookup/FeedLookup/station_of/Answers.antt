use Rattle.std.proofs.Common.{Option, sym, ap}
use Rattle.gtfs_tables.specs.declared.tables.Stop.{Stop}
use Rattle.transfers.specs.Listed.{station_in}
use Rattle.transfers.specs.Lookup.{stops_in}
use Rattle.transfers.proofs.ListLemmas.{at_lent, past_lent}
use Rattle.transfers.proofs.lookup.FeedLookup.station_of.Goals as goal

pub returns-in-Some : goal.returns-in-Some
returns-in-Some c = sym (ap (λ (o : Option Stop). station_in o)
    (at_lent c.deref.result.now (stops_in c.args.self.now) c.args.stop c.in-Some.stop.now c.deref.ensures.value
    c.in-Some.ensures.lookup.3.0 c.in-Some.ensures.lookup.1))

pub returns-in-None : goal.returns-in-None
returns-in-None c = sym (ap (λ (o : Option Stop). station_in o)
    (past_lent c.deref.result.now (stops_in c.args.self.now) c.args.stop c.deref.ensures.value c.in-None.ensures.lookup.3))
