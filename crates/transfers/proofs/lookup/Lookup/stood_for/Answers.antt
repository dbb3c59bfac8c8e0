use Rattle.std.proofs.Common.{sym, subst}
use Rattle.gtfs_tables.specs.declared.tables.TransferEnd.{TransferEnd}
use Rattle.transfers.specs.Claims.{AreStoodFor}
use Rattle.transfers.proofs.ClaimLemmas.{station_stands}
use Rattle.transfers.proofs.lookup.Lookup.stood_for.Goals as goal

pub returns-in-Station : goal.returns-in-Station
returns-in-Station c = λ all rows l. subst (λ (transfer_end : TransferEnd). AreStoodFor all transfer_end c.children_of.result.now) (sym c.in-Station.is)
    (station_stands all _ c.children_of.result.now (c.children_of.ensures all rows l))
