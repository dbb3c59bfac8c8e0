use Rattle.std.proofs.Common.{◌∙◌, List, ap, false, get_or, refl}
use Rattle.std.specs.List.{count_by}
use Rattle.std.proofs.lemmas.List.{take_all}
use Rattle.gtfs_tables.specs.declared.tables.Trip.{Trip}
use Rattle.connections.specs.Active.{active_among}
use Rattle.connections.specs.Runs.{runs_on}
use Rattle.connections.proofs.ActiveSteps.{runs_among}
use Rattle.feed_days.proofs.Ridden.{ride_more}
use Rattle.feed_days.proofs.counting.services_ridden.Goals as goal

pub loop-index-preserved : goal.loop-index-preserved
loop-index-preserved c = λ feed day names named.
    let trips = c.args.trips.now in
    let trip = c.index-trips-index.result in
    let active = active_among feed names day in
    ride_more (λ service. get_or active service false) (runs_on feed day) trips c.loop-index.index trip c.loop-index.ridden.items c.ride.new.ridden.items
    _ c.loop-index-test.true c.index-trips-index.is c.in_ok-ride.ensures
    (runs_among feed names day trips c.args.indices.now active c.loop-index.index trip 0 _ named refl c.loop-index-test.true c.index-trips-index.is refl)
    (c.loop-index.invariant feed day names named)

pub returns : goal.returns
returns c = λ feed day names named.
    c.loop-index.invariant feed day names named
    ∙ ap (λ (ts : List Trip). count_by (runs_on feed day) ts) (take_all c.loop-index.index c.args.trips.now c.loop-index-test.false)
