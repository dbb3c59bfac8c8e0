use Rattle.std.proofs.Common.{List, subst}
use Rattle.criteria.specs.declared.arrival_trips.TimeTrips.{TimeTrips}
use Rattle.fronts.specs.declared.labels.Label.{Label}
use Rattle.lanes.specs.TripLanes.{IsTaken, ending, front_labels}
use Rattle.lanes.proofs.trip_lanes.TripLanes.end.Goals as goal

pub returns : goal.returns
returns c =
    let self = c.args.self.now in
    subst (λ (bound : List (Label TimeTrips)). IsTaken c.args.trip bound (ending c.args.time c.args.tag) self c.change.new.self c.change.result) c.none.ensures
    (subst (λ (offered : List (Label TimeTrips)). IsTaken c.args.trip (front_labels c.none.result) offered self c.change.new.self c.change.result)
    (c.at.ensures c.args.tag) c.change.ensures)
