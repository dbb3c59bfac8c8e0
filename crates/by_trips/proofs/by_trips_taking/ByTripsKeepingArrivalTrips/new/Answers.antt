use Rattle.std.proofs.Common.{[], ap, ◌∙◌, ◌++◌}
use Rattle.scan_state.specs.Adding.{label_points}
use Rattle.by_trips.specs.ByTrips.{points_beyond}
use Rattle.by_trips.specs.declared.by_trips.ByTrips.{ByTrips}
use Rattle.by_trips.proofs.ByTripsTaken.{admits_kept, nothing_kept}
use Rattle.by_trips.proofs.by_trips_taking.ByTripsKeepingArrivalTrips.new.Goals as goal

pub returns : goal.returns
returns c =
    let kept : ByTrips = record {
      lanes = record {
        trips = c.in_ok-new.field-0;
        stops = c.in_ok-new-2.field-0;
        exits = c.in_ok-with_capacity.field-0;
        bound = c.none.result;
      };
      beyond = record { labels = c.new-3.result; points = c.new-4.result };
    } in
    let are = nothing_kept c.args.stops c.args.trips kept c.in_ok-new-2.ensures.lists c.in_ok-new-2.ensures.long c.in_ok-new.ensures.long
    c.in_ok-with_capacity.ensures.items c.none.ensures c.new-3.ensures.items c.new-4.ensures.items in
    record {
      under = record { are = are; admitted = admits_kept c.args.stops c.args.trips [] kept are };
      bags = λ stop.
          ap (λ points. points ++ points_beyond c.new-4.result.items stop) (c.in_ok-new-2.ensures.none stop)
          ∙ ap (λ bags. points_beyond bags stop) c.new-4.ensures.items;
      labels = λ trip.
          ap (λ labels. label_points labels ++ points_beyond c.new-3.result.items trip) (c.in_ok-new.ensures.none trip)
          ∙ ap (λ bags. points_beyond bags trip) c.new-3.ensures.items;
    }
