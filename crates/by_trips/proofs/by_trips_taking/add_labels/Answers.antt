use Rattle.std.proofs.Common.{◌≡◌, ◌++◌, length, refl, sym, ap, ◌∙◌, subst, append-nil}
use Rattle.std.proofs.Common.{OnOk, List}
use Rattle.bags.specs.declared.point.Point.{Point}
use Rattle.criteria.specs.declared.arrival_trips.TimeTrips.{TimeTrips}
use Rattle.std.proofs.lemmas.Option.{slice_get_past, slice_get_read}
use Rattle.by_trips.specs.ByTrips.{bag_points}
use Rattle.by_trips.specs.TakenByTrips.{point_labels}
use Rattle.by_trips.proofs.by_trips_taking.add_labels.Goals as goal

pub returns-in-None : goal.returns-in-None
returns-in-None c =
    let old = c.args.labels.now.items in
    sym (append-nil old)
    ∙ ap (λ o. old ++ point_labels (bag_points o)) (sym (slice_get_past c.args.bags.now c.args.k c.in-None.ensures.lookup.3))

pub returns-in-Some : goal.returns-in-Some
returns-in-Some c =
    let old = c.args.labels.now.items in
    let found = c.in-Some.ensures.lookup in
    let there = slice_get_read c.args.bags.now (length c.args.bags.now) c.args.k c.in-Some.bag.now refl found.3.0 found.1 in
    subst (λ (points : List (Point TimeTrips)). OnOk c.add_points.result (c.add_points.new.labels.items ≡ old ++ point_labels points))
    (sym (ap bag_points there)) c.add_points.ensures
