use Rattle.std.proofs.Common.{◌++◌, sym, ap, ◌∙◌, arith, append-nil}
use Rattle.std.proofs.lemmas.List.{take_all}
use Rattle.bags.specs.Bag.{points_of}
use Rattle.by_trips.specs.TakenByTrips.{point_labels}
use Rattle.by_trips.proofs.ByTripsTaken.{labels_more}
use Rattle.by_trips.proofs.by_trips_taking.add_points.Goals as goal

pub loop-index-init : goal.loop-index-init
loop-index-init c = sym (append-nil c.args.labels.now.items)

pub loop-index-preserved : goal.loop-index-preserved
loop-index-preserved c =
    labels_more (points_of c.args.bag.now) c.loop-index.index c.point-point.result c.point-point.ensures c.args.labels.now.items c.loop-index.labels.items
    c.push.new.self.items c.in_ok-tag.tag c.in_ok-tag.ensures c.in_ok-push.ensures.items c.loop-index.invariant

pub returns : goal.returns
returns c =
    let points = points_of c.args.bag.now in
    let over = c.loop-index-test.false in
    let long = c.len-index-end.ensures in
    c.loop-index.invariant
    ∙ ap (λ ps. c.args.labels.now.items ++ point_labels ps) (take_all c.loop-index.index points (omega (arith, over, long)))
