use Rattle.std.proofs.Common.{◌≡◌, ◌-◌, length, slice_get, Some, refl, ap, ◌∙◌, subst, arith}
use Rattle.std.specs.Global.{Vec}
use Rattle.timetable.proofs.LegalLemmas.{Contains-At}
use Rattle.fronts.specs.declared.entry.Boarding.{Boarding}
use Rattle.by_trips.specs.ByTrips.{points_beyond}
use Rattle.by_trips.proofs.BeyondLemmas.{bag_at}
use Rattle.by_trips.proofs.ByTripsBoarded.{still_boards, early_boards, labels_admitted, labels_all, labels_first, labels_next}
use Rattle.by_trips.proofs.by_trips.ByTrips.board_walk.Goals.{After-len-k-end, After-point-label}
use Rattle.by_trips.proofs.by_trips.ByTrips.board_walk.Goals as goal

abbrev boarding : (c : After-len-k-end) → Boarding
boarding c = record {
  departure = c.args.hop.now.connection.dep - c.args.walk.secs;
  first = c.args.hop.now.place;
  walk = c.in_ok-number.number;
  secs = c.args.walk.secs;
}

-- the label is one of those beyond lanes
label_there : (c : After-point-label) → slice_get (points_beyond c.args.self.now.beyond.labels.items c.args.hop.now.connection.trip) c.loop-k.k
    ≡ Some c.point-label.result
label_there c =
    let trip = c.requires.trip in
    let long = c.loop-k.invariant.has.labels in
    subst (λ (ls : Vec _). slice_get (points_beyond ls.items c.args.hop.now.connection.trip) c.loop-k.k ≡ Some c.point-label.result)
    c.loop-k.invariant.labels
    (ap (λ ps. slice_get ps c.loop-k.k) (bag_at c.loop-k.self.beyond.labels.items c.args.hop.now.connection.trip c.index-in-loop-k.result.now
    (omega (arith, trip, long)) c.index-in-loop-k.ensures) ∙ c.point-label.ensures)

pub returns-then-walk-dep : goal.returns-then-walk-dep
returns-then-walk-dep c = early_boards c.args.hop.now c.args.walk_index c.args.walk c.args.self.now c.requires c.if-walk-dep.true

pub loop-k-init : goal.loop-k-init
loop-k-init c =
    labels_first c.args.hop.now c.args.walk_index c.args.walk c.args.self.now c.requires (boarding (goal.at.loop-k-init c).After-len-k-end)

pub board_label-requires-clause-can : goal.board_label-requires-clause-can
board_label-requires-clause-can c = still_boards c.args.walk c.loop-k.invariant c.requires.trip c.requires.stop

pub board_label-requires-clause-admitted : goal.board_label-requires-clause-admitted
board_label-requires-clause-admitted c =
    let labels = points_beyond c.args.self.now.beyond.labels.items c.args.hop.now.connection.trip in
    labels_admitted c.args.hop.now c.args.walk_index c.args.walk c.args.self.now c.requires c.point-label.result
    (Contains-At labels c.loop-k.k c.point-label.result (label_there (goal.at.board_label-requires-clause-admitted c).After-point-label))

pub loop-k-preserved : goal.loop-k-preserved
loop-k-preserved c =
    labels_next c.args.hop.now c.args.walk_index c.args.walk c.args.self.now c.requires (boarding (goal.at.loop-k-preserved c).After-len-k-end)
    c.loop-k.k c.point-label.result c.loop-k.self c.board_label.new.self (label_there (goal.at.loop-k-preserved c).After-point-label) c.loop-k.invariant
    c.in_ok-board_label.ensures

pub returns : goal.returns
returns c =
    let trip = c.requires.trip in
    let long = c.requires.has.labels in
    let over = c.loop-k-test.false in
    let count = c.len-k-end.ensures in
    let all = ap (λ ps. length ps) (bag_at c.args.self.now.beyond.labels.items c.args.hop.now.connection.trip c.index.result.now (omega (arith, trip, long))
    c.index.ensures) in
    labels_all c.args.hop.now c.args.walk_index c.args.walk c.args.self.now c.requires (boarding (goal.at.returns c).After-len-k-end) c.loop-k.k
    c.loop-k.self (omega (arith, over, count, all)) c.in_ok-number.ensures refl refl (omega (arith, c.if-walk-dep.false)) c.loop-k.invariant
