use Rattle.std.proofs.Common.{◌≡◌, length, slice_get, Some, sym, ap, ◌∙◌, arith}
use Rattle.timetable.proofs.LegalLemmas.{Contains-At}
use Rattle.scan_state.specs.SetQuery.{question}
use Rattle.by_trips.specs.ByTrips.{points_beyond}
use Rattle.by_trips.proofs.BeyondLemmas.{bag_at}
use Rattle.by_trips.proofs.ByTripsLeft.{still_can, changes_all, changes_first, changes_next, points_admitted_beyond}
use Rattle.by_trips.proofs.by_trips.ByTrips.change_each.Goals.{After-point-point}
use Rattle.by_trips.proofs.by_trips.ByTrips.change_each.Goals as goal

-- the point is one of those beyond lanes
point_there : (c : After-point-point) → slice_get (points_beyond c.args.self.now.beyond.points.items c.args.hop.connection.to) c.loop-k.k
    ≡ Some c.point-point.result
point_there c =
    let there = c.loop-k.invariant.there in
    ap (λ ps. slice_get ps c.loop-k.k) (sym (c.loop-k.invariant.takes.points c.args.hop.connection.to)
    ∙ bag_at c.loop-k.self.beyond.points.items c.args.hop.connection.to c.index-in-loop-k.result.now there c.index-in-loop-k.ensures)
    ∙ c.point-point.ensures

pub loop-k-init : goal.loop-k-init
loop-k-init c = record {
  takes = changes_first (question c.args.asked.now.query) c.args.hop c.args.self.now c.requires.can;
  there = c.requires.stop;
}

pub change_by-requires-clause-can : goal.change_by-requires-clause-can
change_by-requires-clause-can c =
    still_can (question c.args.asked.now.query) c.args.hop c.args.self.now c.requires.can c.loop-k.invariant.takes

pub change_by-requires-clause-admitted : goal.change_by-requires-clause-admitted
change_by-requires-clause-admitted c =
    points_admitted_beyond (question c.args.asked.now.query) c.args.hop c.args.self.now c.requires.can c.point-point.result
    (Contains-At (points_beyond c.args.self.now.beyond.points.items c.args.hop.connection.to) c.loop-k.k c.point-point.result
    (point_there (goal.at.change_by-requires-clause-admitted c).After-point-point))

pub loop-k-preserved : goal.loop-k-preserved
loop-k-preserved c =
    let there = c.loop-k.invariant.there in
    let more = c.in_ok-change_by.ensures.bags in
    record {
      takes = changes_next (question c.args.asked.now.query) c.args.hop c.args.self.now c.requires.can c.loop-k.k c.point-point.result c.loop-k.self
          c.change_by.new.self (point_there (goal.at.loop-k-preserved c).After-point-point) c.loop-k.invariant.takes c.in_ok-change_by.ensures;
      there = omega (arith, there, more);
    }

pub returns : goal.returns
returns c =
    let over = c.loop-k-test.false in
    let count = c.len-k-end.ensures in
    let all = ap (λ ps. length ps) (bag_at c.args.self.now.beyond.points.items c.args.hop.connection.to c.index.result.now c.requires.stop
    c.index.ensures) in
    changes_all (question c.args.asked.now.query) c.args.hop c.args.self.now c.requires.can c.loop-k.k c.loop-k.self (omega (arith, over, count, all))
    c.loop-k.invariant.takes
