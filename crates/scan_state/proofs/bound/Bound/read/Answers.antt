use Rattle.bags.specs.Bag.{points_of}
use Rattle.scan_state.proofs.BoundLemmas.{late_taken}
use Rattle.scan_state.proofs.bound.Bound.read.Goals as goal

pub take_points-requires-clause-order : goal.take_points-requires-clause-order
take_points-requires-clause-order g c = c.late_until-until.ensures.from

pub take_points-requires-clause-until : goal.take_points-requires-clause-until
take_points-requires-clause-until g c = c.late_until-until.ensures.within

pub returns : goal.returns
returns g c =
    let rules = g.C.Criterion.rules c.args.criterion.now in
    let taken = c.in_ok-take_points.ensures in
    record {
      only = late_taken rules c.requires.worsens (points_of c.args.found.now) c.min-from.result
          c.late_until-until.result c.args.time c.args.self.now.values.items c.take_points.new.values.items c.late_until-until.ensures.late taken;
      kept = taken.kept;
    }
