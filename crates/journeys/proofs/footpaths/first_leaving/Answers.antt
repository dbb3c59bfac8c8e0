use Rattle.std.proofs.Common.{◌+◌, ◌-◌, ◌/◌, arith}
use Rattle.journeys.proofs.FootpathLemmas.{before_middle, from_middle}
use Rattle.journeys.proofs.footpaths.first_leaving.Goals as goal

pub halve-preserved-then-footpath_into-from : goal.halve-preserved-then-footpath_into-from
halve-preserved-then-footpath_into-from c =
    let m = c.halve.low + (c.halve.high - c.halve.low) / 2 in
    record {
      start = omega arith;
      order = omega arith;
      end = c.halve.invariant.end;
      before = before_middle c.args.image.now.timetable.footpaths c.requires.legal.in_order c.args.stop c.args.start c.args.end c.requires.into m c.args.from
          c.footpath_into.result c.footpath_into.ensures (omega arith) c.if-footpath_into-from.true;
      here = c.halve.invariant.here;
    }

pub halve-preserved : goal.halve-preserved
halve-preserved c =
    let m = c.halve.low + (c.halve.high - c.halve.low) / 2 in
    record {
      start = c.halve.invariant.start;
      order = omega arith;
      end = omega arith;
      before = c.halve.invariant.before;
      here = from_middle c.args.image.now.timetable.footpaths c.requires.legal.in_order c.args.stop c.args.start c.args.end c.requires.into m c.args.from
          c.footpath_into.result c.footpath_into.ensures (omega arith) c.if-footpath_into-from.false;
    }
