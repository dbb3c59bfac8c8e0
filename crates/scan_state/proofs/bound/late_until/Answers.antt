use Rattle.std.proofs.Common.{arith}
use Rattle.std.proofs.lemmas.Option.{slice_get_within}
use Rattle.bags.specs.Bag.{points_of}
use Rattle.scan_state.proofs.BoundLemmas.{rest_early}
use Rattle.scan_state.proofs.bound.late_until.Goals as goal

pub returns-then-point-time : goal.returns-then-point-time
returns-then-point-time g c =
    let found = c.args.found.now in
    let low = c.loop-index.auto.index in
    let high = c.loop-index-test.true in
    let long = c.len-index-end.ensures in
    record {
      from = omega arith;
      within = omega arith;
      late = c.loop-index.invariant;
      rest = rest_early (g.C.Criterion.rules found.criterion) (points_of found) found.listed c.loop-index.index c.args.time
          c.point.result c.point.ensures c.if-point-time.true;
    }

pub returns : goal.returns
returns g c =
    let low = c.requires in
    let long = c.len.ensures in
    record {
      from = omega arith;
      within = omega arith;
      late = λ k p behind before at. c.loop-index.invariant k p behind (omega arith) at;
      rest = λ k p past at. let within = slice_get_within (points_of c.args.found.now) k p at in absurd (omega arith);
    }
