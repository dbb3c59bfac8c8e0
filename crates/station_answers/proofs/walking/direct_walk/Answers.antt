use Rattle.std.proofs.Common.{◌≤◌, length, arith}
use Rattle.scan_state.specs.SetQuery.{question}
use Rattle.station_answers.proofs.WalkLemmas.{least_of_all, none_before}
use Rattle.station_answers.proofs.walking.direct_walk.Goals as goal

pub loop-index-init : goal.loop-index-init
loop-index-init g c =
    none_before (g.S.ConnSource.timetable c.args.source.now) (g.met.S.ConnSource.legal c.args.source.now) (question c.args.query.now)

pub loop-index-preserved : goal.loop-index-preserved
loop-index-preserved g c = c.shorter_from-next.ensures

pub returns : goal.returns
returns g c =
    let past : length c.args.query.now.sources.items ≤ c.loop-index.index =
    omega (arith, c.loop-index-test.false, c.len-index-end.ensures, c.args.query.now.sources.ok.0) in
    least_of_all (g.S.ConnSource.timetable c.args.source.now) (g.met.S.ConnSource.legal c.args.source.now) (question c.args.query.now)
    c.loop-index.index c.loop-index.best past c.loop-index.invariant
