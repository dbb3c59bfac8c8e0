use Rattle.std.proofs.Common.{arith}
use Rattle.timetable.proofs.LegalLemmas.{Contains-At, At-Contains}
use Rattle.station_answers.proofs.walking.footpath_between.Goals as goal

pub returns-then-footpath-from : goal.returns-then-footpath-from
returns-then-footpath-from g c =
    let t = g.S.ConnSource.timetable c.args.source.now in
    let footpath = c.footpath_into-footpath.result in
    let leads = (c.walks_into-start.ensures.exact c.loop-index.index footpath c.footpath_into-footpath.ensures).1 (
      c.loop-index.auto.index,
      c.loop-index-test.true,
    ) in
    (Contains-At t.footpaths c.loop-index.index footpath c.footpath_into-footpath.ensures, c.if-footpath-from.true, leads)

pub returns : goal.returns
returns g c = λ f is from to.
    let t = g.S.ConnSource.timetable c.args.source.now in
    let over = c.loop-index-test.false in
    let within = c.loop-index.auto.index-end c.walks_into-start.ensures.order in
    let at = At-Contains t.footpaths f is in
    let range = (c.walks_into-start.ensures.exact at.0 f at.1).0 to in
    c.loop-index.invariant at.0 f at.1 range.0 (omega (arith, over, within, range.1)) from
