use Rattle.std.proofs.Common.{◌<◌, arith, sym, ◌∙◌, refl}
use Rattle.journeys.proofs.FootpathLemmas.{has_footpath-none, same_or_none}
use Rattle.journeys.proofs.footpaths.has_footpath.Goals as goal

pub returns-then-footpath-stops : goal.returns-then-footpath-stops
returns-then-footpath-stops c =
    sym (has_footpath-none c.args.image.now.timetable c.args.footpath (λ k at.
    let range = (c.stops.ensures.kept.legal.ends_in_range k c.args.footpath at).1 in
    omega (arith, range)))

pub returns-then-index-end : goal.returns-then-index-end
returns-then-index-end c =
    sym (has_footpath-none c.args.image.now.timetable c.args.footpath (λ k at.
    let range = (c.walks_into-start.ensures.exact k c.args.footpath at).0 refl in
    let less = c.first_leaving-index.ensures.before k c.args.footpath at range.0 (omega (arith, range.1)) in
    omega (arith, less)))

pub returns : goal.returns
returns c =
    let walks = c.walks_into-start in
    let found = c.first_leaving-index in
    let high : found.result < walks.result.1 = omega arith in
    c.eq.ensures ∙ same_or_none c.args.image.now.timetable c.stops.ensures.kept.legal c.args.footpath c.footpath_into.result walks.result.0 walks.result.1
    found.result walks.ensures.exact found.ensures.low high found.ensures.before found.ensures.here c.footpath_into.ensures
