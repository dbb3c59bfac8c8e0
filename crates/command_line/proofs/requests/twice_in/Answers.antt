use Rattle.std.proofs.Common.{[]}
use Rattle.command_line.proofs.Distinct.{distinct_more, not_distinct}
use Rattle.command_line.proofs.requests.twice_in.Goals as goal

pub returns-in-Some-clause-apart : goal.returns-in-Some-clause-apart
returns-in-Some-clause-apart c =
    not_distinct (λ text. text.now) c.args.texts.now c.loop-index.index _ c.loop-index-test.true c.in-Some.first c.in-Some.ensures.0
    (c.in-Some.ensures.1 [])

pub loop-index-preserved : goal.loop-index-preserved
loop-index-preserved c =
    distinct_more (λ text. text.now) c.args.texts.now c.loop-index.index _ c.loop-index-test.true c.loop-index.invariant c.in_default.ensures
