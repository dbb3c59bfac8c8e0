use Rattle.scan_state.specs.SetQuery.{question}
use Rattle.scan_state.proofs.StartLemmas.{starts_as}
use Rattle.scan_state.proofs.origin.is_from_source.Goals as goal

pub returns-else-walk : goal.returns-else-walk
returns-else-walk g c =
    let walk = c.in-Some.walk in
    starts_as (question c.args.asked.now.query) c.args.hop.now.connection walk c.args.start c.access_to.result.here c.in-Some.is c.if-walk.false
    (c.requires.says walk.from c.access_to.result c.access_to.ensures)
