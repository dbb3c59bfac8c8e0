use Rattle.std.proofs.Common.{arith, sym, ◌∙◌}
use Rattle.departure_lines.proofs.Sought.{item_found, item_missing}
use Rattle.departure_lines.proofs.listed_names.first_missing.Goals as goal

pub loop-index-preserved : goal.loop-index-preserved
loop-index-preserved c =
    item_found (λ name. name.now) c.args.listed.now c.loop-index.index _ c.args.found.now (omega arith) c.loop-index.invariant
    (sym c.was_found.ensures ∙ c.if-not-was_found.false)

pub returns-then-not-was_found-clause-missing : goal.returns-then-not-was_found-clause-missing
returns-then-not-was_found-clause-missing c =
    item_missing (λ name. name.now) c.args.listed.now c.loop-index.index _ c.args.found.now (omega arith) c.loop-index.invariant
    (sym c.was_found.ensures ∙ c.if-not-was_found.true)
