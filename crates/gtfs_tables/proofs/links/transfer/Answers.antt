use Rattle.std.proofs.Common.{◌≡◌, ◌∙◌, true, arith}
use Rattle.std.specs.String.{string_bytes}
use Rattle.std.proofs.lemmas.Grind.{common_steps}
use Rattle.gtfs_tables.specs.Names.{held_at}
use Rattle.gtfs_tables.specs.Rows.{ends_fault, is_kept, transfer_fault}
use Rattle.gtfs_tables.proofs.RowLemmas.{transfer_judged}
use Rattle.gtfs_tables.proofs.links.transfer.Goals.{After-copied-to}
use Rattle.gtfs_tables.proofs.links.transfer.Goals as goal

judged : (c : goal.After-copied-to) → is_kept c.args.row.now ≡ true
    → transfer_fault (held_at c.args.names.now) c.args.row.now ≡ ends_fault c.copied-from.result c.copied-to.result
judged c kept =
    let from : held_at c.args.names.now (string_bytes c.args.row.now.from) ≡ c.copied-from.result = grind (arith, common_steps) in
    let to : held_at c.args.names.now (string_bytes c.args.row.now.to) ≡ c.copied-to.result = grind (arith, common_steps) in
    transfer_judged (held_at c.args.names.now) c.args.row.now c.copied-from.result c.copied-to.result kept from to

pub returns-in-Err-clause-err : goal.returns-in-Err-clause-err
returns-in-Err-clause-err c = judged (goal.at.returns-in-Err-clause-err c).After-copied-to (grind (arith, common_steps)) ∙ c.in-Err.ensures.err

pub returns-in-Ok-clause-fine : goal.returns-in-Ok-clause-fine
returns-in-Ok-clause-fine c = judged (goal.at.returns-in-Ok-clause-fine c).After-copied-to (grind (arith, common_steps)) ∙ c.in-Ok.ensures.fine
