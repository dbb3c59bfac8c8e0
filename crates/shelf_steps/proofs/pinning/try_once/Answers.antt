use Rattle.std.proofs.Common.{◌+◌, ◌*◌, ◌%◌, ◌∷◌, arith, Some, ap, sym, ◌∙◌}
use Rattle.atomic_table.specs.Table.{rest}
use Rattle.shelf_steps.proofs.Pinned.{looked_here, well_so, late_so}
use Rattle.shelf_steps.proofs.pinning.try_once.Goals as goal

pub take-word-requires-clause-looked : goal.take-word-requires-clause-looked
take-word-requires-clause-looked c =
    ((omega arith), looked_here c.args.worker.now.me.0 c.args.worker.now.me.1 c.look-found.result c.look-found.new.worker.me c.look-found.ensures.look)

pub swap_edition-requires-clause-front : goal.swap_edition-requires-clause-front
swap_edition-requires-clause-front c =
    let found = c.look-found.result in
    let w = well_so c.args.worker.now.me.0 c.args.worker.now.me.1 c.args.number found c.take-word.result c.look-found.new.worker.me c.take-word.new.worker.me
    c.requires.worker.1.0 c.requires.worker.1.1 c.look-found.ensures.look c.take-word.ensures.take (sym c.says_open.ensures ∙ c.if-says_open.true) in
    (Some w.0, w.1 ∙ ap (λ l. (16 * (found % 8) + c.args.number, Some w.0) ∷ l) (sym (ap rest w.1)))

pub returns-clause-late : goal.returns-clause-late
returns-clause-late c =
    late_so c.args.worker.now.me.0 c.args.worker.now.me.1 c.args.number c.look-found.result c.take-word.result
    c.look-found.new.worker.me c.take-word.new.worker.me c.leave_late.new.worker.me
    c.requires.worker.1.0 c.requires.worker.1.1 c.look-found.ensures.look c.take-word.ensures.take
    (sym c.says_open.ensures ∙ c.if-says_open.false) c.leave_late.ensures.leave
