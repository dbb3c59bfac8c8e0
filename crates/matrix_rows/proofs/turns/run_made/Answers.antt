use Rattle.std.proofs.Common.{◌∙◌, sym}
use Rattle.matrix_rows.proofs.Runs.{each_made}
use Rattle.matrix_rows.proofs.turns.run_made.Goals as goal

pub returns : goal.returns
returns g c =
    each_made c.args.table.now.plain c.args.run.now c.args.threads c.in_ok-made.made.items (sym c.in_ok-made.made.ok.0 ∙ c.in_ok-made.ensures.len)
    (λ i d less. (c.in_ok-made.ensures.each i d less).1.met)
