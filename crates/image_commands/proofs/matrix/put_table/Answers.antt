use Rattle.std.proofs.Common.{inl, inr, subst}
use Rattle.image_files.proofs.Faults.{settled}
use Rattle.image_commands.proofs.matrix.put_table.Goals as goal

-- the file has a fault, or wasn't brought to its path
pub returns-clause-unwritten : goal.returns-clause-unwritten
returns-clause-unwritten g c =
    let file = c.in_ok-file.ensures in
    settled c.print_table-outcome.result c.settle.result _ _ _ c.settle.ensures.failed c.settle.ensures.unmoved
    (λ fails. inr (inl (subst (g.H.OutDisk.files c.args.rt.now).may_not_move file.new.path_is fails))) (file.written c.print_table-outcome.new.output)
    c.print_table-outcome.ensures.failed
