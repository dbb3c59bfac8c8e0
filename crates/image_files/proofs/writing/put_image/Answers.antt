use Rattle.std.proofs.Common.{inl, inr, subst}
use Rattle.image_files.proofs.Faults.{settled}
use Rattle.image_files.proofs.writing.put_image.Goals as goal

-- the file has a fault, or wasn't brought to its path
pub returns-clause-failed : goal.returns-clause-failed
returns-clause-failed g c =
    let file = c.in_ok-file.ensures in
    settled c.write_words-outcome.result c.settle.result _ _ _ c.settle.ensures.failed c.settle.ensures.unmoved
    (λ fails. inr (inl (subst (g.H.OutDisk.files c.args.rt.now).may_not_move file.new.path_is fails))) (file.written c.write_words-outcome.new.file)
    c.write_words-outcome.ensures.failed
