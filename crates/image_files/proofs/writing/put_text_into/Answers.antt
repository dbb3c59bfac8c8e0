use Rattle.std.proofs.Common.{inl}
use Rattle.image_files.proofs.Faults.{at_error}
use Rattle.image_files.proofs.writing.put_text_into.Goals as goal

pub returns-in_err-write_text-clause-failed : goal.returns-in_err-write_text-clause-failed
returns-in_err-write_text-clause-failed g c =
    at_error c.from_residual-in_err-write_text.result (inl (c.in_ok-file.ensures.written c.write_text.new.file c.in_err-write_text.ensures.failed))
