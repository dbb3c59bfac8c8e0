use Rattle.std.proofs.Common.{inl, inr, refl, subst}
use Rattle.std.specs.Io.KnownBytes.{Appends}
use Rattle.image_files.specs.Watching.{IsBegun}
use Rattle.matrix_rows.proofs.Answering.{on_done}
use Rattle.matrix_rows.proofs.Joins.{at_error, on_failed}
use Rattle.matrix_rows.proofs.whole.write_anew.Goals as goal

pub returns-clause-written : goal.returns-clause-written
returns-clause-written g c =
    on_done c.write_all.result (λ added. (c.in_ok-rows.rows.items, c.in_ok-rows.ensures, subst (Appends _ _) c.deref.ensures.value added))
    c.write_all.ensures.written

pub returns-clause-begun : goal.returns-clause-begun
returns-clause-begun g c =
    on_failed c.write_all.result (λ begun. inr (c.in_ok-rows.rows.items, c.in_ok-rows.ensures, subst (IsBegun _ _) c.deref.ensures.value begun))
    c.write_all.ensures.begun

pub returns-in_err-rows-clause-begun : goal.returns-in_err-rows-clause-begun
returns-in_err-rows-clause-begun g c = at_error _ (inl refl)
