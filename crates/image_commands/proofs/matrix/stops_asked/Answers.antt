use Rattle.std.proofs.Common.{refl}
use Rattle.std.proofs.lemmas.Result.{err_from_is_err_and}
use Rattle.image_commands.proofs.MatrixLemmas.{unasked_sources, unasked_targets}
use Rattle.image_commands.proofs.matrix.stops_asked.Goals as goal

pub returns-in_err-targets-clause-status : goal.returns-in_err-targets-clause-status
returns-in_err-targets-clause-status g c =
    let figures = err_from_is_err_and c.from_residual.result c.from_residual.ensures.1 in
    rw (figures.1, figures.2) (unasked_targets (g.H.ImageDisk.may_hold c.args.rt.now) (g.H.ImageDisk.may_fail c.args.rt.now) c.args.request c.args.image.now
    c.in_err-targets.field-0.0 c.in_err-targets.ensures)

pub returns-in_err-sources-clause-status : goal.returns-in_err-sources-clause-status
returns-in_err-sources-clause-status g c =
    let figures = err_from_is_err_and c.from_residual-in_err-sources.result c.from_residual-in_err-sources.ensures.1 in
    rw (figures.1, figures.2) (unasked_sources (g.H.ImageDisk.may_hold c.args.rt.now) (g.H.ImageDisk.may_fail c.args.rt.now) c.args.request c.args.image.now
    c.in_err-sources.field-0.0 c.args.request.from c.in_ok-targets.targets.items c.in_ok-targets.ensures refl c.in_err-sources.ensures.status)
