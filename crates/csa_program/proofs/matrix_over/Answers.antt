use Rattle.std.proofs.Common.{subst}
use Rattle.image_files.specs.declared.names.NameForm.{NameForm}
use Rattle.csa_program.specs.Running.{IsTableEnd}
use Rattle.csa_program.proofs.OverImages.{table_over, no_table}
use Rattle.csa_program.proofs.matrix_over.Goals as goal

pub returns-in-Ok-clause-ended : goal.returns-in-Ok-clause-ended
returns-in-Ok-clause-ended g c =
    let may_hold = g.H.ImageDisk.may_hold c.args.rt.now in
    let may_fail = g.H.ImageDisk.may_fail c.args.rt.now in
    let disk = g.H.OutDisk.files c.args.rt.now in
    let input = g.I.Read.remaining c.args.input.now in
    let input_failed = g.I.WatchedRead.may_fail c.args.input.now in
    let fault = g.O.Watched.noted c.run.new.output in
    let before = g.O.Write.contents c.args.output.now in
    let after = g.O.Write.contents c.run.new.output in
    let run_result = c.run.ensures in
    subst (λ (names : NameForm). IsTableEnd may_hold may_fail disk names input input_failed c.args.request fault c.run.result before after)
    c.name_form-names.ensures
    (table_over may_hold may_fail disk c.name_form-names.result input input_failed c.args.request fault c.run.result before c.in-Ok.image _ after
    c.in-Ok.ensures.image c.in-Ok.ensures.silent
    run_result.status run_result.printed run_result.refused run_result.unlisted run_result.cut run_result.spent)

pub returns-in-Err-clause-ended : goal.returns-in-Err-clause-ended
returns-in-Err-clause-ended g c =
    no_table (g.H.ImageDisk.may_hold c.args.rt.now) (g.H.ImageDisk.may_fail c.args.rt.now) (g.H.OutDisk.files c.args.rt.now)
    (g.O.Watched.form c.args.output.now)
    (g.I.Read.remaining c.args.input.now) _ c.args.request _ _ _ _ c.in-Err.ensures.refused
