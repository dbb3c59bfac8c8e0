use Rattle.std.proofs.Common.{◌∙◌, subst, sym}
use Rattle.image_files.specs.Texts.{IsTextAt}
use Rattle.image_commands.proofs.MatrixLemmas.{listed_at, unread_list}
use Rattle.image_commands.proofs.matrix_lists.sets_of_file.Goals as goal

pub returns-in-Ok : goal.returns-in-Ok
returns-in-Ok g c =
    listed_at (g.H.ImageDisk.may_hold c.args.rt.now) (g.H.ImageDisk.may_fail c.args.rt.now) c.args.option.path.now c.as_str.result.now
    c.args.image.now c.sets_of_list.result
    (subst (IsTextAt (g.H.ImageDisk.may_hold c.args.rt.now) c.args.option.path.now) (sym c.as_str.ensures.value) c.in-Ok.ensures.text)
    c.sets_of_list.ensures.sets c.sets_of_list.ensures.status

pub returns-in-Err : goal.returns-in-Err
returns-in-Err g c =
    let done = c.unread.ensures in
    unread_list (g.H.ImageDisk.may_hold c.args.rt.now) (g.H.ImageDisk.may_fail c.args.rt.now) c.args.option.path.now c.args.image.now _ c.unread.result
    done.either done.memory (λ other. c.in-Err.ensures.failed (λ e. other (c.kind.ensures ∙ e)))
