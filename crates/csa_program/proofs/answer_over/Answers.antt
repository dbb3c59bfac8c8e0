use Rattle.std.proofs.Common.{ℕ, List, rules, subst}
use Rattle.image_files.specs.Held.{HoldsOfBytes, IsUnreadable}
use Rattle.command_requests.specs.Paths.{path_of}
use Rattle.image_files.specs.declared.names.NameForm.{NameForm}
use Rattle.image_commands.specs.Commands.{IsUnusable, PrintsAsked}
use Rattle.command_endings.specs.Ending.{IsOutcome, PrintsRefusal}
use Rattle.image_commands.specs.Opening.{IsRefusedImage, SpellsImage}
use Rattle.csa_program.proofs.OverImages.{over_image, over_none}
use Rattle.csa_program.proofs.answer_over.Goals as goal

pub returns-in-Ok-clause-ended : goal.returns-in-Ok-clause-ended
returns-in-Ok-clause-ended g c =
    let may_hold = g.H.ImageDisk.may_hold c.args.rt.now in
    let disk = g.H.OutDisk.files c.args.rt.now in
    let asked = c.args.asked.now in
    let names = g.O.Watched.form c.args.output.now in
    let input = g.I.Read.remaining c.args.input.now in
    let image = c.in-Ok.image in
    let held : HoldsOfBytes may_hold (path_of asked) input (SpellsImage image) = search rules in
    let before = g.O.Write.contents c.open_image.new.output in
    let after = g.O.Write.contents c.answer.new.output in
    let fault = g.O.Watched.noted c.answer.new.output in
    let answered : IsOutcome (PrintsAsked may_hold disk names image asked) (IsUnusable (g.H.ImageDisk.may_fail c.args.rt.now) may_hold disk image asked)
    fault c.answer.result before after =
    subst (λ (form : NameForm). IsOutcome (PrintsAsked may_hold disk form image asked)
    (IsUnusable (g.H.ImageDisk.may_fail c.args.rt.now) may_hold disk image asked) fault c.answer.result before after) c.name_form-names.ensures
    c.answer.ensures
    in
    over_image may_hold (path_of asked) input (λ i. PrintsAsked may_hold disk names i asked) _ _ _ _ _ image _ _ held c.in-Ok.ensures.silent answered

pub returns-in-Err-clause-ended : goal.returns-in-Err-clause-ended
returns-in-Err-clause-ended g c =
    let may_hold = g.H.ImageDisk.may_hold c.args.rt.now in
    let disk = g.H.OutDisk.files c.args.rt.now in
    let asked = c.args.asked.now in
    let names = g.O.Watched.form c.args.output.now in
    let input = g.I.Read.remaining c.args.input.now in
    let before = g.O.Write.contents c.args.output.now in
    let after = g.O.Write.contents c.open_image.new.output in
    let may_fail = g.H.ImageDisk.may_fail c.args.rt.now in
    let input_failed = g.I.WatchedRead.may_fail c.args.input.now in
    let fault = g.O.Watched.noted c.open_image.new.output in
    let ended : IsOutcome (PrintsRefusal (IsRefusedImage may_hold (path_of asked) input)) (IsUnreadable may_fail (path_of asked) input_failed)
    fault c.in-Err.status before after =
    subst (λ (path : List ℕ). IsOutcome (PrintsRefusal (IsRefusedImage may_hold path input)) (IsUnreadable may_fail path input_failed)
    fault c.in-Err.status before after) c.path.ensures
    c.in-Err.ensures.refused
    in
    over_none may_hold (path_of asked) input (λ i. PrintsAsked may_hold disk names i asked) _ _ _ _ _ _ ended
