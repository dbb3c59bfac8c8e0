-- What is written is the image that was made.
use Rattle.std.proofs.Common.{◌≡◌, ◌∙◌, List, ℕ, subst, sym}
use Rattle.image_files.specs.Writing.{IsPut, IsUnwritable, IsWholeImage}
use Rattle.image_layout.specs.Text.{bytes_of}
use Rattle.image_commands.specs.Commands.{IsUpgraded}
use Rattle.image_commands.specs.Counting.{counts_line}
use Rattle.command_endings.specs.Ending.{PrintsOnly}
use Rattle.command_endings.proofs.Outcomes.{outcome_of, unusable}
use Rattle.image_commands.proofs.upgrade.run.Goals as goal

pub put_image-requires : goal.put_image-requires
put_image-requires g c =
    let made = c.in-Ok.ensures in
    let whole : IsWholeImage c.in-Ok.words.items = record {
      timetable = c.args.image.now.timetable;
      names = c.args.image.now.names;
      image = made.image;
      layout = made.layout;
    } in
    subst IsWholeImage (sym c.deref.ensures.value) whole

pub returns-in-Ok-put_image : goal.returns-in-Ok-put_image
returns-in-Ok-put_image g c =
    let disk = g.H.OutDisk.files c.args.rt.now in
    let image = c.args.image.now in
    let out = c.args.request.out.now in
    let words = c.in-Ok.words.items in
    let made = c.in-Ok.ensures in
    let put : IsPut disk out (bytes_of words) =
    subst (λ (ws : List ℕ). IsPut disk out (bytes_of ws)) c.deref.ensures.value c.in-Ok-put_image.ensures.put in
    outcome_of (PrintsOnly (λ text. text ≡ counts_line image)) (PrintsOnly (IsUpgraded disk image out)) _ _ _ _ _ _
    (λ s text is. (is.0, ((words, made.image, made.layout, put), is.1))) (λ none. absurd none) c.run.ensures

pub returns : goal.returns
returns g c =
    let Unwritable = IsUnwritable (g.H.OutDisk.files c.args.rt.now) c.args.request.out.now in
    let done = c.report_unwritten.ensures in
    unusable _ Unwritable _ _ c.report_unwritten.result _ done.memory done.either (λ other. c.in-Err.ensures.failed (λ e. other (c.kind.ensures ∙ e)))
