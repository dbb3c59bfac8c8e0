use Rattle.std.proofs.Common.{refl, sym, subst}
use Rattle.image_layout.specs.Image.{ImageValue}
use Rattle.feed_loads.specs.Loading.{IsMadeOf}
use Rattle.feed_loads.proofs.loading.shared_image.Goals as goal

-- the image is the same where it is shared
pub returns-in-Ok-new-clause-made : goal.returns-in-Ok-new-clause-made
returns-in-Ok-new-clause-made g c =
    let load = c.in-Ok.ensures in
    let Made = λ (image : ImageValue).
    IsMadeOf g.F.FeedFiles.words c.args.files.now c.load.new.files c.args.plan.now (image, c.in-Ok.made.1) in
    let made : Made c.in-Ok.made.0 = record { all_read = load.all_read; is_image = load.ok } in
    subst Made (sym c.in-Ok-new.ensures.ok) made

-- what refuses the files is the load's own fault
pub returns-in-Err-clause-made : goal.returns-in-Err-clause-made
returns-in-Err-clause-made g c = (tt, c.in-Err.ensures.err)

-- an image that finds no room to be shared is one of the files, all of which were read
pub returns-clause-made : goal.returns-clause-made
returns-clause-made g c = (refl, (c.in-Ok.made, record { all_read = c.in-Ok.ensures.all_read; is_image = c.in-Ok.ensures.ok }))
