use Rattle.workers.proofs.headline.know_pins.Goals as goal

pub returns : goal.returns
returns c = λ seat of. c.pinned_images_are_left_alone.ensures seat
