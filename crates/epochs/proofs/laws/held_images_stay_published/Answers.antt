use Rattle.epochs.proofs.HeldLemmas.{pins_hold_published, calls_keep_published}
use Rattle.epochs.proofs.laws.held_images_stay_published.Goals as goal

pub returns : goal.returns
returns c = record { held = pins_hold_published; keep = calls_keep_published }
