use Rattle.shelves.proofs.PinnedLemmas.{pinned_left_alone}
use Rattle.shelves.proofs.laws.pinned_images_are_left_alone.Goals as goal

pub returns : goal.returns
returns c = pinned_left_alone
