use Rattle.shelves.proofs.GrowthLemmas.{growths_join, one_image_each, published_stay}
use Rattle.shelves.proofs.laws.versions_have_one_image.Goals as goal

pub returns : goal.returns
returns c = record { one = one_image_each; stay = published_stay; join = growths_join }
