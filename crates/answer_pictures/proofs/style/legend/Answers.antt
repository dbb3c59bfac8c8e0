use Rattle.std.proofs.Common.{refl}
use Rattle.answer_pictures.specs.Style.{legend}
use Rattle.answer_pictures.proofs.style.legend.Goals as goal

pub returns : goal.returns
unfolding legend
returns c = refl
