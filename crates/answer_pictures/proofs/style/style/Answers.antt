use Rattle.std.proofs.Common.{refl}
use Rattle.answer_pictures.specs.Style.{style}
use Rattle.answer_pictures.proofs.style.style.Goals as goal

pub returns : goal.returns
unfolding style
returns c = refl
