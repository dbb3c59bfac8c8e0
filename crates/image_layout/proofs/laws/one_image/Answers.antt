use Rattle.std.proofs.Common.{ℕ, sym, ap, ◌∙◌}
use Rattle.image_layout.specs.Spelling.{image_in}
use Rattle.image_layout.proofs.laws.one_image.Goals as goal

pub returns : goal.returns
returns c = λ v w t n first second same. first.spelled ∙ ap (λ (k : ℕ). image_in k t n) same ∙ sym second.spelled
