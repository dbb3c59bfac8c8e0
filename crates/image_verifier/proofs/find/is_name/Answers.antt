use Rattle.std.proofs.Common.{arith, refl, sym, ◌∙◌}
use Rattle.std.proofs.lemmas.List.{ext_get_or}
use Rattle.image_layout.specs.Shown.{name_of}
use Rattle.image_verifier.proofs.find.is_name.Goals as goal

pub returns : goal.returns
returns c = (
  λ _. ext_get_or 0 (name_of c.args.words.now c.args.name) c.args.bytes.now (sym c.name_len_at.ensures
      ∙ c.if-name_len_at-bytes.false) (λ k lt. c.loop-i.invariant k (omega (arith, lt, c.name_len_at.ensures))),
  λ _. refl,
)
