use Rattle.std.proofs.Common.{inl, refl}
use Rattle.image_commands.proofs.matrix.write_unread.Goals as goal

pub returns-in-Some-clause-cut : goal.returns-in-Some-clause-cut
returns-in-Some-clause-cut g c = λ is. inl ((c.in-Some.ensures.0, inl c.in-Some.ensures.1), refl)
