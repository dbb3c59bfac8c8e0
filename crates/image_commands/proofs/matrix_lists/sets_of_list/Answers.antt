use Rattle.std.proofs.Common.{◌<◌, ℕ, subst}
use Rattle.image_commands.proofs.matrix_lists.sets_of_list.Goals as goal

pub returns-in-Ok-clause-sets : goal.returns-in-Ok-clause-sets
returns-in-Ok-clause-sets g c = record {
  listed = c.in-Ok.ensures.sets;
  within = c.in-Ok.ensures.within;
  some = subst (λ (n : ℕ). 0 < n) c.in-Ok.sets.ok.0 c.in-Ok.ensures.some;
}
