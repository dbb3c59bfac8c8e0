use Rattle.shelf_steps.proofs.Held.{slots_are_out, in_use, held_stay}
use Rattle.shelf_steps.proofs.laws.what_is_held_stays.Goals as goal

pub returns : goal.returns
returns c = record {
  slot = slots_are_out;
  in_use = in_use;
  never_freed = held_stay;
}
