use Rattle.shelf_steps.proofs.Shown.{one_state}
use Rattle.shelf_steps.proofs.laws.one_state_is_shown.Goals as goal

pub returns : goal.returns
returns c = one_state
