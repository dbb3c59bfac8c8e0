use Rattle.shelf_steps.proofs.Events.{late_tells, late_rises}
use Rattle.shelf_steps.proofs.laws.a_late_take_tells.Goals as goal

pub returns : goal.returns
returns c = record {
  tells = late_tells;
  rises = late_rises;
}
