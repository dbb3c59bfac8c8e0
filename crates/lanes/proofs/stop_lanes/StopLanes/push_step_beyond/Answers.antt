use Rattle.std.proofs.Common.{refl}
use Rattle.lanes.proofs.StepLemmas.{first_step}
use Rattle.lanes.proofs.stop_lanes.StopLanes.push_step_beyond.Goals as goal

pub returns : goal.returns
returns c =
    let has = c.in_ok-push_step.ensures.1 in
    record { heads = refl; entries = refl; more = has.more; step = first_step c.args.boarding _ _ _ _ has }
