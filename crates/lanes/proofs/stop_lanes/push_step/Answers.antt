use Rattle.std.proofs.Common.{length, refl, ap, arith}
use Rattle.lanes.specs.StopLanes.{steps_in}
use Rattle.lanes.proofs.StepLemmas.{has_steps, steps_long}
use Rattle.lanes.proofs.stop_lanes.push_step.Goals as goal

pub returns : goal.returns
returns c =
    let first = c.in_ok-first.ensures.1 in
    let same = ap (λ ss. length (steps_in ss)) c.deref.ensures.value in
    let long = steps_long c.args.steps.now.items in (
      c.in_ok-first.ensures.0,
      has_steps c.args.steps.now.items c.append.new.items.items _ c.in_ok-append.ensures.added c.args.boarding c.args.labels c.in_ok-first.first refl
          (omega (arith, first, long, same)),
    )
