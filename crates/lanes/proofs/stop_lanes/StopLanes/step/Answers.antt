use Rattle.std.proofs.Common.{◌/◌, arith, length, refl}
use Rattle.std.proofs.lemmas.Option.{slice_get_read}
use Rattle.lanes.proofs.StepLemmas.{step_there, no_step}
use Rattle.lanes.proofs.stop_lanes.StopLanes.step.Goals as goal

pub returns-then-index-len : goal.returns-then-index-len
returns-then-index-len c =
    let past = c.if-index-len.true in
    let long = c.len.ensures in
    no_step c.args.self.now.steps.items c.args.tag (omega (arith, past, long))

pub returns : goal.returns
returns c =
    let low = c.if-index-len.false in
    let long = c.len.ensures in
    let steps = c.args.self.now.steps.items in
    step_there steps c.args.tag c.index.result.now
    (slice_get_read steps (length steps) (c.args.tag / 8) c.index.result.now refl (omega (arith, low, long)) c.index.ensures)
