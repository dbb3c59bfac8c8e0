use Rattle.std.proofs.lemmas.Result.{IfOk-weaker, IfErr-weaker}
use Rattle.shelf_steps.proofs.Pinned.{Held, Pinned, pinned_second, pinned_third, pinned_fourth, moved}
use Rattle.shelf_steps.specs.Pinning.{TryIsLate, Moves, IsIdleAs}
use Rattle.shelf_steps.proofs.pinning.pin.Goals as goal

pub returns-in-Ok-try_once-clause-pins : goal.returns-in-Ok-try_once-clause-pins
returns-in-Ok-try_once-clause-pins c =
    pinned_second c.args.number c.args.worker.now.me.0 c.try_once.new.worker.me.0 _ c.in-Ok-try_once.held
    c.try_once-2.new.worker.me c.in_default.ensures.late.0 c.in-Ok-try_once.ensures.well

pub returns-in-Ok-try_once-2-clause-pins : goal.returns-in-Ok-try_once-2-clause-pins
returns-in-Ok-try_once-2-clause-pins c =
    pinned_third c.args.number c.args.worker.now.me.0 c.try_once.new.worker.me.0 c.try_once-2.new.worker.me.0 _ _
    c.in-Ok-try_once-2.held c.try_once-3.new.worker.me c.in_default.ensures.late.0
    c.in_default-try_once.ensures.late.0 c.in-Ok-try_once-2.ensures.well

pub returns-clause-pins : goal.returns-clause-pins
returns-clause-pins c =
    IfOk-weaker c.try_once-4.result (λ h. Held c.args.number c.try_once-3.new.worker.me.0 h c.try_once-4.new.worker.me)
    (λ h. Pinned c.args.number c.args.worker.now.me.0 h c.try_once-4.new.worker.me)
    (λ h t. pinned_fourth c.args.number c.args.worker.now.me.0 c.try_once.new.worker.me.0 c.try_once-2.new.worker.me.0
    c.try_once-3.new.worker.me.0 _ _ _ h c.try_once-4.new.worker.me c.in_default.ensures.late.0
    c.in_default-try_once.ensures.late.0 c.in_default-try_once-2.ensures.late.0 t)
    c.try_once-4.ensures.well

pub returns-clause-moves : goal.returns-clause-moves
returns-clause-moves c =
    IfErr-weaker c.try_once-4.result (λ n. TryIsLate c.try_once-3.new.worker.me.0 n c.try_once-4.new.worker.me.0
    × IsIdleAs c.args.number c.try_once-4.new.worker.me)
    (λ n. Moves c.args.worker.now.me.0 n c.try_once-4.new.worker.me.0
    × IsIdleAs c.args.number c.try_once-4.new.worker.me)
    (λ n t. (
      moved c.args.worker.now.me.0 c.try_once.new.worker.me.0 c.try_once-2.new.worker.me.0
          c.try_once-3.new.worker.me.0 c.try_once-4.new.worker.me.0 _ _ _ n c.in_default.ensures.late.0
          c.in_default-try_once.ensures.late.0 c.in_default-try_once-2.ensures.late.0 t.0,
      t.1,
    ))
    c.try_once-4.ensures.late
