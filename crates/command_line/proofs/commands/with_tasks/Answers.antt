use Rattle.std.proofs.Common.{arith, ap}
use Rattle.clap.specs.Words.{Shape, app_of, shape_of}
use Rattle.command_line.specs.Grammar.{shape_of_task}
use Rattle.command_line.proofs.Apps.{shape_more, third_fails}
use Rattle.command_line.proofs.commands.with_tasks.Goals as goal

pub loop-task-preserved : goal.loop-task-preserved
loop-task-preserved c =
    let is = c.in_ok-command_of.ensures in
    shape_more c.args.tasks.now c.loop-task.task-index _ (omega arith) shape_of_task (app_of c.args.command)
    (app_of c.loop-task.command) (app_of c.in_ok-command.command) (shape_of c.in_ok-command_of.field-0)
    c.loop-task.invariant is (c.in_ok-command.ensures.shape (third_fails _ _ _ _ (ap (λ (s : Shape). s.is_plain) is)))
