use Rattle.std.proofs.Common.{arith, map}
use Rattle.clap.specs.Words.{app_of, new_app}
use Rattle.command_line.specs.Grammar.{rule_of_argument}
use Rattle.command_line.proofs.Apps.{rules_more}
use Rattle.command_line.proofs.commands.command_of.Goals as goal

pub loop-group-preserved : goal.loop-group-preserved
loop-group-preserved c =
    rules_more c.args.task.arguments.now c.loop-group.group-index _ (omega arith) (λ group. map rule_of_argument group.now)
    (new_app c.args.task.name.now) (app_of c.loop-group.command) (app_of c.in_ok-command.command)
    c.loop-group.invariant c.in_ok-command.ensures
