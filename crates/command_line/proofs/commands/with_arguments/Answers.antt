use Rattle.std.proofs.Common.{arith}
use Rattle.clap.specs.Words.{app_of, rule_of}
use Rattle.command_line.specs.Grammar.{rule_of_argument}
use Rattle.command_line.proofs.Apps.{no_rules, rule_more}
use Rattle.command_line.proofs.commands.with_arguments.Goals as goal

pub loop-argument-init : goal.loop-argument-init
loop-argument-init c = no_rules (app_of c.args.command)

pub loop-argument-preserved : goal.loop-argument-preserved
loop-argument-preserved c =
    rule_more c.args.arguments.now c.loop-argument.argument-index _ (omega arith) rule_of_argument (app_of c.args.command)
    (app_of c.loop-argument.command) (app_of c.in_ok-command.command) (rule_of c.arg_of.result)
    c.loop-argument.invariant c.arg_of.ensures.0 (c.in_ok-command.ensures.shape c.arg_of.ensures.1)
