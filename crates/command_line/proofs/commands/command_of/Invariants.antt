use Rattle.std.proofs.Common.{◌≡◌, map, take}
use Rattle.std.specs.List.{flat_map}
use Rattle.clap.specs.Words.{app_of, new_app}
use Rattle.command_line.specs.Grammar.{rule_of_argument, with_rules}
use Rattle.command_line.proofs.commands.command_of.Given as goal

abbrev pub invariant-loop-group : goal.invariant-loop-group
invariant-loop-group l =
    app_of l.command ≡ with_rules (new_app l.task.name.now)
    (flat_map (λ group. map rule_of_argument group.now) (take l.group-index l.task.arguments.now))
