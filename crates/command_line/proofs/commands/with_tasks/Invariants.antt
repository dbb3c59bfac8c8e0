use Rattle.std.proofs.Common.{◌≡◌, map, take}
use Rattle.std.specs.List.{fold}
use Rattle.clap.specs.Words.{app_of, with_subcommand}
use Rattle.command_line.specs.Grammar.{shape_of_task}
use Rattle.command_line.proofs.commands.with_tasks.Given as goal

abbrev pub invariant-loop-task : goal.invariant-loop-task
invariant-loop-task l =
    app_of l.command ≡ fold with_subcommand (app_of l.fn.command) (map shape_of_task (take l.task-index l.tasks))
