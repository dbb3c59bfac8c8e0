use Rattle.std.proofs.Common.{◌≡◌, ◌∙◌, ap₂, rules}
use Rattle.std.specs.List.{fold}
use Rattle.std.proofs.lemmas.Result.{IfOk-weaker}
use Rattle.clap.specs.Words.{app_of, with_subcommand}
use Rattle.command_line.specs.Grammar.{bare_app, csa_app}
use Rattle.command_line.proofs.commands.program.Goals as goal

pub returns : goal.returns
unfolding csa_app
returns c =
    let bare : app_of c.subcommand_required-command.result ≡ bare_app = search rules in
    let first = c.in_ok-command.ensures ∙ ap₂ (fold with_subcommand) bare c.image_tasks.ensures in
    let second = c.in_ok-command-2.ensures ∙ ap₂ (fold with_subcommand) first c.stops_tasks.ensures in
    IfOk-weaker c.with_tasks-3.result _ _ (λ app is. is ∙ ap₂ (fold with_subcommand) second c.other_tasks.ensures)
    c.with_tasks-3.ensures
