use Rattle.std.proofs.Common.{◌≡◌, refl}
use Rattle.image_commands.specs.Refusing.{refusal_line}
use Rattle.command_endings.proofs.Outcomes.{refused}
use Rattle.image_commands.proofs.opening.refuse.Goals as goal

pub returns : goal.returns
returns g c =
    let refusal = c.args.refusal in
    let done = c.print_refusal-status.ensures in
    refused (λ line. line ≡ refusal_line refusal) _ _ (refusal_line refusal) _ _ refl done.status done.printed done.silent done.begun done.failed
