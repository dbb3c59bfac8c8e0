use Rattle.std.proofs.Common.{◌≡◌, ◌≢◌, rules}
use Rattle.image_verifier.specs.declared.fault.ImageFault.TheVariants.{OutOfMemory}
use Rattle.command_endings.specs.Ending.{PrintsRefusal}
use Rattle.image_commands.specs.Refusing.{refusal_line}
use Rattle.image_commands.specs.declared.refusal.CommandRefusal.TheVariants.{Image}
use Rattle.command_endings.proofs.Outcomes.{outcome_of}
use Rattle.image_commands.proofs.opening.refuse_words.Goals as goal

pub returns : goal.returns
returns g c =
    let fault = c.args.fault in
    let other : fault ≢ OutOfMemory = search rules in
    outcome_of (PrintsRefusal (λ line. line ≡ refusal_line (Image fault)))
    (PrintsRefusal (λ line. (fault ≢ OutOfMemory) × (line ≡ refusal_line (Image fault)))) _ _ _ _ _ _
    (λ s line is. (is.0, (other, is.1))) (λ none. none) c.refuse.ensures
