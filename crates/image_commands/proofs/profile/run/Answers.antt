use Rattle.std.proofs.Common.{◌≡◌, inl, refl, rules, string_bytes}
use Rattle.image_commands.specs.Answering.{HasFault, IsAnswered, IsNoRequest, IsPictureAt}
use Rattle.image_commands.specs.Commands.{PrintsProfile}
use Rattle.command_endings.specs.Ending.{PrintsOnly}
use Rattle.image_commands.specs.Refusing.{refusal_line}
use Rattle.image_commands.specs.declared.refusal.CommandRefusal.TheVariants.{Query}
use Rattle.command_endings.proofs.Outcomes.{outcome_of, refused_or}
use Rattle.image_commands.proofs.profile.run.Goals as goal

pub returns-in-Ok : goal.returns-in-Ok
returns-in-Ok g c =
    let disk = g.H.OutDisk.files c.args.rt.now in
    let image = c.args.image.now in
    let request = c.args.request.now in
    let profile = c.in-Ok.profile in
    let names = c.args.names in
    outcome_of (PrintsOnly (λ text. IsPictureAt disk request.image.now request.picture profile.picture × (text ≡ string_bytes profile.text)))
    (PrintsProfile disk names image request) _ _ _ _ _ _
    (λ s text is. inl (is.0, (profile, c.in-Ok.ensures, is.1.0, is.1.1))) (λ can. (can, (names, profile, c.in-Ok.ensures))) c.print_profile.ensures

pub returns-else-status-eq-REFUSED : goal.returns-else-status-eq-REFUSED
returns-else-status-eq-REFUSED g c =
    let image = c.args.image.now in
    let request = c.args.request.now in
    let fault = c.in-Err-Bad.fault in
    let bad : HasFault image request fault = search rules in
    let done = c.print_refusal-status.ensures in
    outcome_of _ _ _ _ _ _ _ _ (λ s text is. is) (λ none. absurd none)
    (refused_or (IsAnswered (g.H.OutDisk.files c.args.rt.now) c.args.names image request) (IsNoRequest image request) _ _ (refusal_line (Query fault)) _ _
    (fault, bad, refl) done.status done.printed done.silent done.begun done.failed)
