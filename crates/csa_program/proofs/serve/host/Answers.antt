use Rattle.std.proofs.Common.{ap, refl}
use Rattle.csa_program.specs.declared.client_sessions.SessionRules.{SessionRules}
use Rattle.csa_program.proofs.Hosted.{hosted_run}
use Rattle.csa_program.proofs.serve.host.Goals as goal

-- the run began with the image, the acceptor and the seats that were just made
pub returns-in-Ok-serve_accepted : goal.returns-in-Ok-serve_accepted
returns-in-Ok-serve_accepted g c =
    let folders = c.args.folders.now in
    let made = c.in-Ok.made in
    let acceptor = c.new-acceptor in
    let end = c.in-Ok-serve_accepted.end in
    let kept = acceptor.ensures.rules in
    hosted_run _ _ _ _ _ _ folders.setup.now.request.now c.args.image folders.setup.now.zone_bytes.items
    made.0 made.2.items made.1 acceptor.result folders _ end.0 end.1 c.in-Ok.ensures.first c.in-Ok.ensures.new acceptor.ensures.none_came acceptor.ensures.whole
    (ap (λ (rules : SessionRules). rules.idle) kept, ap (λ (rules : SessionRules). rules.log) kept) (refl, refl, refl)
    acceptor.ensures.counted c.in-Ok-serve_accepted.ensures
