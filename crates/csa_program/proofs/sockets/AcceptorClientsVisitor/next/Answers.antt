use Rattle.std.proofs.Common.{rules, ◌≡◌, ◌⊎◌, ◌+◌, ◌-◌, ◌^◌, ◌++◌, ◌∷◌, ◌∙◌, [], ap, map, min, true}
use Rattle.std.proofs.lemmas.List.{map-append}
use Rattle.csa_program.proofs.CountedOff.{counted_next}
use Rattle.csa_program.proofs.sockets.AcceptorClientsVisitor.next.Goals as goal

-- one more came, and is counted off
pub returns-in-Some-clause-holds : goal.returns-in-Some-clause-holds
returns-in-Some-clause-holds g c wanted was =
    let old = c.args.self.now in
    let then = c.visitor.new.self in
    let client = c.visitor.result in
    let less : (old.is_endless ≡ true) ⊎ (then.left + 1 ≡ old.left) = search rules in
    let more : then.accepted ≡ min (old.accepted + 1) (2 ^ 64 - 1) = search rules in
    let same : then.is_endless ≡ old.is_endless = search rules in
    let whole : then.failed ≡ old.failed = search rules in
    let came : then.came ≡ old.came ++ client ∷ [] = search rules in
    counted_next wanted old.left then.left old.accepted then.accepted old.is_endless then.is_endless old.failed then.failed
    (map (λ visitor. visitor.number) old.came) (map (λ visitor. visitor.number) then.came) client.number
    same whole less more c.visitor.ensures.number
    (ap (map (λ visitor. visitor.number)) came ∙ map-append (λ visitor. visitor.number) old.came (client ∷ [])) was
