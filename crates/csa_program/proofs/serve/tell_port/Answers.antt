use Rattle.std.proofs.Common.{◌≡◌, inl, inr, refl, rules}
use Rattle.csa_program.specs.Serving.{port_text}
use Rattle.csa_program.proofs.ServerEnds.{port_told}
use Rattle.csa_program.proofs.serve.tell_port.Goals as goal

pub returns-in-Ok : goal.returns-in-Ok
returns-in-Ok g c =
    let line : c.as_str.result.now ≡ port_text c.args.port = search rules in
    let wrote = c.write_text.ensures in
    port_told c.args.port _ _ _ _ _ line wrote.status wrote.written wrote.begun wrote.failed

pub returns-in-Err : goal.returns-in-Err
returns-in-Err g c = inr (inr (refl, inl refl))
