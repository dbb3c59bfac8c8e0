use Rattle.std.proofs.Common.{◌≡◌, inr, refl, rules}
use Rattle.csa_program.specs.Serving.{served_text}
use Rattle.csa_program.proofs.ServerEnds.{served_line_told}
use Rattle.csa_program.proofs.serve.tell_served.Goals as goal

pub returns-in-Ok : goal.returns-in-Ok
returns-in-Ok g c = λ port before printed.
    let line : c.as_str.result.now ≡ served_text c.args.ends = search rules in
    let wrote = c.write_text.ensures in
    served_line_told port _ before _ _ c.args.ends c.args.is_deaf _ _ _ c.status-status.ensures line wrote.status wrote.written wrote.begun wrote.failed
    printed

pub returns-in-Err : goal.returns-in-Err
returns-in-Err g c = λ port before printed. inr (inr (refl, printed))
