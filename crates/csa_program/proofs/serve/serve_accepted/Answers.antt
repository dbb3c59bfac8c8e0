use Rattle.std.proofs.Common.{◌∙◌, map, sym, subst}
use Rattle.std.proofs.lemmas.List.{length-map}
use Rattle.csa_program.specs.Acceptor.{AreCountedOff}
use Rattle.csa_program.proofs.Hosted.{in_form}
use Rattle.csa_program.proofs.ServedEnds.{as_many}
use Rattle.csa_program.proofs.serve.serve_accepted.Goals as goal

-- the run, with replies in the form that is asked for, and one session for each client who came
pub returns : goal.returns
returns g c =
    let acceptor = c.args.acceptor in
    let ran = c.in_ok-run_result.run_result in
    let last = ran.clients in
    let shown = c.in_ok-run_result.ensures in
    record {
      ran = ran;
      is = in_form _ _ _ _ _ _ _ _ _ c.form_of-form.ensures shown.run;
      many = λ wanted counted.
          let was = subst (λ came. AreCountedOff wanted acceptor.left acceptor.accepted acceptor.is_endless acceptor.failed
          (map (λ visitor. visitor.number) came)) (sym c.requires.none_came) counted in
          let many = shown.many c.requires.none_came ∙ sym (length-map last.came (λ visitor. visitor.number)) in
          as_many wanted last.left last.accepted last.is_endless last.failed (map (λ visitor. visitor.number) last.came) _
          (shown.run.left.0.clients.holds wanted was) shown.run.left.0.clients.none_left many;
      deaf = c.has_failed.ensures;
      counted = c.ends_of.ensures;
    }
