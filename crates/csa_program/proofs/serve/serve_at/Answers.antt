use Rattle.csa_program.proofs.serve.serve_at.Goals as goal

-- a run of this server is one of the name's
pub serve_named-requires-clause-named : goal.serve_named-requires-clause-named
serve_named-requires-clause-named g c κs within = λ ends is_deaf hosted. ∣ hosted ∣₁

pub returns : goal.returns
returns g c = c.serve_named.ensures
