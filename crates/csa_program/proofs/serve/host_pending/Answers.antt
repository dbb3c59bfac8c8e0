use Rattle.csa_program.proofs.serve.host_pending.Goals as goal

-- the run is that of the image that is shown
pub invariant_of-result : goal.invariant_of-result
invariant_of-result g c = record { hosted = c.args.pending.named _ _ (rw c.requires.served c.in-Some.ensures) }
