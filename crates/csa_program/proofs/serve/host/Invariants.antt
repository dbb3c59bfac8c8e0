use Rattle.csa_program.proofs.serve.host.Given as goal

-- the shelves that were just made
abbrev pub ghosts-serve_accepted : goal.ghosts-serve_accepted
ghosts-serve_accepted g a = record { table = a.made.0 }
