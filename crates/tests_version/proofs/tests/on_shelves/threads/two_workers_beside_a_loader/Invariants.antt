use Rattle.tests_version.proofs.tests.on_shelves.threads.two_workers_beside_a_loader.Given as goal

-- the shelves that were just made
abbrev pub ghosts-beside_a_loader : goal.ghosts-beside_a_loader
ghosts-beside_a_loader g a = record { table = a.shelves }
