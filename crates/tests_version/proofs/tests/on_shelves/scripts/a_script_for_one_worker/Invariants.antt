use Rattle.tests_version.proofs.tests.on_shelves.scripts.a_script_for_one_worker.Given as goal

-- the shelves that were just made
abbrev pub ghosts-play_alone : goal.ghosts-play_alone
ghosts-play_alone g a = record { table = a.shelves }
