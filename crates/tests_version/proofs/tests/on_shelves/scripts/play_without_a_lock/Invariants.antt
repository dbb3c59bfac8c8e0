use Rattle.tests_version.proofs.tests.on_shelves.scripts.play_without_a_lock.Given as goal

-- the shelves that were just made
abbrev pub ghosts-play_at : goal.ghosts-play_at
ghosts-play_at g a = record { table = a.shelves }
