use Rattle.tests_answer.proofs.scripted.counting.Given as goal

-- the shelves that were just made
abbrev pub ghosts-counting_at : goal.ghosts-counting_at
ghosts-counting_at a = record { table = a.solo.shelves }
