use Rattle.tests_answer.proofs.sessions.talked.Given as goal

-- the shelves that were just made
abbrev pub ghosts-talked_at : goal.ghosts-talked_at
ghosts-talked_at g a = record { table = a.solo.shelves }
