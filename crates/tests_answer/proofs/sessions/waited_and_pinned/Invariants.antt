use Rattle.tests_answer.proofs.sessions.waited_and_pinned.Given as goal

-- the shelves that were just made
abbrev pub ghosts-overtaken_at : goal.ghosts-overtaken_at
ghosts-overtaken_at a = record { table = a.solo.shelves }
