use Rattle.tests_answer.proofs.legs.replied.Given as goal

-- the shelves that were just made
abbrev pub ghosts-replied_at : goal.ghosts-replied_at
ghosts-replied_at a = record { table = a.solo.shelves }
