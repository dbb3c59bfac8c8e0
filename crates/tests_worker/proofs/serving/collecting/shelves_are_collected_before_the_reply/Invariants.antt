use Rattle.tests_worker.proofs.serving.collecting.shelves_are_collected_before_the_reply.Given as goal

-- the shelves that were just made
abbrev pub ghosts-word_at : goal.ghosts-word_at
ghosts-word_at g a = record { table = a.shelves }
