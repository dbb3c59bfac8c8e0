use Rattle.tests_worker.proofs.serving.spending.serve_senders.Given as goal

-- the shelves that were just made
abbrev pub ghosts-count_ends : goal.ghosts-count_ends
ghosts-count_ends g a = record { table = a.shelves }
