use Rattle.tests_worker.proofs.serving.holding.serve_at.Given as goal

-- the shelves that are lent
abbrev pub ghosts-count_ends : goal.ghosts-count_ends
ghosts-count_ends g a = record { table = a.shelves }
