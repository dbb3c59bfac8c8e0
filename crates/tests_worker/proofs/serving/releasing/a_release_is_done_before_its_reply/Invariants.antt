use Rattle.tests_worker.proofs.serving.releasing.a_release_is_done_before_its_reply.Given as goal

-- the shelves that were just made
abbrev pub ghosts-counts_at : goal.ghosts-counts_at
ghosts-counts_at g a = record { table = a.shelves }
