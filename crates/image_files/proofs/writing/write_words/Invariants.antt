use Rattle.std.proofs.Common.{◌≡◌, ℕ, List, ◌++◌}
use Rattle.std.specs.Io.KnownBytes.{Appends}
use Rattle.std.specs.Slice.Iter.{chunks_rest}
use Rattle.image_layout.specs.Text.{bytes_of}
use Rattle.image_files.proofs.writing.write_words.Given as goal

-- the words before the rest are written
abbrev pub invariant-loop-piece : goal.invariant-loop-piece
invariant-loop-piece g l =
    (goal.iterator-loop-piece g).can_next l.piece-iterator
    × (goal.iterator-loop-piece g).is_finite l.piece-iterator
    × ((done : List ℕ) × Appends (g.W.Write.contents l.fn.file) (g.W.Write.contents l.file) (bytes_of done)
    × (done ++ chunks_rest l.piece-iterator ≡ l.fn.words))
