use Rattle.std.proofs.Common.{ℕ, ap, sym, ◌∙◌, arith, length-take-le, ◌≡◌, ◌%◌, length, take}
use Rattle.image_files.proofs.Pieces.{odd_rest, not_whole}
use Rattle.image_files.proofs.reading.words_of.Goals as goal

pub returns-then-count-ne0-clause-odd : goal.returns-then-count-ne0-clause-odd
returns-then-count-ne0-clause-odd g c = λ _.
    let count = c.in_ok-count.count in
    let size : length (take count c.fill.new.piece) ≡ count = length-take-le count c.fill.new.piece c.in_ok-count.ensures.within in
    odd_rest _ _ _ c.pieces.words.items (take count c.fill.new.piece) c.pieces.invariant.spelled c.in_ok-count.ensures.bytes
    (c.in_ok-count.ensures.end (not_whole count (length c.fill.new.piece) c.in_ok-count.ensures.within (omega arith) c.if-count-ne0.true))
    (λ e. c.if-count-ne0.true (ap (λ (n : ℕ). n % 4) (sym size) ∙ e))
