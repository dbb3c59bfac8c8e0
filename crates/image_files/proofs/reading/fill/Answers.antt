use Rattle.std.proofs.Common.{rules}
use Rattle.image_files.proofs.Pieces.{filled_further}
use Rattle.image_files.proofs.reading.fill.Goals as goal

pub pieces-preserved : goal.pieces-preserved
pieces-preserved g c = record {
  whole = search rules;
  within = search rules;
  filled = filled_further _ _ _ c.pieces.at c.in_ok-count.count c.pieces.piece c.read_some.new.piece c.pieces.invariant.within c.in_ok-count.ensures.within
      c.pieces.invariant.filled c.in_ok-count.ensures.bytes;
  later = search rules;
}
