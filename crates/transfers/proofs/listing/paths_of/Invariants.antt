use Rattle.timetable.specs.Legal.{AreInOrder}
use Rattle.transfers.specs.Claims.{ArePathsBelow}
use Rattle.transfers.proofs.listing.paths_of.Given as goal

abbrev pub invariant-loop-index : goal.invariant-loop-index
invariant-loop-index l = record {
  paths : ArePathsBelow l.claims l.index l.paths.items;
  order : AreInOrder l.paths.items;
}
