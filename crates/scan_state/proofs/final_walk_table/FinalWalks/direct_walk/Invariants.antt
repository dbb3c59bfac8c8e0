use Rattle.scan_state.specs.ScanState.{final_walks_of}
use Rattle.scan_state.specs.Nearest.{IsShortestWalk}
use Rattle.scan_state.proofs.final_walk_table.FinalWalks.direct_walk.Given as goal

abbrev pub invariant-loop-k : goal.invariant-loop-k
invariant-loop-k l = IsShortestWalk (final_walks_of l.self) l.sources l.k l.best
