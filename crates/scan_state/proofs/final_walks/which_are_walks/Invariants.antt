use Rattle.std.proofs.Common.{◌≡◌, map, take}
use Rattle.scan_state.specs.FinalWalkEntries.{is_walk}
use Rattle.scan_state.proofs.final_walks.which_are_walks.Given as goal

abbrev pub invariant-loop-k : goal.invariant-loop-k
invariant-loop-k l = l.ends.items ≡ map is_walk (take l.k l.entries)
