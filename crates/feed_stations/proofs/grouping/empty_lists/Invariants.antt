use Rattle.std.proofs.Common.{◌≡◌, ℕ, List, [], Some, length}
use Rattle.std.specs.Global.{Vec}
use Rattle.std.specs.List.{slice_get}
use Rattle.feed_stations.proofs.grouping.empty_lists.Given as goal

abbrev pub invariant-loop-made : goal.invariant-loop-made
invariant-loop-made l = record {
  count : length l.lists.items ≡ l.made;
  empty : (k : ℕ) (list : Vec ℕ) → slice_get l.lists.items k ≡ Some list → list.items ≡ [];
}
