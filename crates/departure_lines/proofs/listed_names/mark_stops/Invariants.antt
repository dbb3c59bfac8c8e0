use Rattle.std.proofs.Common.{◌≡◌, ℕ, List, length}
use Rattle.departure_lines.specs.Sought.{AreFoundBelow, AreMarkedBelow, AreSought}
use Rattle.departure_lines.proofs.listed_names.mark_stops.Given as goal

abbrev pub invariant-loop-stop : goal.invariant-loop-stop
invariant-loop-stop l = record {
  long : length l.marks.items ≡ l.stop;
  found : (listed : List (List ℕ)) → AreSought listed l.initial.found → AreFoundBelow l.image.names listed l.stop l.found;
  marked : (listed : List (List ℕ)) → AreSought listed l.initial.found → AreMarkedBelow l.image.names listed l.stop l.marks.items;
}
