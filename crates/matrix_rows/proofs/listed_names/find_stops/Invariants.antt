use Rattle.std.proofs.Common.{ℕ, List}
use Rattle.matrix_rows.specs.Sought.{AreFoundBelow, AreSought}
use Rattle.matrix_rows.proofs.listed_names.find_stops.Given as goal

abbrev pub invariant-loop-stop : goal.invariant-loop-stop
invariant-loop-stop l = (listed : List (List ℕ)) → AreSought listed l.initial.found → AreFoundBelow l.image.names listed l.stop l.found
