use Rattle.std.proofs.Common.{map, take}
use Rattle.matrix_rows.specs.Sought.{AreFound}
use Rattle.matrix_rows.proofs.listed_names.stops_found.Given as goal

abbrev pub invariant-loop-name : goal.invariant-loop-name
invariant-loop-name l = AreFound l.found (take l.name-index (map (λ name. name.now) l.listed)) l.stops.items
