use Rattle.std.proofs.Common.{◌≡◌, ℕ, List, take}
use Rattle.timetable.specs.Legal.{At}
use Rattle.image_layout.specs.Spelling.{name_list}
use Rattle.image_facts.proofs.naming.bytes_of_name.Given as goal

abbrev pub invariant-loop-j : goal.invariant-loop-j
invariant-loop-j l = (name : List ℕ) → At (name_list l.image.names) l.i name → l.bytes.items ≡ take l.j name
