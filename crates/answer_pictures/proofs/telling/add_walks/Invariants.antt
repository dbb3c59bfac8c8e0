use Rattle.std.proofs.Common.{◌≡◌, ◌++◌, drop}
use Rattle.answer_pictures.specs.JourneyLines.{walk_parts}
use Rattle.answer_pictures.proofs.telling.add_walks.Given as goal

abbrev pub invariant-loop-footpath : goal.invariant-loop-footpath
invariant-loop-footpath l =
    l.stretches.items ++ walk_parts l.image.names l.time (drop l.footpath-index l.walk) ≡ l.fn.stretches.items ++ walk_parts l.image.names l.fn.start l.walk
