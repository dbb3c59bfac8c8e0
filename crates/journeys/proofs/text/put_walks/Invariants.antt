use Rattle.std.proofs.Common.{◌≡◌, ◌++◌, take}
use Rattle.std.specs.List.{flat_map}
use Rattle.journeys.specs.Texts.{walk_text}
use Rattle.journeys.proofs.text.put_walks.Given as goal

abbrev pub invariant-loop-footpath : goal.invariant-loop-footpath
invariant-loop-footpath l = l.out.items ≡ l.fn.out.items ++ flat_map walk_text (take l.footpath-index l.walk)
