use Rattle.std.proofs.Common.{map, take}
use Rattle.command_line.specs.Requests.{AreDistinct}
use Rattle.command_line.proofs.requests.twice_in.Given as goal

abbrev pub invariant-loop-index : goal.invariant-loop-index
invariant-loop-index l = AreDistinct (map (λ text. text.now) (take l.index l.texts))
