use Rattle.std.proofs.Common.{take}
use Rattle.std.specs.List.{AllZip}
use Rattle.image_commands.specs.Picturing.{IsDrawnAs}
use Rattle.image_commands.proofs.pictured.lines_of.Given as goal

abbrev pub invariant-loop-departure : goal.invariant-loop-departure
invariant-loop-departure g l = AllZip (IsDrawnAs g.C.ShowsFigures.figures l.image) (take l.departure-index l.departures) l.lines.items
