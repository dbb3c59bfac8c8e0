use Rattle.journeys.proofs.SpellLemmas.{AreBetween}
use Rattle.journeys.proofs.extraction.rides_after.Given as goal

abbrev pub invariant-loop-alighting : goal.invariant-loop-alighting
invariant-loop-alighting g l = AreBetween (g.F.Spells.nodes l.found) l.from l.number l.rides

abbrev pub decreases-loop-alighting : goal.decreases-loop-alighting
decreases-loop-alighting g l = l.number
