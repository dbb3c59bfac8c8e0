use Rattle.std.proofs.Common.{◌≡◌}
use Rattle.profile_scan.specs.Nodes.{spelled}
use Rattle.journeys.specs.Extracted.{rides_on}
use Rattle.journeys.proofs.SpellLemmas.{put_before}
use Rattle.journeys.proofs.extraction.rides_from.Given as goal

abbrev pub invariant-loop-alighting : goal.invariant-loop-alighting
invariant-loop-alighting g l =
    rides_on l.boards (spelled (g.F.Spells.nodes l.found) l.from).aboard ≡ put_before l.rides.items
    (rides_on l.first (spelled (g.F.Spells.nodes l.found) l.number).aboard)

abbrev pub decreases-loop-alighting : goal.decreases-loop-alighting
decreases-loop-alighting g l = l.number
