use Rattle.std.proofs.Common.{◌≡◌, drop}
use Rattle.timetable.specs.Journeys.{walk_end}
use Rattle.journeys.proofs.ends.walk_end.Given as goal

abbrev pub invariant-loop-footpath : goal.invariant-loop-footpath
invariant-loop-footpath l = walk_end l.here (drop l.footpath-index l.walk) ≡ walk_end l.stop l.walk
