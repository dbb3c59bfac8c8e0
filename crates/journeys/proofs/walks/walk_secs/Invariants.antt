use Rattle.std.proofs.Common.{◌≡◌, ◌+◌, ◌-◌, ◌^◌, ◌≤◌, min, drop}
use Rattle.timetable.specs.Journeys.{walk_secs}
use Rattle.journeys.proofs.walks.walk_secs.Given as goal

abbrev pub invariant-loop-footpath : goal.invariant-loop-footpath
invariant-loop-footpath l = record {
  fits : l.total ≤ 2 ^ 64 - 1;
  sum : min (l.total + walk_secs (drop l.footpath-index l.walk)) (2 ^ 64 - 1) ≡ min (walk_secs l.walk) (2 ^ 64 - 1);
}
