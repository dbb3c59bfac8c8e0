use Rattle.std.proofs.Common.{◌≡◌}
use Rattle.lanes.specs.StopLanes.{AreStopLanes, stops_of}
use Rattle.lanes.proofs.tests.check_boardings.Given as goal

abbrev pub invariant-loop-step : goal.invariant-loop-step
invariant-loop-step g l = AreStopLanes l.stops × (stops_of l.stops ≡ 20)
