use Rattle.std.proofs.Common.{◌≡◌, drop}
use Rattle.journeys.specs.Faults.{led_to}
use Rattle.journeys.proofs.walks.led_to.Given as goal

abbrev pub invariant-loop-footpath : goal.invariant-loop-footpath
invariant-loop-footpath l = led_to l.here (drop l.footpath-index l.walk) ≡ led_to l.fn.stop l.fn.walk
