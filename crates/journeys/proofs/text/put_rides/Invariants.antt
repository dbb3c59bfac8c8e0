use Rattle.std.proofs.Common.{◌≡◌, ◌++◌, take}
use Rattle.std.specs.List.{flat_map}
use Rattle.journeys.specs.Texts.{ride_text}
use Rattle.journeys.proofs.text.put_rides.Given as goal

abbrev pub invariant-loop-ride : goal.invariant-loop-ride
invariant-loop-ride l = l.out.items ≡ l.fn.out.items ++ flat_map ride_text (take l.ride-index l.rides)
