use Rattle.std.proofs.Common.{◌≡◌, ◌++◌, take}
use Rattle.std.specs.List.{flat_map}
use Rattle.session_texts.specs.Telling.{legs_of}
use Rattle.answer_replies.specs.Legs.{ride_legs}
use Rattle.answer_replies.proofs.legs.add_rides.Given as goal

abbrev pub invariant-loop-ride : goal.invariant-loop-ride
invariant-loop-ride l = legs_of l.legs ≡ legs_of l.fn.legs ++ flat_map (ride_legs l.image) (take l.ride-index l.rides)
