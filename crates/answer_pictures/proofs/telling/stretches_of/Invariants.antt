use Rattle.std.proofs.Common.{◌≡◌, ◌++◌, take}
use Rattle.std.specs.List.{flat_map}
use Rattle.answer_pictures.specs.JourneyLines.{ride_parts, start_parts}
use Rattle.answer_pictures.proofs.telling.stretches_of.Given as goal

abbrev pub invariant-loop-ride : goal.invariant-loop-ride
invariant-loop-ride l =
    l.stretches.items
    ≡ start_parts l.image.names l.departure l.journey.start ++ flat_map (ride_parts l.image.timetable l.image.names) (take l.ride-index l.journey.rides)
