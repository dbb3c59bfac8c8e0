use Rattle.std.proofs.Common.{◌≡◌, map, take}
use Rattle.timetable.specs.NamesValue.{TripNameValue}
use Rattle.image_facts.proofs.facts.unsorted_days.Given as goal

abbrev pub invariant-loop-trip : goal.invariant-loop-trip
invariant-loop-trip l = l.days.items ≡ take l.trip (map (λ (t : TripNameValue). t.day) l.image.names.trips)
