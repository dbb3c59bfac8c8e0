use Rattle.std.proofs.Common.{◌≡◌, ◌++◌, map, take}
use Rattle.timetable.specs.NamesValue.{TripNameValue}
use Rattle.image_writer.proofs.names.write_days_and_repeats.Given as goal

abbrev pub invariant-loop-trip : goal.invariant-loop-trip
invariant-loop-trip l = l.words.items ≡ l.initial.words.items ++ map (λ (t : TripNameValue). t.day) (take l.trip-index l.trips)

abbrev pub invariant-loop-trip-2 : goal.invariant-loop-trip-2
invariant-loop-trip-2 l = l.words.items ≡ l.initial.words.items ++ map (λ (t : TripNameValue). t.repeat) (take l.trip-index l.trips)
