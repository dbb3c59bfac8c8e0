use Rattle.std.proofs.Common.{◌≡◌, map}
use Rattle.std.specs.List.{range_with_len}
use Rattle.image_layout.specs.Shown.{trip_name_of}
use Rattle.image_verifier.proofs.unpacked.unpack_trip_names.Given as goal

abbrev pub invariant-loop-trip : goal.invariant-loop-trip
invariant-loop-trip l = l.trips.items ≡ map (trip_name_of l.words) (range_with_len 0 l.trip)
