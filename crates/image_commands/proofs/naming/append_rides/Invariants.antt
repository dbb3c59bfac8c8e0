use Rattle.std.proofs.Common.{◌≡◌, ◌++◌, take, string_bytes}
use Rattle.std.specs.List.{flat_map}
use Rattle.image_files.specs.Naming.{printed}
use Rattle.image_commands.specs.Listing.{named_ride}
use Rattle.image_commands.proofs.naming.append_rides.Given as goal

abbrev pub invariant-loop-ride : goal.invariant-loop-ride
invariant-loop-ride l = string_bytes l.lines ≡ string_bytes l.fn.lines ++ flat_map (named_ride (printed l.names l.image)) (take l.ride-index l.rides)
