use Rattle.std.proofs.Common.{◌≡◌, map}
use Rattle.std.specs.Prelude.{string_bytes}
use Rattle.std.specs.List.{range_with_len}
use Rattle.image_layout.specs.Shown.{name_of}
use Rattle.image_verifier.proofs.unpacked.unpack_stop_names.Given as goal

abbrev pub invariant-loop-stop : goal.invariant-loop-stop
invariant-loop-stop l = map string_bytes l.stops.items ≡ map (name_of l.words) (range_with_len 0 l.stop)
