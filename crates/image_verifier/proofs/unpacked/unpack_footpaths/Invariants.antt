use Rattle.std.proofs.Common.{◌≡◌}
use Rattle.std.specs.List.{flat_map, range_with_len}
use Rattle.image_layout.specs.Shown.{footpaths_into}
use Rattle.image_verifier.proofs.unpacked.unpack_footpaths.Given as goal

abbrev pub invariant-loop-stop : goal.invariant-loop-stop
invariant-loop-stop l = l.footpaths.items ≡ flat_map (footpaths_into l.words) (range_with_len 0 l.stop)
