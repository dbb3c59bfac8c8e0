use Rattle.std.proofs.Common.{◌≡◌, map}
use Rattle.std.specs.List.{range_with_len}
use Rattle.image_layout.specs.Shown.{connection_of}
use Rattle.image_verifier.proofs.unpacked.unpack_connections.Given as goal

abbrev pub invariant-loop-i : goal.invariant-loop-i
invariant-loop-i l = l.connections.items ≡ map (connection_of l.words) (range_with_len 0 l.i)
