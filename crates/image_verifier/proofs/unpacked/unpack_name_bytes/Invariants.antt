use Rattle.std.proofs.Common.{◌≡◌, take}
use Rattle.image_layout.specs.Shown.{name_of}
use Rattle.image_verifier.proofs.unpacked.unpack_name_bytes.Given as goal

abbrev pub invariant-loop-i : goal.invariant-loop-i
invariant-loop-i l = l.bytes.items ≡ take l.i (name_of l.words l.name)
