use Rattle.std.proofs.Common.{◌≡◌, map, string_bytes, take}
use Rattle.image_files.specs.Naming.{with_codes}
use Rattle.image_files.proofs.names.joined.Given as goal

abbrev pub invariant-loop-index : goal.invariant-loop-index
invariant-loop-index l = string_bytes l.text ≡ with_codes (take l.index (map (λ part. part.now) l.parts))
