use Rattle.std.proofs.Common.{◌≡◌, ℕ, ◌<◌, get_or}
use Rattle.image_layout.specs.Shown.{name_of}
use Rattle.image_verifier.proofs.find.is_name.Given as goal

abbrev pub invariant-loop-i : goal.invariant-loop-i
invariant-loop-i l = (k : ℕ) → k < l.i → get_or (name_of l.words l.name) k 0 ≡ get_or l.bytes k 0
