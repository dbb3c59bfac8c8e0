use Rattle.std.proofs.Common.{◌≢◌, ℕ, ◌<◌}
use Rattle.image_layout.specs.Shown.{name_of}
use Rattle.image_verifier.proofs.find.stop_named.Given as goal

abbrev pub invariant-loop-stop : goal.invariant-loop-stop
invariant-loop-stop l = (k : ℕ) → k < l.stop → name_of l.words k ≢ l.bytes
