use Rattle.std.proofs.Common.{◌≢◌, ◌<◌, ℕ, get_or, map}
use Rattle.clap.specs.Words.{Text}
use Rattle.command_line.proofs.requests.place_of.Given as goal

abbrev pub invariant-loop-place : goal.invariant-loop-place
invariant-loop-place l =
    (k : ℕ) → k < l.place → (d : Text) → get_or (map (λ other. other.now) l.others) k d ≢ l.text
