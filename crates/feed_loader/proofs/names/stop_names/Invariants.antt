use Rattle.std.proofs.Common.{◌≡◌, map, take}
use Rattle.std.specs.String.{string_bytes}
use Rattle.feed_loader.proofs.names.stop_names.Given as goal

abbrev pub invariant-loop-stop : goal.invariant-loop-stop
invariant-loop-stop l = map string_bytes l.names.items ≡ map (λ stop. string_bytes stop.id) (take l.stop-index l.stops)
