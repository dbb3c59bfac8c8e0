use Rattle.std.proofs.Common.{◌≡◌, min, take}
use Rattle.feed_loader.specs.NameBytes.{stop_bytes}
use Rattle.feed_loader.proofs.names.count_stop_bytes.Given as goal

abbrev pub invariant-loop-stop : goal.invariant-loop-stop
invariant-loop-stop l = l.count ≡ min (stop_bytes (take l.stop-index l.stops)) 18446744073709551615
