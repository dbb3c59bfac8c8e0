use Rattle.std.proofs.Common.{◌≡◌, min, take}
use Rattle.feed_loader.specs.NameBytes.{run_bytes}
use Rattle.feed_loader.proofs.names.count_run_bytes.Given as goal

abbrev pub invariant-loop-run : goal.invariant-loop-run
invariant-loop-run l = l.count ≡ min (run_bytes l.trips (take l.run-index l.runs)) 18446744073709551615
