use Rattle.std.proofs.Common.{◌≡◌, map, take}
use Rattle.feed_loader.specs.Loaded.{run_name}
use Rattle.feed_loader.proofs.names.run_names.Given as goal

abbrev pub invariant-loop-run : goal.invariant-loop-run
invariant-loop-run l = l.names.items ≡ map (run_name l.trips) (take l.run-index l.runs)
