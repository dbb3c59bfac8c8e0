use Rattle.std.proofs.Common.{◌≡◌, false, take}
use Rattle.std.specs.List.{list_any}
use Rattle.feed_stations.specs.Choosing.{is_marked_at}
use Rattle.feed_stations.proofs.texts.has_mark.Given as goal

abbrev pub invariant-loop-stop : goal.invariant-loop-stop
invariant-loop-stop l = list_any (is_marked_at l.found) (take l.stop-index l.stops) ≡ false
