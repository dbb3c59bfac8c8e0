use Rattle.connections.proofs.FinalLemmas.{AreTimesTo}
use Rattle.connections.proofs.listing.times_of_trips.Given as goal

abbrev pub invariant-loop-trip : goal.invariant-loop-trip
invariant-loop-trip l = AreTimesTo l.feed.stop_times.items l.feed.trips.items l.times.items l.trip-index
