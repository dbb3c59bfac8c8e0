use Rattle.by_trips.proofs.BeyondLemmas.{AreEmpty}
use Rattle.by_trips.proofs.by_trips.empty_bags.Given as goal

abbrev pub invariant-loop-k : goal.invariant-loop-k
invariant-loop-k l = AreEmpty l._k l.bags.items
