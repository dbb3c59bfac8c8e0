use Rattle.by_arrival.proofs.ByArrivalLemmas.{IsLeastOf}
use Rattle.by_arrival.proofs.by_arrival.least_of.Given as goal

abbrev pub invariant-loop-k : goal.invariant-loop-k
invariant-loop-k l = IsLeastOf l.values l.k l.least
