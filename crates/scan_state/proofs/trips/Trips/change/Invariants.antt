use Rattle.fronts.specs.Lists.{front_at}
use Rattle.scan_state.specs.InLists.{TripsTake}
use Rattle.scan_state.proofs.ChangeLemmas.{takes_first_changes}
use Rattle.scan_state.proofs.trips.Trips.change.Given as goal

abbrev pub invariant-loop-k : goal.invariant-loop-k
invariant-loop-k g l =
    let rules = g.C.Criterion.rules l.asked.criterion in
    TripsTake rules (takes_first_changes rules l.hop (front_at l.stops.lists l.entry) l.k) l.fn.self l.self
