use Rattle.std.proofs.Common.{refl, arith}
use Rattle.by_arrival.specs.declared.by_arrival.ByArrival.{ByArrival}
use Rattle.by_arrival.proofs.ByArrivalLemmas.{least_excludes, still_bounds}
use Rattle.by_arrival.proofs.by_arrival.ByArrival.renew.Goals as goal

pub returns-then-hop : goal.returns-then-hop
returns-then-hop c =
    let old = c.args.self.now in
    let new : ByArrival = record {
      labels = old.labels;
      exits = old.exits;
      firsts = old.firsts;
      lists = old.lists;
      bound = c.least_of-self.result;
    } in
    let in_range = c.least_of-self.type_inv in
    record { limit = omega (arith, in_range); excludes = least_excludes c.args.hop.now.bound.now new c.least_of-self.ensures.one; same = refl }

pub returns-else-hop : goal.returns-else-hop
returns-else-hop c =
    record { limit = c.requires.limit; excludes = still_bounds c.args.hop.now.bound.now c.args.self.now c.requires; same = refl }
