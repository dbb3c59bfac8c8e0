use Rattle.std.proofs.Common.{List, subst, sym}
use Rattle.std.specs.List.Sorted.{IsNonDecreasingBy}
use Rattle.timetable.specs.declared.network.Connection.{Connection}
use Rattle.sources.specs.FootStarts.{of_lists}
use Rattle.sources.proofs.StartLemmas.{departures_in_order}
use Rattle.sources.proofs.decoded.DecodedConnSource.first_at.Goals as goal

pub first_departure-requires : goal.first_departure-requires
first_departure-requires g c =
    let s = c.args.self.now in
    subst (λ (cs : List Connection). IsNonDecreasingBy (λ (x : Connection). x.dep) cs) (sym c.deref.ensures.value)
    (departures_in_order (of_lists s.stops s.trips s.connections.items s.footpaths.items) s.legal)
