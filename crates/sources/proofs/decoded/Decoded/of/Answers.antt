use Rattle.std.proofs.Common.{◌≡◌, sym, subst}
use Rattle.timetable.specs.TimetableValue.{TimetableValue}
use Rattle.timetable.specs.Legal.{IsLegal}
use Rattle.timetable.specs.Limits.{IsWithinLimits}
use Rattle.sources.specs.FootStarts.{of_lists, AreStarts}
use Rattle.sources.proofs.decoded.Decoded.of.Goals as goal

pub invariant_of-result : goal.invariant_of-result
invariant_of-result g c =
    let t = c.args.image.now.timetable in
    let is : t ≡ of_lists c.stops.result c.trips.result c.in_ok-connections.connections.items c.in_ok-footpaths.footpaths.items =
    λ i. of_lists (sym c.stops.ensures.stops i) (sym c.trips.ensures i) (sym c.in_ok-connections.ensures i) (sym c.in_ok-footpaths.ensures.footpaths i) in
    record {
      legal = subst (λ (x : TimetableValue). IsLegal x) is c.stops.ensures.kept.legal;
      limits = subst (λ (x : TimetableValue). IsWithinLimits x) is c.stops.ensures.kept.limits;
      indexed = subst (λ (x : TimetableValue). AreStarts x c.in_ok-footpaths.starts.items) is c.in_ok-footpaths.ensures.starts;
    }
