use Rattle.std.proofs.Common.{◌≡◌, ◌++◌, [], ap, ◌∙◌, subst}
use Rattle.by_trips.specs.ByTrips.{points_beyond}
use Rattle.by_trips.proofs.by_trips.ByTrips.has_points.Goals as goal

pub returns : goal.returns
returns c = λ none.
    let self = c.args.self.now in
    ap (λ points. points ++ points_beyond self.beyond.points.items c.args.stop) (c.has_points.ensures c.if-has_points.false)
    ∙ subst (λ bags. points_beyond bags c.args.stop ≡ []) c.deref.ensures.value (c.has_any.ensures.none none)
