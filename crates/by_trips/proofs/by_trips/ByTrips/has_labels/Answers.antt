use Rattle.std.proofs.Common.{◌≡◌, ◌++◌, [], ap, ◌∙◌, subst}
use Rattle.scan_state.specs.Adding.{label_points}
use Rattle.by_trips.specs.ByTrips.{points_beyond}
use Rattle.by_trips.proofs.by_trips.ByTrips.has_labels.Goals as goal

pub returns : goal.returns
returns c = λ none.
    let self = c.args.self.now in
    ap (λ labels. label_points labels ++ points_beyond self.beyond.labels.items c.args.trip) (c.has_labels.ensures c.if-has_labels.false)
    ∙ subst (λ bags. points_beyond bags c.args.trip ≡ []) c.deref.ensures.value (c.has_any.ensures.none none)
