use Rattle.std.proofs.Common.{◌∙◌, ap, Some, arith, length, refl}
use Rattle.std.proofs.lemmas.Option.{slice_get_read}
use Rattle.lanes.proofs.trip_lanes.TripLanes.has_labels.Goals as goal

pub index-requires : goal.index-requires
index-requires c = let trip = c.requires in let long = c.args.self.now.marked.long in omega (arith, trip, long)

pub returns : goal.returns
returns c = λ none.
    let self = c.args.self.now in
    let trip = c.requires in
    let long = self.marked.long in
    self.marked.none c.args.trip
    (slice_get_read self.labelled.items (length self.labelled.items) c.args.trip c.index.result.now refl (omega (arith, trip, long)) c.index.ensures
    ∙ ap Some none)
