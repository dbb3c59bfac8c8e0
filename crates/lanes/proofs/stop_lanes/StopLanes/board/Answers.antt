use Rattle.std.proofs.Common.{List, slice_get, refl, sym, ap, ◌∙◌, subst}
use Rattle.std.proofs.lemmas.List.{get_or_default}
use Rattle.criteria.specs.declared.arrival_trips.TimeTrips.{TimeTrips}
use Rattle.fronts.specs.declared.labels.Label.{Label}
use Rattle.lanes.specs.LanesWithTags.{labels_in}
use Rattle.lanes.specs.TripLanes.{front_labels}
use Rattle.lanes.specs.StopLanes.{IsListBoarded, steps_in}
use Rattle.lanes.proofs.StopLemmas.{boarded_at}
use Rattle.lanes.proofs.stop_lanes.StopLanes.board.Goals as goal

pub returns : goal.returns
returns c =
    let self = c.args.self.now in
    let bound = front_labels c.args.bound.now in
    let new = c.board_list.new in
    let head = c.index-head.ensures ∙ get_or_default self.heads.items c.args.stop c.index-head.result.now 0 c.requires.stop in
    boarded_at self _ c.args.stop c.args.boarding _ bound c.in_ok-new.new c.requires.lists c.requires.stop refl
    (subst (λ n. IsListBoarded self.entries.items n (steps_in self.steps.items) c.args.boarding (labels_in (slice_get c.args.trips.now.lanes.items
    c.args.trip)) bound new.entries.items (steps_in new.steps.items) c.in_ok-new.new) head
    (subst (λ (labels : List (Label TimeTrips)). IsListBoarded self.entries.items c.index-head.result.now (steps_in self.steps.items) c.args.boarding labels
    bound new.entries.items (steps_in new.steps.items) c.in_ok-new.new) (sym (ap labels_in c.of-lanes.ensures)) c.in_ok-new.ensures))
