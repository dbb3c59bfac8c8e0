use Rattle.std.proofs.Common.{sym, ap, ◌∙◌, arith, slice_index, length, refl}
use Rattle.std.proofs.lemmas.Option.{slice_get_read}
use Rattle.std.specs.Global.{Vec}
use Rattle.criteria.specs.declared.arrival_trips.TimeTrips.{TimeTrips}
use Rattle.fronts.specs.declared.labels.Label.{Label}
use Rattle.lanes.specs.Lanes.{lane_labels}
use Rattle.lanes.specs.LanesWithTags.{labels_in}
use Rattle.lanes.proofs.ReadLemmas.{read_next, read_skip, read_all}
use Rattle.lanes.proofs.trip_lanes.TripLanes.read.Goals as goal
use Rattle.lanes.proofs.trip_lanes.TripLanes.read.Goals.{then-time-before+in_ok-push, else-time-before}

pub loop-k-preserved : goal.loop-k-preserved
loop-k-preserved c =
    let lanes = c.index.result.now in
    let tag = slice_index lanes.tags in
    let all = lane_labels tag lanes.times in
    let there = slice_get_read c.args.self.now.lanes.items (length c.args.self.now.lanes.items) c.args.trip lanes refl c.requires c.index.ensures in
    let long = (c.args.self.now.tagged c.args.trip lanes there).lanes_are.long in
    elim c.if-time-before.branch [
      | then-time-before+in_ok-push w ↦
          read_next tag c.loop-k.k c.loop-k.before lanes.times c.loop-k.labels.items all c.loop-k.invariant c.if-time-before.labels.items
          c.if-time-before.before
          (omega (arith, long)) w.if-time-before.true (ap (λ (v : Vec (Label TimeTrips)). v.items) w.labels-is ∙ w.in_ok-push.ensures.items) w.before-is
      | else-time-before w ↦
          read_skip tag c.loop-k.k c.loop-k.before lanes.times c.loop-k.labels.items all c.loop-k.invariant c.if-time-before.labels.items
          c.if-time-before.before
          (omega (arith, long)) w.if-time-before.false (ap (λ (v : Vec (Label TimeTrips)). v.items) w.labels-is) w.before-is
    ]

pub returns : goal.returns
returns c =
    let lanes = c.index.result.now in
    let tag = slice_index lanes.tags in
    let there = slice_get_read c.args.self.now.lanes.items (length c.args.self.now.lanes.items) c.args.trip lanes refl c.requires c.index.ensures in
    let long = (c.args.self.now.tagged c.args.trip lanes there).lanes_are.long in
    read_all tag c.loop-k.k c.loop-k.before lanes.times c.loop-k.labels.items (lane_labels tag lanes.times) c.loop-k.invariant
    (omega (arith, long, c.loop-k-test.false))
    ∙ ap labels_in (sym there)
