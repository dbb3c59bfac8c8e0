use Rattle.std.proofs.Common.{List, sym, ap, subst, slice_index, arith, length, refl}
use Rattle.std.proofs.lemmas.Option.{slice_get_read}
use Rattle.std.proofs.lemmas.Bool.{leb-true}
use Rattle.fronts.specs.declared.labels.Label.{Label}
use Rattle.criteria.specs.declared.arrival_trips.TimeTrips.{TimeTrips}
use Rattle.lanes.specs.Lanes.{IsBeaten}
use Rattle.lanes.specs.LanesWithTags.{labels_in}
use Rattle.lanes.proofs.LaneLemmas.{beaten_at}
use Rattle.lanes.proofs.trip_lanes.TripLanes.beats.Goals as goal

pub returns : goal.returns
returns c = λ beaten.
    let self = c.args.self.now in
    let value = c.args.value.now in
    let lanes = c.index.result.now in
    let there = slice_get_read self.lanes.items (length self.lanes.items) c.args.trip lanes refl c.requires.trip c.index.ensures in
    let long = (self.tagged c.args.trip lanes there).lanes_are.long in
    let many = c.if-value-lt7.false in
    let time = c.requires.time in
    subst (λ (labels : List (Label TimeTrips)). IsBeaten labels value) (ap labels_in (sym there))
    (beaten_at (slice_index lanes.tags) lanes.times value 7 (omega (arith, long)) (omega (arith, many))
    (leb-true (slice_index lanes.times 7) value.time beaten) (omega (arith, time)))
