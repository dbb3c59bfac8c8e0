use Rattle.std.proofs.Common.{◌*◌, refl, sym, ap, ◌∙◌, subst, arith}
use Rattle.lanes.specs.TripLanes.{trips_of}
use Rattle.lanes.specs.StopLanes.{stops_of}
use Rattle.scan_state.specs.SetQuery.{question}
use Rattle.by_trips.specs.ByTrips.{AreBeyond, IsFilled}
use Rattle.scan_state.specs.ScanRecords.{IsExit}
use Rattle.scan_state.specs.declared.scan_records.Exit.TheVariants.{Changes}
use Rattle.by_trips.proofs.BeyondLemmas.{label_falls, label_stands}
use Rattle.by_trips.proofs.ByTripsLeft.{beaten_taken}
use Rattle.by_trips.proofs.ByTripsTaken.{value_in_time}
use Rattle.by_trips.proofs.by_trips.ByTrips.offer_label.Goals.{After-insert_at}
use Rattle.by_trips.proofs.by_trips.ByTrips.offer_label.Goals as goal

pub beats-requires-clause-trip : goal.beats-requires-clause-trip
beats-requires-clause-trip c = c.requires.can.trip

pub beats-requires-clause-time : goal.beats-requires-clause-time
beats-requires-clause-time c = value_in_time c.args.value c.requires.admitted

pub returns-then-beats : goal.returns-then-beats
returns-then-beats c =
    beaten_taken (question c.args.asked.now.query) c.args.hop.now c.args.self.now c.requires.can c.args.value
    (λ tags. IsExit tags (Changes c.args.hop.now.place c.args.step)) (c.beats.ensures c.if-beats.true)

pub fill-requires-clause-some : goal.fill-requires-clause-some
fill-requires-clause-some c = let trip = c.requires.can.trip in let trips = c.len-trips.ensures in omega (arith, trip, trips)

pub fill-requires-clause-are : goal.fill-requires-clause-are
fill-requires-clause-are c =
    let old = c.args.self.now in
    subst (λ n. AreBeyond n c.len-trips.result old.beyond) (sym c.len-stops.ensures)
    (subst (λ n. AreBeyond (stops_of old.lanes.stops) n old.beyond) (sym c.len-trips.ensures) c.requires.can.are.beyond)

-- there are bags
filled : (c : After-insert_at) → IsFilled (stops_of c.args.self.now.lanes.stops) (trips_of c.args.self.now.lanes.trips) c.args.self.now.beyond c.fill.new.self
filled c =
    let old = c.args.self.now in
    subst (λ n. IsFilled n (trips_of old.lanes.trips) old.beyond c.fill.new.self) c.len-stops.ensures
    (subst (λ n. IsFilled c.len-stops.result n old.beyond c.fill.new.self) c.len-trips.ensures c.in_ok-fill.ensures)

pub insert_at-requires-clause-there : goal.insert_at-requires-clause-there
insert_at-requires-clause-there c =
    let trip = c.requires.can.trip in
    let trips = c.len-trips.ensures in
    let long = c.in_ok-fill.ensures.trips_are in
    omega (arith, trip, trips, long)

pub returns-in_ok-append : goal.returns-in_ok-append
returns-in_ok-append c =
    let old = c.args.self.now in
    label_stands (question c.args.asked.now.query) c.args.hop.now old c.requires.can c.fill.new.self
    (filled (goal.at.returns-in_ok-append c).After-insert_at) c.args.value c.in_ok-tag.tag c.args.step c.requires.admitted
    (c.in_ok-tag.ensures.0 ∙ ap (λ n. 8 * n) (c.len.ensures ∙ old.lanes.exits.ok.0))
    (record { labels = c.insert_at.new.bags; points = c.fill.new.self.points }) c.in_ok-stands.stands refl c.in_ok-stands.ensures c.append.new.items
    c.in_ok-append.ensures.added

pub returns-else-stands : goal.returns-else-stands
returns-else-stands c =
    let old = c.args.self.now in
    label_falls (question c.args.asked.now.query) c.args.hop.now old c.requires.can c.fill.new.self
    (filled (goal.at.returns-else-stands c).After-insert_at) c.args.value c.in_ok-tag.tag c.args.step c.requires.admitted
    (c.in_ok-tag.ensures.0 ∙ ap (λ n. 8 * n) (c.len.ensures ∙ old.lanes.exits.ok.0))
    (record { labels = c.insert_at.new.bags; points = c.fill.new.self.points }) c.in_ok-stands.stands refl c.in_ok-stands.ensures c.if-stands.false
