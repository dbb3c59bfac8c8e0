use Rattle.std.proofs.Common.{refl, sym, ◌∙◌, ap, subst, arith}
use Rattle.criteria.specs.Laws.{Admits}
use Rattle.criteria.specs.declared.arrival_trips.TimeTrips.{TimeTrips}
use Rattle.lanes.specs.Lanes.{trip_rules}
use Rattle.lanes.specs.StopLanes.{HasStepBeyond, points_at}
use Rattle.bags.specs.Dominance.{IsCovered}
use Rattle.by_trips.proofs.ByTripsTaken.{value_in_time}
use Rattle.by_trips.specs.ByTrips.{IsInsertedAt}
use Rattle.scan_state.specs.Bound.{any_no_worse}
use Rattle.by_trips.proofs.LanesBoarded.{ride_admitted}
use Rattle.by_trips.proofs.ByTripsBoarded.{label_boarded, label_covered, label_excluded, label_falls}
use Rattle.by_trips.proofs.by_trips.ByTrips.board_label.Goals as goal

pub any_no_worse-requires-clause-values : goal.any_no_worse-requires-clause-values
any_no_worse-requires-clause-values c = c.requires.can.has.values

pub any_no_worse-requires-clause-value : goal.any_no_worse-requires-clause-value
any_no_worse-requires-clause-value c =
    subst (Admits trip_rules) (sym c.ride-value.ensures) (ride_admitted c.args.label.now.value c.requires.admitted)

pub returns-then-any_no_worse : goal.returns-then-any_no_worse
returns-then-any_no_worse c =
    label_excluded c.args.hop.now c.args.walk c.args.boarding c.args.label.now c.args.self.now c.requires.can
    (ap (any_no_worse trip_rules c.args.hop.now.bound.now) (sym c.ride-value.ensures) ∙ sym c.any_no_worse.ensures ∙ c.if-any_no_worse.true)

pub covers-requires-clause-lists : goal.covers-requires-clause-lists
covers-requires-clause-lists c = c.requires.can.has.are.at_stops

pub covers-requires-clause-stop : goal.covers-requires-clause-stop
covers-requires-clause-stop c = c.requires.can.stop

pub covers-requires-clause-time : goal.covers-requires-clause-time
covers-requires-clause-time c =
    value_in_time c.ride-value.result
    (subst (Admits trip_rules) (sym c.ride-value.ensures) (ride_admitted c.args.label.now.value c.requires.admitted))

pub returns-then-covers : goal.returns-then-covers
returns-then-covers c =
    label_covered c.args.hop.now c.args.walk c.args.boarding c.args.label.now c.args.self.now c.requires.can
    (subst (λ (v : TimeTrips). IsCovered trip_rules (points_at c.args.self.now.lanes.stops c.args.walk.from) c.args.boarding.departure v)
    c.ride-value.ensures (c.covers.ensures c.if-covers.true))

pub insert_at-requires-clause-there : goal.insert_at-requires-clause-there
insert_at-requires-clause-there c = let stop = c.requires.can.stop in let long = c.requires.can.has.points in omega (arith, stop, long)

pub insert_at-requires-clause-admitted : goal.insert_at-requires-clause-admitted
insert_at-requires-clause-admitted c =
    subst (Admits trip_rules) (sym c.ride-value.ensures) (ride_admitted c.args.label.now.value c.requires.admitted)

pub returns-in_ok-push_step_beyond : goal.returns-in_ok-push_step_beyond
returns-in_ok-push_step_beyond c =
    let old = c.args.self.now in
    let walk = c.args.walk in
    let boarding = c.args.boarding in
    let label = c.args.label.now in
    label_boarded c.args.hop.now walk boarding label old c.requires.can c.in_ok-tag.tag
    (record { labels = old.beyond.labels; points = c.insert_at.new.bags }) c.in_ok-stands.stands c.requires.admitted refl
    (subst (λ (v : TimeTrips). IsInsertedAt trip_rules walk.from (record { departure = boarding.departure; value = v; tag = c.in_ok-tag.tag })
    c.in_ok-stands.stands old.beyond.points.items c.insert_at.new.bags.items) c.ride-value.ensures c.in_ok-stands.ensures)
    c.push_step_beyond.new.self c.in_ok-tag.ensures
    (subst (λ n. HasStepBeyond boarding n old.lanes.stops c.push_step_beyond.new.self) c.in_ok-number.ensures c.in_ok-push_step_beyond.ensures)

pub returns-else-stands : goal.returns-else-stands
returns-else-stands c =
    let old = c.args.self.now in
    let walk = c.args.walk in
    let boarding = c.args.boarding in
    label_falls c.args.hop.now walk boarding c.args.label.now old c.requires.can c.in_ok-tag.tag
    (record { labels = old.beyond.labels; points = c.insert_at.new.bags }) c.in_ok-stands.stands c.requires.admitted refl
    (subst (λ (v : TimeTrips). IsInsertedAt trip_rules walk.from (record { departure = boarding.departure; value = v; tag = c.in_ok-tag.tag })
    c.in_ok-stands.stands old.beyond.points.items c.insert_at.new.bags.items) c.ride-value.ensures c.in_ok-stands.ensures) c.if-stands.false
