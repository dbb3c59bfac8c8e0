use Rattle.scan_state.specs.KeptParts.{takes_changes}
use Rattle.std.proofs.Common.{◌*◌, sym, ap, ◌∙◌, subst}
use Rattle.lanes.specs.Lanes.{trip_rules}
use Rattle.lanes.specs.StopLanes.{points_at}
use Rattle.lanes.specs.declared.trip_lanes.TripLanes.{TripLanes}
use Rattle.scan_state.specs.SetQuery.{question}
use Rattle.by_trips.specs.InLanes.{LaneTakes}
use Rattle.by_trips.proofs.LanesLeft.{change_lowered, change_none}
use Rattle.by_trips.proofs.in_lanes.InLanes.change.Goals as goal

pub returns-in_ok-append-in-Lowered : goal.returns-in_ok-append-in-Lowered
returns-in_ok-append-in-Lowered c =
    change_lowered (question c.args.asked.now.query) c.args.hop.now c.args.self.now c.requires c.change.new.self c.append.new.items c.front_from-entry.result
    c.in_ok-first.first c.front.result.now c.front_from-entry.ensures c.front.ensures
    (c.in_ok-first.ensures.0 ∙ ap (λ n. 8 * n) (c.len.ensures ∙ c.args.self.now.exits.ok.0))
    c.in_ok-append-in-Lowered.ensures.added c.in-Lowered.ensures.0

pub returns-in-NoNews : goal.returns-in-NoNews
returns-in-NoNews c =
    let old = c.args.self.now in
    let hop = c.args.hop.now in
    subst (λ (trips : TripLanes). LaneTakes hop.bound.now (takes_changes trip_rules hop (points_at old.stops hop.connection.to)) old
    (record { trips = trips; stops = old.stops; exits = old.exits; bound = old.bound })) (sym c.in-NoNews.ensures.1)
    (change_none (question c.args.asked.now.query) hop old c.requires old.trips old.exits c.front_from-entry.result c.in_ok-first.first c.front.result.now
    c.front_from-entry.ensures c.front.ensures c.in-NoNews.ensures.0)
