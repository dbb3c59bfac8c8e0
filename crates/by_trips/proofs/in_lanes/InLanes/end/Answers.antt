use Rattle.scan_state.specs.KeptParts.{takes_endings}
use Rattle.std.proofs.Common.{◌*◌, sym, ap, ◌∙◌, subst}
use Rattle.lanes.specs.Lanes.{trip_rules}
use Rattle.lanes.specs.declared.trip_lanes.TripLanes.{TripLanes}
use Rattle.scan_state.specs.SetQuery.{question}
use Rattle.by_trips.specs.InLanes.{LaneTakes}
use Rattle.by_trips.proofs.LanesLeft.{end_lowered, end_none}
use Rattle.by_trips.proofs.in_lanes.InLanes.end.Goals as goal

pub returns-in_ok-append-in-Lowered : goal.returns-in_ok-append-in-Lowered
returns-in_ok-append-in-Lowered c =
    let end = c.in-Some.ensures in
    end_lowered (question c.args.asked.now.query) c.args.hop.now c.args.self.now c.requires c.in-Some.end.walk c.in-Some.end.time c.in_ok-first.first
    end.0 end.1 end.3 c.end.new.self c.append.new.items (c.in_ok-first.ensures.0 ∙ ap (λ n. 8 * n) (c.len.ensures ∙ c.args.self.now.exits.ok.0))
    c.in_ok-append-in-Lowered.ensures.added
    c.in-Lowered.ensures.0

pub returns-in-NoNews : goal.returns-in-NoNews
returns-in-NoNews c =
    let old = c.args.self.now in
    let hop = c.args.hop.now in
    let q = question c.args.asked.now.query in
    let end = c.in-Some.ensures in
    subst (λ (trips : TripLanes). LaneTakes hop.bound.now (takes_endings trip_rules q hop) old
    (record { trips = trips; stops = old.stops; exits = old.exits; bound = old.bound })) (sym c.in-NoNews.ensures.1)
    (end_none q hop old c.requires c.in-Some.end.walk c.in-Some.end.time c.in_ok-first.first end.0 end.1 end.3 c.in-NoNews.ensures.0)
