use Rattle.std.proofs.Common.{◌+◌, ◌*◌, sym, ap, ◌∙◌, subst, arith}
use Rattle.lanes.specs.declared.trip_lanes.TripLanes.{TripLanes}
use Rattle.scan_state.specs.SetQuery.{question}
use Rattle.by_trips.specs.InLanes.{changes_but_eight}
use Rattle.by_trips.proofs.LanesLeft.{eight_lowered, eight_none}
use Rattle.by_trips.proofs.in_lanes.InLanes.change_but_eight.Goals as goal

pub returns-in_ok-append-in-Lowered : goal.returns-in_ok-append-in-Lowered
returns-in_ok-append-in-Lowered c =
    eight_lowered (question c.args.asked.now.query) c.args.hop.now c.args.self.now c.requires.can c.change.new.self c.append.new.items c.args.entry
    c.in_ok-first.first c.front.result.now c.requires.entry c.front.ensures c.but_eight-front.result c.but_eight-front.ensures.only
    c.but_eight-front.ensures.all (c.in_ok-first.ensures.0 ∙ ap (λ n. 8 * n) (c.len.ensures ∙ c.args.self.now.exits.ok.0))
    c.in_ok-append-in-Lowered.ensures.added c.in-Lowered.ensures.0

pub returns-in-NoNews : goal.returns-in-NoNews
returns-in-NoNews c =
    let old = c.args.self.now in
    subst (λ (trips : TripLanes). changes_but_eight c.args.hop.now c.args.entry old
    (record { trips = trips; stops = old.stops; exits = old.exits; bound = old.bound })) (sym c.in-NoNews.ensures.1)
    (eight_none (question c.args.asked.now.query) c.args.hop.now old c.requires.can old.trips old.exits c.args.entry c.in_ok-first.first c.front.result.now
    c.requires.entry c.front.ensures c.but_eight-front.result c.but_eight-front.ensures.only c.but_eight-front.ensures.all c.in-NoNews.ensures.0)

pub returns-in-Full : goal.returns-in-Full
returns-in-Full c =
    let full = c.in-Full.ensures.0 in
    let few = (c.but_eight-front.ensures.only (λ k. c.in_ok-first.first + k) full.0 full.1).1 in
    let eight = full.2 in
    absurd (omega (arith, few, eight))
