use Rattle.std.proofs.Common.{◌%◌, Some, sym, ap, ◌∙◌}
use Rattle.lanes.specs.StopLanes.{tags_at}
use Rattle.by_trips.proofs.LaneExits.{exit_if, exit_named}
use Rattle.by_trips.proofs.in_lanes.InLanes.exit.Goals as goal

pub returns-in-None : goal.returns-in-None
returns-in-None c =
    let tags = tags_at c.args.self.now.stops in
    ap (exit_if tags (c.args.tag % 8)) (sym c.in-None.is ∙ c.lane_exit.ensures) ∙ exit_named tags c.args.self.now.exits.items c.args.tag

pub returns-in-Some : goal.returns-in-Some
returns-in-Some c =
    let tags = tags_at c.args.self.now.stops in
    ap Some c.exit_in.ensures ∙ ap (exit_if tags (c.args.tag % 8)) (sym c.in-Some.is ∙ c.lane_exit.ensures)
    ∙ exit_named tags c.args.self.now.exits.items c.args.tag
