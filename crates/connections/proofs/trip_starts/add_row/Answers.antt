use Rattle.std.proofs.Common.{rules, ◌≤◌, length}
use Rattle.connections.proofs.GroupSteps.{adds_if_ok, adds_nowhere}
use Rattle.connections.proofs.trip_starts.add_row.Goals as goal

pub returns-then-position-len : goal.returns-then-position-len
returns-then-position-len c =
    adds_if_ok c.add.result c.args.groups.now.items c.args.row c.index_mut.result.now c.add.new.self (search rules) c.index_mut.ensures.value c.add.ensures

pub returns : goal.returns
returns c =
    let over : length c.args.groups.now.items ≤ c.args.row.trip = search rules in
    adds_nowhere c.args.groups.now.items c.args.row over
