use Rattle.std.proofs.Common.{◌≡◌, ◌<◌, ◌≤◌, ◌-◌, ◌%◌, rules}
use Rattle.std.proofs.lemmas.Bool.{eqb-true}
use Rattle.connections.proofs.MarkSteps.{row_covered}
use Rattle.connections.proofs.marks.covers.Goals as goal

pub returns : goal.returns
returns c is =
    let some : 0 < c.args.other.headway = search rules in
    let same : c.args.other.headway ≡ c.args.row.headway = search rules in
    let late : c.args.other.start ≤ c.args.row.start = search rules in
    row_covered c.args.other c.args.row some same late (eqb-true ((c.args.row.start - c.args.other.start) % c.args.row.headway) 0 is)
