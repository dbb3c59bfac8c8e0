use Rattle.std.proofs.Common.{◌≡◌, ◌-◌, arith}
use Rattle.gtfs_rows.proofs.PositionLemmas.{no_lines}
use Rattle.gtfs_rows.proofs.position.lines_in.Goals as goal

pub returns-clause-lines : goal.returns-clause-lines
returns-clause-lines c =
    let none : c.args.count - c.loop-passed.passed ≡ 0 = omega arith in
    let all = rw (none, no_lines) at c.loop-passed.invariant.lines in
    omega (arith, all)
