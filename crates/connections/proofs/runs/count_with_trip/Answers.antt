use Rattle.std.proofs.Common.{◌<◌, ◌+◌, length, arith, lit<}
use Rattle.timetable.specs.declared.limits.TheConstants.{MAX_TRIPS}
use Rattle.connections.specs.Runs.{runs_at}
use Rattle.connections.proofs.RunSteps.{count_more, count_over}
use Rattle.connections.proofs.runs.count_with_trip.Goals as goal

pub returns-then-before-clause-count : goal.returns-then-before-clause-count
returns-then-before-clause-count c feed day t n running rows was =
    count_over MAX_TRIPS c.args.before n (n + length (runs_at feed day t c.args.trip.now)) was c.if-before.true (omega arith)

pub returns-clause-count : goal.returns-clause-count
returns-clause-count c feed day t n running rows was =
    let room : MAX_TRIPS < 18446744073709551615 = lit< tt in
    count_more MAX_TRIPS c.args.before n c.in_ok-more.more (length (runs_at feed day t c.args.trip.now)) c.saturating_add.result 18446744073709551615 was
    (c.in_ok-more.ensures.count feed day t running rows) c.if-before.false room c.saturating_add.ensures
