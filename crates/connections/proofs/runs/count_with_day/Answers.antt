use Rattle.std.proofs.Common.{◌≡◌, ◌+◌, ◌∙◌, length, map, arith}
use Rattle.timetable.specs.declared.limits.TheConstants.{MAX_TRIPS}
use Rattle.connections.specs.Runs.{runs_from, runs_on}
use Rattle.connections.proofs.RunSteps.{count_over}
use Rattle.connections.proofs.runs.count_with_day.Goals as goal

pub returns-then-before-clause-count : goal.returns-then-before-clause-count
returns-then-before-clause-count c feed day names n holds named are was =
    count_over MAX_TRIPS c.args.before n (n + length (runs_from feed day 0 c.args.trips.now)) was c.if-before.true (omega arith)

pub returns-clause-count : goal.returns-clause-count
returns-clause-count c feed day names n holds named are was =
    let marked : c.deref.result.now ≡ map (runs_on feed day) c.args.trips.now =
    c.deref.ensures.value ∙ c.in_ok-running.ensures.marked feed day names named are in
    c.count_with_trips.ensures.count feed day n marked holds was
