use Rattle.std.proofs.Common.{◌≡◌, ◌∙◌, ap, sym, subst, length, true, refl, ℕ, IfOk, rules}
use Rattle.connections.specs.Repeats.{rows_for, starts_of}
use Rattle.connections.specs.Runs.{runs_at, runs_of_trip}
use Rattle.connections.proofs.RepeatSteps.{repeats_count}
use Rattle.connections.proofs.RunSteps.{runs_here}
use Rattle.connections.proofs.runs.count_trip.Goals as goal

pub returns-then-trip-clause-count : goal.returns-then-trip-clause-count
returns-then-trip-clause-count c feed day t runs are =
    let rows = rows_for feed.frequencies.items t in
    let trip = c.args.trip.now in
    let running : c.args.running ≡ true = search rules in
    let some : length (runs_of_trip rows day t trip) ≡ length (starts_of rows) = rw c.if-trip.true (repeats_count day t 0 (starts_of rows)) in
    let same : length (starts_of rows) ≡ length (runs_at feed day t trip) =
    sym some ∙ ap length (runs_here feed day t trip rows c.args.running running runs refl) in
    subst (λ (n : ℕ). IfOk c.count.result (λ count. count ≡ n)) same (c.count.ensures.count rows are)
