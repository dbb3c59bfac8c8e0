use Rattle.std.proofs.Common.{rules}
use Rattle.clap.specs.Words.{found_of, rows_of}
use Rattle.command_requests.specs.declared.plans.PlanText.{PlanText}
use Rattle.command_line.specs.Requests.{HasPlan}
use Rattle.command_line.proofs.requests.plan_at.Goals as goal

pub returns-in_err-day_at : goal.returns-in_err-day_at
returns-in_err-day_at c =
    let none : (plan : PlanText) → ¬ (HasPlan (rows_of (found_of c.args.matches.now)) c.args.strict plan) =
    λ plan has. c.in_err-day_at.ensures plan.first has.1 in
    search rules

pub returns-in_err-zone_at : goal.returns-in_err-zone_at
returns-in_err-zone_at c =
    let none : (plan : PlanText) → ¬ (HasPlan (rows_of (found_of c.args.matches.now)) c.args.strict plan) =
    λ plan has. c.in_err-zone_at.ensures plan.zone has.3 in
    search rules
