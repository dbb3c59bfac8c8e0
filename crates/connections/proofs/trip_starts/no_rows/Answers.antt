use Rattle.std.proofs.Common.{◌≡◌, ℕ, [], arith, subst}
use Rattle.connections.specs.Grouping.{AreGrouped}
use Rattle.connections.specs.declared.trip_starts.TripStarts.TheVariants as starts
use Rattle.connections.proofs.GroupSteps.{groups_more, no_groups}
use Rattle.connections.proofs.trip_starts.no_rows.Goals as goal

pub loop-init : goal.loop-init
loop-init c = rw c.in_ok-groups.ensures.items no_groups

pub loop-preserved : goal.loop-preserved
loop-preserved c = groups_more c.loop.counter c.loop.groups.items c.push.new.self.items (starts.Rows c.new.result) c.loop.invariant c.new.ensures.items
    c.in_ok-push.ensures.items

pub returns : goal.returns
returns c =
    let all : c.loop.counter ≡ c.args.trips = (let over = c.loop-test.false in let under = c.loop.auto.counter-end in omega (arith, over, under)) in
    subst (λ (n : ℕ). AreGrouped [] n c.loop.groups.items) all c.loop.invariant
