use Rattle.std.proofs.Common.{◌+◌, ◌-◌, ◌<◌, ◌++◌, ◌∷◌, [], arith, ap, sym, ◌∙◌}
use Rattle.connections.specs.Repeats.{last_end}
use Rattle.connections.proofs.RepeatSteps.{start_below, starts_end, starts_next, starts_none}
use Rattle.connections.proofs.repeats.starts_in_turn.Goals as goal

pub loop-start-init : goal.loop-start-init
loop-start-init c = record { within = omega arith; found = c.new-starts.ensures.items ∙ sym (starts_none c.args.rows.now) }

pub loop-start-smaller : goal.loop-start-smaller
loop-start-smaller c =
    let below = start_below c.args.rows.now c.in-Some.start c.in-Some.ensures.next.is in
    let after = c.in-Some.ensures.next.after in
    let less : last_end c.args.rows.now - (c.in-Some.start + 1) < last_end c.args.rows.now - c.loop-start.from = omega (arith, below, after) in
    less

pub loop-start-preserved : goal.loop-start-preserved
loop-start-preserved c =
    let below = start_below c.args.rows.now c.in-Some.start c.in-Some.ensures.next.is in
    record {
      within = omega (arith, below);
      found = c.in_ok-push.ensures.items ∙ ap (λ xs. xs ++ c.in-Some.start ∷ []) c.loop-start.invariant.found
          ∙ sym (starts_next c.args.rows.now c.loop-start.from c.in-Some.start c.in-Some.ensures.next);
    }

pub returns : goal.returns
returns c = c.loop-start.invariant.found
    ∙ sym (starts_end c.args.rows.now c.loop-start.from c.loop-start.invariant.within c.in_default.ensures.next)
