use Rattle.std.proofs.Common.{◌≤◌, List, All, Contains, subst}
use Rattle.timetable.specs.declared.network.Footpath.{Footpath}
use Rattle.footpaths.proofs.ClosureLemmas.{closure_of_capped, few_pairs, longer_walk}
use Rattle.footpaths.proofs.closure.close_within.Goals as goal

pub returns-then-has_longer-clause-fault : goal.returns-then-has_longer-clause-fault
returns-then-has_longer-clause-fault c =
    let (f, in_it, long) = c.has_longer.ensures.longer c.if-has_longer.true in
    let there : Contains c.in_ok-closed.closed.items f = subst (λ (xs : List Footpath). Contains xs f) c.deref.ensures.value in_it in (
      few_pairs c.args.listed.now c.in_ok-closed.closed.items c.args.stops c.args.longest c.requires.in_range c.in_ok-closed.ensures.closed c.args.most
          c.in_ok-closed.ensures.few,
      longer_walk c.args.listed.now c.in_ok-closed.closed.items c.args.stops c.args.longest c.requires.in_range c.in_ok-closed.ensures.closed f there long,
    )

pub returns-clause-closure : goal.returns-clause-closure
returns-clause-closure c =
    let short : All (λ f. f.secs ≤ c.args.longest) c.in_ok-closed.closed.items =
    subst (λ (xs : List Footpath). All (λ f. f.secs ≤ c.args.longest) xs) c.deref.ensures.value (c.has_longer.ensures.short c.if-has_longer.false) in
    closure_of_capped c.args.listed.now c.in_ok-closed.closed.items c.args.stops c.args.longest c.requires.in_range c.in_ok-closed.ensures.closed short
