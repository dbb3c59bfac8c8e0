use Rattle.std.proofs.Common.{arith}
use Rattle.lanes.proofs.WordLemmas.{with_are, with_only, with_kept, with_taken}
use Rattle.lanes.proofs.words.Words.with.Goals as goal

pub invariant_of-result : goal.invariant_of-result
invariant_of-result c = record {
  falls = with_are c.args.self.now.times c.lowered_from.result c.args.value.now c.args.self.now.falls c.requires
      (omega arith) c.lowered_from.ensures.from c.lowered_from.ensures.before;
}

pub returns-clause-only : goal.returns-clause-only
returns-clause-only c = with_only c.args.self.now.times c.lowered_from.result c.args.value.now c.args.self.now.falls c.requires (omega arith)
    c.lowered_from.ensures.from c.lowered_from.ensures.before (λ _. 0)

pub returns-clause-kept : goal.returns-clause-kept
returns-clause-kept c = with_kept c.args.self.now.times c.lowered_from.result c.args.value.now c.args.self.now.falls c.requires (omega arith)
    c.lowered_from.ensures.from c.lowered_from.ensures.before (λ _. 0)

pub returns-clause-taken : goal.returns-clause-taken
returns-clause-taken c = with_taken c.args.self.now.times c.lowered_from.result c.args.value.now c.args.self.now.falls c.requires (omega arith)
    c.lowered_from.ensures.from c.lowered_from.ensures.before (λ _. 0)
