use Rattle.std.proofs.Common.{arith}
use Rattle.lanes.proofs.EightLemmas.{but_eight_are, but_eight_only, but_eight_all}
use Rattle.lanes.proofs.words.Words.but_eight.Goals as goal

pub invariant_of-result : goal.invariant_of-result
invariant_of-result c = record {
  falls = but_eight_are c.args.self.now.times c.args.self.now.falls c.but_last.result (omega arith) c.but_last.ensures.rest c.but_last.ensures.last;
}

pub returns-clause-only : goal.returns-clause-only
returns-clause-only c =
    but_eight_only c.args.self.now.times c.args.self.now.falls c.but_last.result (omega arith) c.but_last.ensures.rest c.but_last.ensures.last

pub returns-clause-all : goal.returns-clause-all
returns-clause-all c =
    but_eight_all c.args.self.now.times c.args.self.now.falls c.but_last.result (omega arith) c.but_last.ensures.rest c.but_last.ensures.last
