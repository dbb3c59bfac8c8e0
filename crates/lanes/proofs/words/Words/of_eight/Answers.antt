use Rattle.std.proofs.Common.{refl, arith}
use Rattle.lanes.proofs.EightLemmas.{has_eight, no_eight}
use Rattle.lanes.proofs.words.Words.of_eight.Goals as goal

pub returns-then-time-self : goal.returns-then-time-self
returns-then-time-self c = no_eight c.args.self.now.times c.args.self.now.falls (omega (arith, c.if-time-self.true))

pub returns : goal.returns
returns c = (refl, has_eight c.args.self.now.times c.args.self.now.falls _ refl (omega (arith, c.if-time-self.false)))
