use Rattle.std.proofs.Common.{Contains, refl, arith, rules}
use Rattle.tests_scan.specs.Examples.{footpath, with_chain}
use Rattle.tests_scan.proofs.tests.examples.walks_count.Goals as goal

to_target : Contains with_chain.footpaths (footpath 1 2 60)
to_target = (4, omega arith, refl)

pub returns-clause-after : goal.returns-clause-after
returns-clause-after c = search (rules, to_target)

pub returns-clause-chain : goal.returns-clause-chain
returns-clause-chain c = search (rules, to_target)
