use Rattle.std.proofs.Common.{inl, inr, arith}
use Rattle.std.proofs.lemmas.Int.{ints}
use Rattle.connections.proofs.hops.RunClock.at.Goals as goal

pub returns-then-after-lt0 : goal.returns-then-after-lt0
returns-then-after-lt0 c = let zero = c.zero.ensures.is in inl (omega (arith, ints, zero))

pub returns-then-after : goal.returns-then-after
returns-then-after c = let zero = c.zero.ensures.is in inr (omega (arith, ints, zero))
