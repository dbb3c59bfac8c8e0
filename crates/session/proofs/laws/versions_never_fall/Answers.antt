use Rattle.std.proofs.Common.{arith}
use Rattle.session.proofs.SeatLemmas.{never_falls}
use Rattle.session.proofs.laws.versions_never_fall.Goals as goal

pub returns : goal.returns
returns c = λ number a b answers follows. never_falls number a.seen a b answers (omega arith) follows
