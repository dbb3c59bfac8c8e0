use Rattle.std.proofs.Common.{refl}
use Rattle.connections.proofs.StartLemmas.{stands_from}
use Rattle.connections.proofs.laws.without_frequencies.Goals as goal

pub returns-clause-once : goal.returns-clause-once
returns-clause-once c feed day t trip own = rw own refl

pub returns-clause-stands : goal.returns-clause-stands
returns-clause-stands c zone run rows start = stands_from zone run rows start
